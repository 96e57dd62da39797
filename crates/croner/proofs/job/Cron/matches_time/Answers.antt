use Rattle.std.proofs.Common.{rules, arith, ◌≡◌, ◌∙◌, ◌≤◌, ◌&&◌, ap, sym, true, Ok}
use Rattle.std.proofs.lemmas.Bool.{not-false}
use Rattle.croner_pattern.specs.Meaning.{Meaning}
use Rattle.croner_pattern.specs.Schedule.{is_plain}
use Rattle.croner.specs.Views.{job_of}
use Rattle.croner.proofs.Matching.{same_ok}
use Rattle.croner.proofs.job.Cron.matches_time.Goals as goal

pub returns : goal.returns
returns c =
    let m : Meaning = job_of c.args.self.now in
    let low_second : c.second.result ≤ 59 = omega (arith, c.second.ensures, c.args.civil.time.second_in) in
    let low_minute : c.minute.result ≤ 59 = omega (arith, c.minute.ensures, c.args.civil.time.minute_in) in
    let low_hour : c.hour.result ≤ 23 = omega (arith, c.hour.ensures, c.args.civil.time.hour_in) in
    let same_second = same_ok c.in_ok-second_match.field-0 (is_plain m.seconds c.second.result) (c.in_ok-second_match.ensures.shaped c.args.self.now.shaped low_second) in
    let same_minute = same_ok c.in_ok-minute_match.field-0 (is_plain m.minutes c.minute.result) (c.in_ok-minute_match.ensures.shaped c.args.self.now.shaped low_minute) in
    let held_second : c.in_ok-second_match.field-0 ≡ true = search (rules, not-false) in
    let held_minute : c.in_ok-minute_match.field-0 ≡ true = search (rules, not-false) in
    let second : is_plain m.seconds c.args.civil.time.second ≡ true = ap (is_plain m.seconds) (sym c.second.ensures) ∙ sym same_second ∙ held_second in
    let minute : is_plain m.minutes c.args.civil.time.minute ≡ true = ap (is_plain m.minutes) (sym c.minute.ensures) ∙ sym same_minute ∙ held_minute in
    let hour : c.hour_match.result ≡ Ok (is_plain m.hours c.args.civil.time.hour) =
    c.hour_match.ensures.shaped c.args.self.now.shaped low_hour ∙ ap (λ h. Ok (is_plain m.hours h)) c.hour.ensures in
    hour ∙ ap (λ b. Ok (b && is_plain m.hours c.args.civil.time.hour)) (sym minute)
    ∙ ap (λ b. Ok (b && (is_plain m.minutes c.args.civil.time.minute && is_plain m.hours c.args.civil.time.hour))) (sym second)
