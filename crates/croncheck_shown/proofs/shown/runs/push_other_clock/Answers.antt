use Rattle.std.proofs.Common.{w64, FitsSigned, rules}
use Rattle.std.proofs.lemmas.Int.{to_z-of_z}
use Rattle.croncheck_output.proofs.OkResults.{if_ok}
use Rattle.croncheck_shown.proofs.ClockTexts.{other_text}
use Rattle.croncheck_shown.proofs.shown.runs.push_other_clock.Goals as goal

pub returns-in-Some : goal.returns-in-Some
returns-in-Some c =
    let fits : FitsSigned w64 c.args.second = search rules in
    let shared = c.args.shared.now in
    if_ok c.push_clock_of.result
    (λ shown. (
      shown.0,
      other_text shared.language c.in-Some.zone shared.other_zone _ c.args.second shown.0 c.in-Some.is (to_z-of_z w64 c.args.second fits) shown.1,
      shown.2,
    ))
    c.push_clock_of.ensures
