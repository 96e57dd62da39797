use Rattle.std.proofs.Common.{◌∙◌, ◌*ℤ◌, ℤ, pos, [], w64, FitsSigned, ap, sym, rules}
use Rattle.std.proofs.lemmas.Int.{to_z-of_z}
use Rattle.std.proofs.lemmas.List.{append-nil}
use Rattle.jiff.specs.ZoneView.{plain_zone}
use Rattle.jiff_core.specs.Timestamp.{IsTimestampNanos}
use Rattle.croncheck_output.proofs.OkResults.{if_ok}
use Rattle.croncheck_shown.proofs.ClockTexts.{has_second, has_no_second, other_of, no_other_of}
use Rattle.croncheck_shown.proofs.shown.other_clock.push_clock_of.Goals as goal

pub returns-in-Ok : goal.returns-in-Ok
returns-in-Ok c =
    let fits : FitsSigned w64 c.args.second = search rules in
    let held : IsTimestampNanos (c.args.second *ℤ pos 1_000_000_000) = search rules in
    if_ok c.push_clock_at.result
    (λ shown. (shown.0, other_of c.args.language (plain_zone c.args.zone.now) c.args.second shown.0 (has_second c.args.second held) shown.1, shown.2))
    (c.push_clock_at.ensures c.args.second (c.in-Ok.ensures.value ∙ ap (λ (i : ℤ). i *ℤ pos 1_000_000_000) (to_z-of_z w64 c.args.second fits)))

pub returns-in-Err : goal.returns-in-Err
returns-in-Err c =
    let none : IsTimestampNanos (c.args.second *ℤ pos 1_000_000_000) → ⊥ = search rules in
    ([], no_other_of c.args.language (plain_zone c.args.zone.now) c.args.second (has_no_second c.args.second none), sym (append-nil _))
