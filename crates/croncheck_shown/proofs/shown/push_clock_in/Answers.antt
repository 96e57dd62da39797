use Rattle.std.proofs.Common.{◌∙◌, w64, FitsSigned, rules}
use Rattle.std.proofs.lemmas.Int.{to_z-of_z}
use Rattle.jiff.specs.ZoneView.{plain_zone}
use Rattle.croncheck_shown.proofs.ClockTexts.{clock_said}
use Rattle.croncheck_output.proofs.OkResults.{if_ok}
use Rattle.croncheck_shown.proofs.shown.push_clock_in.Goals as goal

pub returns : goal.returns
returns c =
    let second_fits : FitsSigned w64 c.second.result = search rules in
    if_ok c.write.result
    (λ is. clock_said c.args.language (plain_zone c.args.shared.now.zone) c.args.run.now c.to_civil.result _ _ _ _ _ _ c.to_civil.ensures c.civil_weekday.ensures c.weekday_text.ensures
    c.ahead_at.ensures (to_z-of_z w64 c.second.result second_fits ∙ c.second.ensures.value) is)
    c.write.ensures.bytes
