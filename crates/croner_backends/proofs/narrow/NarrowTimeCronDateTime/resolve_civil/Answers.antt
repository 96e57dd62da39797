use Rattle.std.proofs.Common.{◌∙◌, sym, refl, false}
use Rattle.croner_base.specs.TableZone.{table_zone}
use Rattle.croner_base.specs.declared.errors.CronError.{CronError}
use Rattle.croner_base.specs.declared.errors.CronError.TheVariants.{InvalidTime}
use Rattle.croner_base.specs.declared.time.value.Resolution.TheVariants.{Gap}
use Rattle.croner_base.specs.Zone.{IsUnheld}
use Rattle.croner_backends.specs.Narrow.{narrow}
use Rattle.croner_backends.proofs.Narrowed.{some_true, none_false, refused_as, held, not_held, not_resolved, unheld_none, single_kept, single_out, two_kept, first_out, second_out}
use Rattle.croner_backends.proofs.narrow.NarrowTimeCronDateTime.resolve_civil.Goals as goal
use Rattle.croner_backends.proofs.narrow.NarrowTimeCronDateTime.resolve_civil.Goals.{in-Ok-Single+in-Some, in-Ok-Single+in-None, in-Ok-Ambiguous+in-Some-Some, in-Ok-Ambiguous+in_default, in_default-via-in-Some+in_default, in_default-via-in_default, in-Ok-Gap+then-skips, in-Ok-Gap+else-skips, in-Err}

pub returns-clause-value : goal.returns-clause-value
returns-clause-value c =
    let s = c.args.self.now in
    let z = table_zone s.time.table.now in
    elim c.match-resolve_civil.branch [
      | in-Ok-Single+in-Some w ↦
          let r = rw w.in-Ok-Single.field-0-is at w.in-Ok-Single.ensures.value in
          let b = w.in-Some.ensures in
          rw w.result-is (single_kept z s.low s.high c.args.civil w.in-Ok-Single.time w.in-Some.kept r (some_true w.in-Some.kept _ b.some) b.value)
      | in-Ok-Single+in-None w ↦ rw w.result-is tt
      | in-Ok-Ambiguous+in-Some-Some w ↦
          let r = rw w.in-Ok-Ambiguous.field-0-is at w.in-Ok-Ambiguous.ensures.value in
          let k = w.in-Some-Some.first in
          let l = w.in-Some-Some.second in
          let a = w.in-Some-Some.ensures in
          let b = w.in-Some-Some.ensures' in
          rw w.result-is (two_kept z s.low s.high c.args.civil w.in-Ok-Ambiguous.earlier w.in-Ok-Ambiguous.later k l r (some_true k _ a.some) (some_true l _ b.some) a.value b.value)
      | in-Ok-Ambiguous+in_default w ↦ rw w.result-is tt
      | in-Ok-Gap+then-skips w ↦
          let a = w.in-Ok-Gap.ensures in
          let r = rw w.in-Ok-Gap.field-0-is at a.value in
          let skipped = w.skips.ensures (a.held.0 refl) in
          rw w.result-is (held z s.low s.high c.args.civil Gap r (sym skipped ∙ w.if-skips.true))
      | in-Ok-Gap+else-skips w ↦ rw w.result-is tt
      | in-Err w ↦ rw w.result-is tt
    ]

pub returns-clause-err : goal.returns-clause-err
returns-clause-err c =
    let s = c.args.self.now in
    let z = table_zone s.time.table.now in
    let d = c.args.civil in
    let Refused : CronError → Type 0 = IsUnheld false (narrow z s.low s.high) d in
    elim c.match-resolve_civil.branch [
      | in-Ok-Single+in-Some w ↦ rw w.result-is tt
      | in-Ok-Single+in-None w ↦
          let r = rw w.in-Ok-Single.field-0-is at w.in-Ok-Single.ensures.value in
          let out = single_out z s.low s.high d w.in-Ok-Single.time r (none_false w.kept.result _ w.in-None.is w.kept.ensures.some) in
          refused_as Refused c.match-resolve_civil.result out (λ e is. let same = sym is ∙ w.result-is in cc)
      | in-Ok-Ambiguous+in-Some-Some w ↦ rw w.result-is tt
      | in-Ok-Ambiguous+in_default w ↦
          let r = rw w.in-Ok-Ambiguous.field-0-is at w.in-Ok-Ambiguous.ensures.value in
          let first = w.kept-in-Ok-Ambiguous in
          let second = w.kept-in-Ok-Ambiguous-2 in
          let out : Refused InvalidTime =
          elim w.in_default.branch [
            | in_default-via-in-Some+in_default v ↦
                second_out z s.low s.high d w.in-Ok-Ambiguous.earlier w.in-Ok-Ambiguous.later r (none_false second.result _ v.in_default.is-1 second.ensures.some)
            | in_default-via-in_default v ↦
                first_out z s.low s.high d w.in-Ok-Ambiguous.earlier w.in-Ok-Ambiguous.later r (none_false first.result _ v.in_default.is-0 first.ensures.some)
          ] in
          refused_as Refused c.match-resolve_civil.result out (λ e is. let same = sym is ∙ w.result-is in cc)
      | in-Ok-Gap+then-skips w ↦ rw w.result-is tt
      | in-Ok-Gap+else-skips w ↦
          let a = w.in-Ok-Gap.ensures in
          let r = rw w.in-Ok-Gap.field-0-is at a.value in
          let skipped = w.skips.ensures (a.held.0 refl) in
          let out = not_held z s.low s.high d Gap r (sym skipped ∙ w.if-skips.false) in
          refused_as Refused c.match-resolve_civil.result out (λ e is. let same = sym is ∙ w.result-is in cc)
      | in-Err w ↦
          let out = not_resolved z s.low s.high d (unheld_none z d w.in-Err.field-0 w.in-Err.ensures.err) in
          refused_as Refused c.match-resolve_civil.result out (λ e is. let same = sym is ∙ w.result-is in cc)
    ]
