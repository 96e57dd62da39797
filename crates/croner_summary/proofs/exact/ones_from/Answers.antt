use Rattle.std.proofs.Common.{◌≡◌, ◌-◌, ap, sym, ◌∙◌, arith}
use Rattle.croner_pattern.specs.Schedule.{is_named}
use Rattle.croner_summary.specs.Private.Exact.{ones_from}
use Rattle.croner_summary.proofs.OneByOne.{one_passed, one_pushed, ones_none}
use Rattle.croner_summary.proofs.exact.ones_from.Goals as goal
use Rattle.croner_summary.proofs.exact.ones_from.Goals.{then-has+in_ok-push, else-has}

pub loop-value-init : goal.loop-value-init
loop-value-init c =
    let zero : c.args.from - c.args.from ≡ 0 = omega arith in
    c.new-pieces.ensures.items ∙ sym (ap (ones_from (is_named c.args.bit c.args.field.now) c.args.from) zero ∙ ones_none (is_named c.args.bit c.args.field.now) c.args.from)

pub loop-value-preserved : goal.loop-value-preserved
loop-value-preserved c =
    elim c.if-has.branch [
      | then-has+in_ok-push w ↦
          one_pushed (is_named c.args.bit c.args.field.now) c.args.from c.loop-value.value c.loop-value.pieces.items c.if-has.pieces.items c.loop-value.auto.value c.loop-value.invariant
          (sym c.has.ensures ∙ w.if-has.true) (ap (λ v. v.items) w.pieces-is ∙ w.in_ok-push.ensures.items)
      | else-has w ↦
          one_passed (is_named c.args.bit c.args.field.now) c.args.from c.loop-value.value c.loop-value.pieces.items c.if-has.pieces.items c.loop-value.auto.value c.loop-value.invariant
          (sym c.has.ensures ∙ w.if-has.false) (ap (λ v. v.items) w.pieces-is)
    ]
