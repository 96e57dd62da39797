use Rattle.std.proofs.Common.{rules, ◌≡◌, ◌==◌, length, true, false}
use Rattle.std.proofs.lemmas.List.{length_push}
use Rattle.std.proofs.lemmas.Iterator.Splits.{YieldsList-from_slice_split}
use Rattle.std.proofs.lemmas.Iterator.Consumers.{YieldsList-turn, YieldsList-end}
use Rattle.std.specs.List.{slice_split}
use Rattle.croncheck_warnings.specs.Warnings.{has_empty_item}
use Rattle.croncheck_warnings.proofs.Items.{any_here, any_next, any_end}
use Rattle.croncheck_warnings.proofs.warnings.fields.has_empty_item.Goals as goal

pub returns-then-is_empty : goal.returns-then-is_empty
returns-then-is_empty c =
    let t = YieldsList-turn (YieldsList-from_slice_split _ (λ b. b == 44) c.args.field.now (cc) (cc) (cc) (λ x b q k. search rules)) c.loop-item.yielded _ c.loop-item.yielded_by _ _ c.in-Some.item c.in-Some.is c.next.ensures.steps in
    let e : (length c.in-Some.item.now == 0) ≡ true = search rules in
    any_here (λ item. length item == 0) (slice_split (λ b. b == 44) c.args.field.now) (length c.loop-item.yielded) c.in-Some.item.now (has_empty_item c.args.field.now) t.0 t.1 e c.loop-item.invariant

pub loop-item-preserved : goal.loop-item-preserved
loop-item-preserved c =
    let t = YieldsList-turn (YieldsList-from_slice_split _ (λ b. b == 44) c.args.field.now (cc) (cc) (cc) (λ x b q k. search rules)) c.loop-item.yielded _ c.loop-item.yielded_by _ _ c.in-Some.item c.in-Some.is c.next.ensures.steps in
    let e : (length c.in-Some.item.now == 0) ≡ false = search rules in
    rw (length_push c.loop-item.yielded c.in-Some.item) (any_next (λ item. length item == 0) (slice_split (λ b. b == 44) c.args.field.now) (length c.loop-item.yielded) c.in-Some.item.now (has_empty_item c.args.field.now) t.0 t.1 e c.loop-item.invariant)

pub returns : goal.returns
returns c =
    let t = YieldsList-end (YieldsList-from_slice_split _ (λ b. b == 44) c.args.field.now (cc) (cc) (cc) (λ x b q k. search rules)) c.loop-item.yielded _ c.loop-item.yielded_by _ _ c.in-None.is c.next.ensures.steps in
    any_end (λ item. length item == 0) (slice_split (λ b. b == 44) c.args.field.now) (length c.loop-item.yielded) (has_empty_item c.args.field.now) t.1 c.loop-item.invariant
