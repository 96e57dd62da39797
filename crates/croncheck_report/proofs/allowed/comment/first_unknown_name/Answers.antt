use Rattle.std.proofs.Common.{rules, ◌≡◌, length, true, false}
use Rattle.std.proofs.lemmas.List.{length_push}
use Rattle.std.proofs.lemmas.Iterator.Splits.{YieldsList-from_slice_split}
use Rattle.std.proofs.lemmas.Iterator.Consumers.{YieldsList-turn, YieldsList-end}
use Rattle.croncheck_report.specs.Allowed.{is_between, is_unknown, first_so, items_of}
use Rattle.croncheck_report.proofs.FirstItems.{first_here, first_next, first_end}
use Rattle.croncheck_report.proofs.allowed.comment.first_unknown_name.Goals as goal

pub returns-then-is_unknown : goal.returns-then-is_unknown
returns-then-is_unknown c =
    let t = YieldsList-turn (YieldsList-from_slice_split _ (λ b. is_between b) c.args.list.now (cc) (cc) (cc) (λ x b q k. search rules)) c.loop-item.yielded _ c.loop-item.yielded_by _ _ c.in-Some.item c.in-Some.is c.next.ensures.steps in
    let e : is_unknown c.in-Some.item.now ≡ true = search rules in
    first_here is_unknown (items_of c.args.list.now) (length c.loop-item.yielded) c.in-Some.item.now (first_so is_unknown (items_of c.args.list.now)) t.0 t.1 e c.loop-item.invariant

pub loop-item-preserved : goal.loop-item-preserved
loop-item-preserved c =
    let t = YieldsList-turn (YieldsList-from_slice_split _ (λ b. is_between b) c.args.list.now (cc) (cc) (cc) (λ x b q k. search rules)) c.loop-item.yielded _ c.loop-item.yielded_by _ _ c.in-Some.item c.in-Some.is c.next.ensures.steps in
    let e : is_unknown c.in-Some.item.now ≡ false = search rules in
    rw (length_push c.loop-item.yielded c.in-Some.item) (first_next is_unknown (items_of c.args.list.now) (length c.loop-item.yielded) c.in-Some.item.now (first_so is_unknown (items_of c.args.list.now)) t.0 t.1 e c.loop-item.invariant)

pub returns : goal.returns
returns c =
    let t = YieldsList-end (YieldsList-from_slice_split _ (λ b. is_between b) c.args.list.now (cc) (cc) (cc) (λ x b q k. search rules)) c.loop-item.yielded _ c.loop-item.yielded_by _ _ c.in-None.is c.next.ensures.steps in
    first_end is_unknown (items_of c.args.list.now) (length c.loop-item.yielded) (first_so is_unknown (items_of c.args.list.now)) t.1 c.loop-item.invariant
