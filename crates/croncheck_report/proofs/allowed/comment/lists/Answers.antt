use Rattle.std.proofs.Common.{rules, ◌≡◌, length, true, false}
use Rattle.std.proofs.lemmas.List.{length_push}
use Rattle.std.proofs.lemmas.Iterator.Splits.{YieldsList-from_slice_split}
use Rattle.std.proofs.lemmas.Iterator.Consumers.{YieldsList-turn, YieldsList-end}
use Rattle.std.specs.Str.{bytes_eq}
use Rattle.croncheck_report.specs.Allowed.{is_between, items_of, lists}
use Rattle.croncheck_warnings.proofs.Items.{any_here, any_next, any_end}
use Rattle.croncheck_report.proofs.allowed.comment.lists.Goals as goal

pub returns-then-is_text : goal.returns-then-is_text
returns-then-is_text c =
    let t = YieldsList-turn (YieldsList-from_slice_split _ (λ b. is_between b) c.args.list.now (cc) (cc) (cc) (λ x b q k. search rules)) c.loop-item.yielded _ c.loop-item.yielded_by _ _ c.in-Some.item c.in-Some.is c.next.ensures.steps in
    let e : bytes_eq c.args.name.now c.in-Some.item.now ≡ true = search rules in
    any_here (λ item. bytes_eq c.args.name.now item) (items_of c.args.list.now) (length c.loop-item.yielded) c.in-Some.item.now (lists c.args.list.now c.args.name.now) t.0 t.1 e c.loop-item.invariant

pub loop-item-preserved : goal.loop-item-preserved
loop-item-preserved c =
    let t = YieldsList-turn (YieldsList-from_slice_split _ (λ b. is_between b) c.args.list.now (cc) (cc) (cc) (λ x b q k. search rules)) c.loop-item.yielded _ c.loop-item.yielded_by _ _ c.in-Some.item c.in-Some.is c.next.ensures.steps in
    let e : bytes_eq c.args.name.now c.in-Some.item.now ≡ false = search rules in
    rw (length_push c.loop-item.yielded c.in-Some.item) (any_next (λ item. bytes_eq c.args.name.now item) (items_of c.args.list.now) (length c.loop-item.yielded) c.in-Some.item.now (lists c.args.list.now c.args.name.now) t.0 t.1 e c.loop-item.invariant)

pub returns : goal.returns
returns c =
    let t = YieldsList-end (YieldsList-from_slice_split _ (λ b. is_between b) c.args.list.now (cc) (cc) (cc) (λ x b q k. search rules)) c.loop-item.yielded _ c.loop-item.yielded_by _ _ c.in-None.is c.next.ensures.steps in
    any_end (λ item. bytes_eq c.args.name.now item) (items_of c.args.list.now) (length c.loop-item.yielded) (lists c.args.list.now c.args.name.now) t.1 c.loop-item.invariant
