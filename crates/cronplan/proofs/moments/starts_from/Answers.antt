use Rattle.std.proofs.Common.{◌≡◌, ◌∙◌, ◌≤ℤ◌, ap, sym, subst, arith, get_or, drop, is_lt}
use Rattle.std.specs.List.{All}
use Rattle.std.specs.List.Sorted.{IsSorted}
use Rattle.std.proofs.lemmas.List.{get_or_default}
use Rattle.cronplan.specs.declared.start.JobStart.{JobStart}
use Rattle.cronplan.specs.Moments.{at_second}
use Rattle.cronplan.specs.Starts.{start_cmp}
use Rattle.cronplan.proofs.AlikeElements.{sorted_from}
use Rattle.cronplan.proofs.MomentStarts.{none_start, late_drop, after_earlier}
use Rattle.cronplan.proofs.StartOrder.{start_weak}
use Rattle.cronplan.proofs.moments.starts_from.Goals as goal

pub starts_like-requires-clause-order : goal.starts_like-requires-clause-order
starts_like-requires-clause-order c =
    subst (IsSorted start_cmp) (sym c.split_at.ensures.back) (sorted_from (λ (x y : JobStart). is_lt (start_cmp x y)) start_weak c.args.starts.now c.requires.order c.args.place (omega arith))

pub starts_like-requires-clause-late : goal.starts_like-requires-clause-late
starts_like-requires-clause-late c =
    subst (All (λ (s : JobStart). (get_or c.args.starts.now c.args.place none_start).second ≤ℤ s.second)) (sym c.split_at.ensures.back)
    (late_drop c.args.starts.now c.requires.order c.args.place none_start (omega arith))

pub returns-then-is_new : goal.returns-then-is_new
returns-then-is_new c = λ d.
    let x = get_or c.args.starts.now c.args.place none_start in
    let same : x ≡ get_or c.args.starts.now c.args.place d = get_or_default c.args.starts.now c.args.place none_start d (omega arith) in
    let before = c.is_new.ensures.new c.if-is_new.true d in
    record {
      group_is = c.starts_like.ensures ∙ ap (at_second x.second) c.split_at.ensures.back ∙ ap (λ (y : JobStart). at_second y.second (drop c.args.place c.args.starts.now)) same
          ∙ after_earlier (get_or c.args.starts.now c.args.place d).second c.args.starts.now c.args.place before;
      earlier = before;
    }
