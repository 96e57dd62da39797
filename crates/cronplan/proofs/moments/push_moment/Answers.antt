use Rattle.std.proofs.Common.{◌∙◌, ◌+◌, refl, ap, sym, subst, arith, get_or, length, List}
use Rattle.std.proofs.lemmas.List.Sums.{length-filter, count_by-le-length}
use Rattle.std.proofs.lemmas.Result.{on_ok_weaker}
use Rattle.std.specs.Ordering.{int_eq}
use Rattle.cronplan.specs.declared.moments.Moment.{Moment}
use Rattle.cronplan.specs.declared.start.JobStart.{JobStart}
use Rattle.cronplan.specs.Counts.{count_of}
use Rattle.cronplan.specs.Private.MomentsUntil.{AreMomentsUntil, moment_of}
use Rattle.cronplan.proofs.MomentStarts.{none_start, same_until, next_until, count_at}
use Rattle.cronplan.proofs.moments.push_moment.Goals as goal

pub returns-in-None : goal.returns-in-None
returns-in-None c = same_until c.args.starts.now c.args.moments.now.items c.args.place none_start (omega arith) (c.in-None.ensures none_start)

pub push_new-requires : goal.push_new-requires
push_new-requires c =
    let i = (get_or c.args.starts.now c.args.place none_start).second in
    let group = c.in-Some.ensures none_start in
    let few = count_by-le-length (λ (s : JobStart). int_eq s.second i) c.args.starts.now in
    let same = ap (λ (xs : List JobStart). length xs) group.group_is ∙ length-filter (λ (s : JobStart). int_eq s.second i) c.args.starts.now in
    omega (arith, few, same)

pub returns-in-Some : goal.returns-in-Some
returns-in-Some c = λ until.
    let x = get_or c.args.starts.now c.args.place none_start in
    let group = c.in-Some.ensures none_start in
    on_ok_weaker c.push_new.result
    (λ e. subst (λ (ms : List Moment). AreMomentsUntil (c.args.place + 1) c.args.starts.now ms) (sym e)
    (next_until c.args.starts.now c.args.moments.now.items c.args.place none_start (moment_of x c.in-Some.starts_then.now) (omega arith) group.earlier refl refl
    (ap count_of group.group_is ∙ count_at x.second c.args.starts.now) until))
    c.push_new.ensures
