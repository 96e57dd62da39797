use Rattle.std.proofs.Common.{◌∙◌, ◌++◌, refl, ap, arith, get_or, length, map, List, [], ◌∷◌}
use Rattle.std.proofs.lemmas.List.Sums.{length-filter, count_by-le-length}
use Rattle.std.proofs.lemmas.Result.{on_ok_weaker}
use Rattle.std.specs.Ordering.{int_eq}
use Rattle.cronplan.specs.declared.moments.Moment.{Moment}
use Rattle.cronplan.specs.declared.start.JobStart.{JobStart}
use Rattle.cronplan.specs.Counts.{count_of}
use Rattle.cronplan.specs.Private.Meetings.{seen_of, seen_if_several}
use Rattle.cronplan.specs.Private.MomentsUntil.{moment_of}
use Rattle.cronplan.specs.Together.{jobs_of}
use Rattle.cronplan.proofs.JobSets.{seen_moments}
use Rattle.cronplan.proofs.MomentStarts.{none_start, same_until, next_until, count_at}
use Rattle.cronplan.proofs.together.push_meeting.Goals as goal

pub returns-in-None : goal.returns-in-None
returns-in-None c = λ until. record {
  moments = until.moments;
  until = same_until c.args.starts.now until.moments c.args.place none_start (omega arith) (c.in-None.ensures none_start) until.until;
  seen = until.seen;
}

pub push_if_several-requires : goal.push_if_several-requires
push_if_several-requires c =
    let i = (get_or c.args.starts.now c.args.place none_start).second in
    let group = c.in-Some.ensures none_start in
    let few = count_by-le-length (λ (s : JobStart). int_eq s.second i) c.args.starts.now in
    let same = ap (λ (xs : List JobStart). length xs) group.group_is ∙ length-filter (λ (s : JobStart). int_eq s.second i) c.args.starts.now in
    omega (arith, few, same)

pub returns-in-Some : goal.returns-in-Some
returns-in-Some c = λ until.
    let starts = c.args.starts.now in
    let x : JobStart = get_or starts c.args.place none_start in
    let group = c.in-Some.ensures none_start in
    let m : Moment = moment_of x c.in-Some.starts_then.now in
    on_ok_weaker c.push_if_several.result
    (λ seen. record {
      moments = until.moments ++ m ∷ [];
      until = next_until starts until.moments c.args.place none_start m (omega arith) group.earlier refl refl
          (ap count_of group.group_is ∙ count_at x.second starts) until.until;
      seen = seen_moments starts until.moments c.args.meetings.now.items c.push_if_several.new.meetings.items m until.seen
          (seen ∙ ap (λ (ss : List JobStart). map seen_of c.args.meetings.now.items ++ seen_if_several (jobs_of ss) m) group.group_is);
    })
    c.push_if_several.ensures
