use Rattle.std.proofs.Common.{◌∙◌, sym, ap, List, ℕ, length, nat_lt, refl}
use Rattle.cronplan.proofs.JobSets.{seen_more, seen_same}
use Rattle.cronplan.specs.Private.MomentsUntil.{moment_of}
use Rattle.cronplan.specs.Together.{jobs_of}
use Rattle.cronplan.proofs.together.push_if_several.Goals as goal

pub returns-in_ok-push : goal.returns-in_ok-push
returns-in_ok-push c =
    seen_more c.args.meetings.now.items c.push.new.self.items c.in_ok-meeting.meeting (jobs_of c.args.starts_then.now) (moment_of c.args.start.now c.args.starts_then.now) c.in_ok-push.ensures.items
    c.in_ok-meeting.ensures.jobs c.in_ok-meeting.ensures.moment
    (sym (ap (λ (js : List ℕ). nat_lt 1 (length js)) c.as_slice.ensures.value) ∙ sym c.are_several.ensures ∙ c.if-are_several.true)

pub returns-else-are_several : goal.returns-else-are_several
returns-else-are_several c =
    seen_same c.args.meetings.now.items c.args.meetings.now.items c.in_ok-meeting.meeting (jobs_of c.args.starts_then.now) (moment_of c.args.start.now c.args.starts_then.now) refl
    c.in_ok-meeting.ensures.jobs
    (sym (ap (λ (js : List ℕ). nat_lt 1 (length js)) c.as_slice.ensures.value) ∙ sym c.are_several.ensures ∙ c.if-are_several.false)
