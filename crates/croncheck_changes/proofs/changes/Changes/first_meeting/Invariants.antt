use Rattle.croner.specs.Views.{job_of}
use Rattle.croncheck_changes.proofs.Meetings.{IsNoneOf}
use Rattle.croncheck_changes.proofs.changes.Changes.first_meeting.Given as goal

abbrev pub invariant-loop-change : goal.invariant-loop-change
invariant-loop-change l = IsNoneOf (job_of l.fn.job) l.fn.range l.fn.self.items.items l.change-index
