use Rattle.std.proofs.Common.{sym, subst}
use Rattle.std.specs.Prelude.{◌↔◌, IsTrue}
use Rattle.croner_base.specs.TableZone.{table_moment}
use Rattle.croner.specs.Views.{job_of}
use Rattle.croncheck_changes.specs.Changes.{IsMeeting, IsDueBeside}
use Rattle.croncheck_changes.specs.declared.changes.Meeting.{Meeting}
use Rattle.croncheck_changes.proofs.WatchedYears.{in_years}
use Rattle.croncheck_changes.proofs.changes.Changes.first_met.Goals as goal

pub met-requires : goal.met-requires
met-requires c =
    let met = c.in-Some.ensures.first.meets in
    in_years c.args.self.now.start c.in-Some.meeting.change (met.change, met.watched)

pub returns-in-Some : goal.returns-in-Some
returns-in-Some c =
    let start = table_moment c.args.self.now.start in
    let m = job_of c.args.job.now in
    record {
      meeting = subst (λ (g : Meeting). IsMeeting start.zone start.instant c.args.runner m c.args.range g) (sym c.met.ensures.meeting) c.in-Some.ensures;
      beside = subst (λ (g : Meeting). IsTrue c.met.result.is_due_beside ↔ IsDueBeside m g.range g.change) (sym c.met.ensures.meeting) c.met.ensures.beside;
    }
