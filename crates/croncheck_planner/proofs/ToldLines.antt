-- What a line leaves in a plan, from what the steps of taking it leave.
use Rattle.std.proofs.Common.{◌≡◌, ◌∙◌, ℕ, List, Option, ap, subst, sym, refl}
use Rattle.std.specs.Prelude.{unwrap_or}
use Rattle.std.specs.declared.alloc.Global.{Global}
use Rattle.std.specs.declared.vec.Vec.{Vec}
use Rattle.cronplan_jobs.specs.declared.listing.Schedule.{Schedule}
use Rattle.crontab.specs.declared.content.Outcome.{Outcome}
use Rattle.crontab.specs.declared.line.Dialect.{Dialect}
use Rattle.crontab.specs.declared.line.Entry.{Entry}
use Rattle.crontab.specs.Checked.{LineRead, IsEntryOf}
use Rattle.crontab.specs.Content.{IsOutcome}
use Rattle.cronplan_forms.specs.declared.asked.PlanAsked.{PlanAsked}
use Rattle.croncheck_planner.specs.declared.planner.Planned.{Planned}
use Rattle.croncheck_planner.specs.declared.planner.Planner.{Planner}
use Rattle.croncheck_report.specs.declared.settings.Settings.{Settings}
use Rattle.croncheck_output.specs.Output.{Written}
use Rattle.croncheck_planner.specs.Planner.{Seen, seen, PlansOutcome, Plans, above_at, ignored_after}
use Rattle.croncheck_reading.specs.Sink.{State}
use Rattle.croncheck_reading.specs.Stand.{Stand, at_line}
use Rattle.croncheck_planner.specs.declared.plan.title.Heading.{Heading}
use Rattle.croncheck_planner.specs.Titles.{HeadingSeen, heading, heading_seen}

seen_same : (jobs jobs' : Vec Schedule Global) (shown shown' : Vec Planned Global) (stand stand' : Stand) (written : Written) → jobs' ≡ jobs → shown' ≡ shown → stand' ≡ stand
    → seen jobs' shown' stand' written ≡ seen jobs shown stand written
seen_same jobs jobs' shown shown' stand stand' written a b d = cc

plans_same : (s : Settings) (text : List ℕ) (entry : Entry) (found : Outcome) (asked asked' : PlanAsked) (above above' : List ℕ) (old old' new new' : Seen)
    → asked' ≡ asked → above' ≡ above → old' ≡ old → new' ≡ new → PlansOutcome s asked' above' text entry found old' new' → PlansOutcome s asked above text entry found old new
plans_same s text entry found asked asked' above above' old old' new new' a b o n h =
    subst (λ (x : PlanAsked). PlansOutcome s x above text entry found old new) a
    (subst (λ (x : List ℕ). PlansOutcome s asked' x text entry found old new) b
    (subst (λ (x : Seen). PlansOutcome s asked' above' text entry found x new) o
    (subst (λ (x : Seen). PlansOutcome s asked' above' text entry found old' x) n h)))

-- what holds of the planner as a file begins, of it after the line, and of it with the line's title and what was made of its file
pub record Steps (dialect : Dialect) (old : State Planner) (y : LineRead) (here : Stand) (title : Option HeadingSeen) (begun taken : Planner) (new : State Planner) : Type 0 where
  pub begun_above : heading_seen begun.above ≡ above_at old.stand.lines (heading_seen old.form.above)
  pub begun_schedules : begun.schedules ≡ old.form.schedules
  pub begun_jobs : begun.jobs ≡ old.form.jobs
  pub begun_ignored : begun.ignored ≡ old.form.ignored
  pub begun_asked : begun.asked ≡ old.form.asked
  pub begun_names : begun.names ≡ old.form.names
  pub here_is : here ≡ at_line y.is y.is_fed old.stand
  pub title_is : unwrap_or title (heading_seen begun.above) ≡ heading (heading_seen begun.above) y.is y.bytes
  pub taken_above : taken.above ≡ begun.above
  pub taken_ignored : taken.ignored ≡ begun.ignored
  pub taken_asked : taken.asked ≡ begun.asked
  pub taken_names : taken.names ≡ begun.names
  pub new_above : heading_seen new.form.above ≡ unwrap_or title (heading_seen taken.above)
  pub new_schedules : new.form.schedules ≡ taken.schedules
  pub new_jobs : new.form.jobs ≡ taken.jobs
  pub new_ignored : new.form.ignored.items ≡ ignored_after dialect new.stand taken.ignored.items
  pub new_asked : new.form.asked ≡ taken.asked
  pub new_names : new.form.names ≡ taken.names

pub takes_line : (s : Settings) (old : State Planner) (y : LineRead) (entry : Entry) (found : Outcome) (here : Stand) (title : Option HeadingSeen) (begun taken : Planner) (new : State Planner)
    → IsEntryOf y entry → IsOutcome s.parser y.is found → Steps s.dialect old y here title begun taken new
    → PlansOutcome s begun.asked begun.above.title.items y.bytes entry found (seen begun.schedules begun.jobs here old.written) (seen taken.schedules taken.jobs new.stand new.written)
    → Plans s old y new
takes_line s old y entry found here title begun taken new is read steps plans = record {
  entry = entry;
  found = found;
  entry_is = is;
  read = read;
  planned = plans_same s y.bytes entry found _ _ _ _ _ _ _ _ steps.begun_asked (ap (λ (h : HeadingSeen). h.title) steps.begun_above)
      (seen_same old.form.schedules begun.schedules old.form.jobs begun.jobs (at_line y.is y.is_fed old.stand) here old.written steps.begun_schedules steps.begun_jobs steps.here_is)
      (seen_same new.form.schedules taken.schedules new.form.jobs taken.jobs new.stand new.stand new.written (sym steps.new_schedules) (sym steps.new_jobs) refl) plans;
  above = steps.new_above ∙ ap (λ (h : Heading). unwrap_or title (heading_seen h)) steps.taken_above ∙ steps.title_is
      ∙ ap (λ (h : HeadingSeen). heading h y.is y.bytes) steps.begun_above;
  ignored = steps.new_ignored ∙ ap (λ (ignored : Vec ℕ Global). ignored_after s.dialect new.stand ignored.items) (steps.taken_ignored ∙ steps.begun_ignored);
  asked = steps.new_asked ∙ steps.taken_asked ∙ steps.begun_asked;
  names = steps.new_names ∙ steps.taken_names ∙ steps.begun_names;
}
