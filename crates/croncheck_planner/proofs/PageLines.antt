-- What a line leaves in a page's planner, from what the steps of taking it leave.
use Rattle.std.proofs.Common.{◌≡◌, ℕ, List, Bool, Option, subst}
use Rattle.std.specs.declared.alloc.Global.{Global}
use Rattle.std.specs.declared.vec.Vec.{Vec}
use Rattle.croner.specs.declared.job.Cron.{Cron}
use Rattle.crontab.specs.Line.{Line}
use Rattle.croncheck_findings.specs.declared.findings.Finding.{Finding}
use Rattle.croncheck_output.specs.Output.{Written}
use Rattle.cronplan_forms.specs.declared.asked.PlanAsked.{PlanAsked}
use Rattle.croncheck_planner.specs.PagePlans.{KeepsIf, TellsLine}
use Rattle.croncheck_planner.specs.Planner.{Jobs}
use Rattle.croncheck_report.specs.declared.report.Report.{Report}
use Rattle.croncheck_report.specs.declared.settings.Settings.{Settings}

pub kept_same : (s : Settings) (asked asked' : PlanAsked) (above above' file file' : List ℕ) (number line line' : ℕ) (is : Line) (job : Option Cron) (old old' new new' : Jobs) (b : Bool)
    → asked' ≡ asked → above' ≡ above → file' ≡ file → line' ≡ line → old' ≡ old → new' ≡ new → KeepsIf s asked' above' number file' line' is job old' new' b → KeepsIf s asked above number file line is job old new b
kept_same s asked asked' above above' file file' number line line' is job old old' new new' b a u f l o n h =
    subst (λ (x : PlanAsked). KeepsIf s x above number file line is job old new b) a
    (subst (λ (x : List ℕ). KeepsIf s asked' x number file line is job old new b) u
    (subst (λ (x : List ℕ). KeepsIf s asked' above' number x line is job old new b) f
    (subst (λ (x : ℕ). KeepsIf s asked' above' number file' x is job old new b) l
    (subst (λ (x : Jobs). KeepsIf s asked' above' number file' line' is job x new b) o
    (subst (λ (x : Jobs). KeepsIf s asked' above' number file' line' is job old' x b) n h)))))

pub tells_same : (file file' : List ℕ) (line line' : ℕ) (b : Bool) (report : Report) (found : Vec Finding Global) (old old' new : List (Vec Finding Global)) (before after : Written)
    → file' ≡ file → line' ≡ line → old' ≡ old → TellsLine file' line' b report found old' new before after → TellsLine file line b report found old new before after
tells_same file file' line line' b report found old old' new before after f l o h =
    subst (λ (x : List ℕ). TellsLine x line b report found old new before after) f
    (subst (λ (x : ℕ). TellsLine file' x b report found old new before after) l
    (subst (λ (x : List (Vec Finding Global)). TellsLine file' line' b report found x new before after) o h))
