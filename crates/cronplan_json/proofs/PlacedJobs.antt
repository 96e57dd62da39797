-- Jobs by their places: one more.
use Rattle.std.proofs.Common.{◌≡◌, ◌∙◌, ◌+◌, ◌<◌, ◌≤◌, ◌==◌, ℕ, suc, Bool, true, false, cond, List, ◌∷◌, length, get_or, take, drop, ap, sym, add-one, arith}
use Rattle.std.proofs.lemmas.List.{at_drop_more}
use Rattle.std.proofs.lemmas.List.Sums.{sum_by_more}
use Rattle.std.specs.Prelude.{is_some}
use Rattle.serde_json.specs.Data.{Data}
use Rattle.cronplan.specs.declared.frequent.Frequent.{Frequent}
use Rattle.cronplan.specs.declared.start.JobStart.{JobStart}
use Rattle.cronplan_forms.specs.declared.job.Job.{Job}
use Rattle.cronplan_forms.specs.Frequents.{frequent_count}
use Rattle.cronplan_json.specs.Objects.{added_of, starts_of, job_starts, job_object, job_objects}

-- one start more
pub starts_of-more : (place : ℕ) (starts : List JobStart) (i : ℕ) (d : JobStart) → i < length starts
    → starts_of place (take (i + 1) starts) ≡ starts_of place (take i starts) + added_of place (get_or starts i d)
starts_of-more place starts i d h = sum_by_more (added_of place) starts i d h

-- it adds no more than its count
pub added_of_small : (place : ℕ) (s : JobStart) → added_of place s ≤ s.count
added_of_small place s = small (s.job == place) s.count where
  small : (b : Bool) (n : ℕ) → cond b n 0 ≤ n
  small true n = omega arith
  small false n = omega arith

-- the object of a job at a place
abbrev pub object_at : List Frequent → List JobStart → ℕ → Job → Data
object_at frequent starts place job = job_object job (job_starts frequent starts place) (is_some (frequent_count frequent place))

-- the object of one job more
pub objects_step : (frequent : List Frequent) (starts : List JobStart) (jobs : List Job) (i : ℕ) (x : Job) → i < length jobs → x ≡ get_or jobs i x
    → job_objects frequent starts i (drop i jobs) ≡ object_at frequent starts i x ∷ job_objects frequent starts (i + 1) (drop (i + 1) jobs)
objects_step frequent starts jobs i x h is =
    at_drop_more (job_objects frequent starts i) jobs i x h
    ∙ ap (λ (y : Job). object_at frequent starts i y ∷ job_objects frequent starts (suc i) (drop (i + 1) jobs)) (sym is)
    ∙ ap (λ (n : ℕ). object_at frequent starts i x ∷ job_objects frequent starts n (drop (i + 1) jobs)) (sym (add-one i))
