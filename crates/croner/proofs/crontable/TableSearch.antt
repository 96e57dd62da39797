-- A search over a table, as the code makes it: its jobs and their places, and what the decision answers.
use Rattle.std.proofs.Common.{◌≡◌, ◌⊎◌, ℕ, refl, sym, ap, subst, ◌∙◌, inl, inr, Bool, true, false, List, [], ◌∷◌, length, map, Option, Some, None, Result, Ok, Err}
use Rattle.std.specs.Prelude.{IfOk, IfErr}
use Rattle.std.specs.List.{AllZip}
use Rattle.std.specs.declared.alloc.Global.{Global}
use Rattle.std.specs.declared.vec.Vec.{Vec}
use Rattle.std.proofs.lemmas.List.{length-map}
use Rattle.croner_base.specs.declared.errors.CronError.{CronError}
use Rattle.croner_base.specs.declared.errors.CronError.TheVariants.{TimeSearchLimitExceeded, OutOfMemory}
use Rattle.croner_base.specs.declared.time.Direction.{Direction}
use Rattle.croner_base.specs.Zone.{Moment}
use Rattle.croner_pattern.specs.Meaning.{Meaning}
use Rattle.croner.specs.declared.job.Cron.{Cron}
use Rattle.croner.specs.Views.{job_of}
use Rattle.croner.specs.crontable.Tables.{IsTableFound, IsTableRefused}
use Rattle.croner.specs.Private.crontable.Room.{IsRefusedInRoom}
use Rattle.croner.specs.Private.crontable.Met.{MetAnswers, new_met, Decides, DecidesRefusal}
use Rattle.croner.specs.Private.search.Held.{IsBackendError}
use Rattle.croner.specs.search.Limit.{InSpan}
use Rattle.croner.specs.search.Premises.{StartsCalm, IsSearchable}
use Rattle.croner.proofs.crontable.TableRuns.{Searched, searched_none, none_met, outside_met, test_refused, found_met, refused_in_room, room_refused}

-- a copy of jobs has their patterns
pub copied_jobs : (xs ys : List Cron) → AllZip (λ a b. job_of b ≡ job_of a) xs ys → map job_of ys ≡ map job_of xs
copied_jobs [] [] z = refl
copied_jobs [] (y ∷ ys) z = absurd z
copied_jobs (x ∷ xs) [] z = absurd z
copied_jobs (x ∷ xs) (y ∷ ys) z =
    let one : job_of y ≡ job_of x = z.0 in
    let more : map job_of ys ≡ map job_of xs = copied_jobs xs ys z.1 in
    cc

module _ {T : Type 0} (moment : T → Moment) (lack : Bool) (direction : Direction) (inclusive : Bool) (start : Moment) where
  pub searched_first : (patterns : List Meaning) (met : MetAnswers T) → met ≡ new_met → Searched moment direction inclusive patterns start 0 met
  searched_first patterns met new = subst (Searched moment direction inclusive patterns start 0) (sym new) (searched_none moment direction inclusive patterns start)

  -- after the last place
  pub searched_all : (jobs : List Cron) (k : ℕ) (met : MetAnswers T) → k ≡ length jobs → Searched moment direction inclusive (map job_of jobs) start k met → Searched moment direction inclusive (map job_of jobs) start (length (map job_of jobs)) met
  searched_all jobs k met all s = subst (λ (n : ℕ). Searched moment direction inclusive (map job_of jobs) start n met) (all ∙ sym (length-map jobs job_of)) s

  module _ (patterns : List Meaning) (met : MetAnswers T) (s : Searched moment direction inclusive patterns start (length patterns) met) where
    pub refused_by : (nearest : Option T) → met.nearest ≡ nearest → (is_limited : Bool) → (e : CronError) → DecidesRefusal moment lack direction nearest is_limited e → IsRefusedInRoom lack direction inclusive patterns start e
    refused_by None at is_limited e limit = subst (IsRefusedInRoom lack direction inclusive patterns start) (sym limit) (none_met moment direction inclusive patterns start met s lack at)
    refused_by (Some t) at false e none = absurd none
    refused_by (Some t) at true e why =
        elim why [
          | inl (limit, outside) ↦ subst (IsRefusedInRoom lack direction inclusive patterns start) (sym limit) (outside_met moment direction inclusive patterns start met s t at lack outside)
          | inr error ↦ test_refused moment direction inclusive patterns start met s t at lack e error
        ]

    pub decided_refused : (places : Vec ℕ Global) (result : Result (T × Vec ℕ Global) CronError) → Decides moment lack direction met places result → IfErr result (IsRefusedInRoom lack direction inclusive patterns start)
    decided_refused places (Ok answer) decides = tt
    decided_refused places (Err e) decides = refused_by met.nearest refl met.is_limited e decides

    pub decided_found : (places : Vec ℕ Global) (result : Result (T × Vec ℕ Global) CronError) → met.places ≡ places.items → Decides moment lack direction met places result
        → IfOk result (λ r. IsTableFound direction inclusive patterns start (moment r.0) r.1.items)
    decided_found places (Ok answer) same (at, is, inside) =
        let P : List ℕ → Type 0 = IsTableFound direction inclusive patterns start (moment answer.0) in
        let items : met.places ≡ answer.1.items = same ∙ sym (ap (λ (v : Vec ℕ Global). v.items) is) in
        subst P items (found_met moment direction inclusive patterns start met s answer.0 at inside)
    decided_found places (Err e) same decides = tt

-- an answer that is refused in room is refused. The first part of the conclusion shows `grind` what to match
pub answered_in_room : {X : Type 0} (lack : Bool) (direction : Direction) (inclusive : Bool) (patterns : List Meaning) (start : Moment) (result : Result X CronError) → IfErr result (IsRefusedInRoom lack direction inclusive patterns start)
    → IfErr result (IsRefusedInRoom lack direction inclusive patterns start) × IfErr result (IsTableRefused direction inclusive patterns start)
answered_in_room lack direction inclusive patterns start (Ok x) why = (why, tt)
answered_in_room lack direction inclusive patterns start (Err e) why = (why, refused_in_room lack direction inclusive patterns start e why)

-- why a search is refused, before it has room and once it has
pub ruleset room_refusals = (room_refused, answered_in_room)

same_some : {A : Type 0} (x y : A) → Some x ≡ Some y → x ≡ y
same_some x y e = cc

-- the item of a run is a copy of it, as it is decided
module _ {T : Type 0} (moment : T → Moment) (lack : Bool) (direction : Direction) (run copy : T) (copied : moment copy ≡ moment run) (is_limited : Bool) where
  abbrev Decided : Vec ℕ Global → Result (T × Vec ℕ Global) CronError → Type 0
  Decided places result = Decides moment lack direction (record { nearest = Some copy; places = places.items; is_limited = is_limited }) places result

  pub item_copied : (places : Vec ℕ Global) (result : Result (T × Vec ℕ Global) CronError) → Decided places result → IfOk result (λ item. moment item.0 ≡ moment run)
  item_copied places (Ok item) (is, same, inside) = ap moment (sym (same_some copy item.0 is)) ∙ copied
  item_copied places (Err e) decided = tt

  pub item_places : (places : Vec ℕ Global) (waiting : List ℕ) → places.items ≡ waiting → (result : Result (T × Vec ℕ Global) CronError) → Decided places result → IfOk result (λ item. item.1.items ≡ waiting)
  item_places places waiting all (Ok item) (is, same, inside) = ap (λ (v : Vec ℕ Global). v.items) same ∙ all
  item_places places waiting all (Err e) decided = tt

  pub item_inside : (places : Vec ℕ Global) (result : Result (T × Vec ℕ Global) CronError) → Decided places result
      → IfOk result (λ item. is_limited ≡ true → StartsCalm (moment run) → InSpan direction (moment run).zone.reads (moment run).instant)
  item_inside places (Ok item) (is, same, inside) =
      let P : Moment → Type 0 = λ m. is_limited ≡ true → StartsCalm m → InSpan direction m.zone.reads m.instant in
      subst P (item_copied places (Ok item) (is, same, inside)) inside
  item_inside places (Err e) decided = tt

  refusal_of : (lim : Bool) (e : CronError) → DecidesRefusal moment lack direction (Some copy) lim e → DecidesRefusal moment lack direction (Some run) lim e
  refusal_of false e why = absurd why
  refusal_of true e why =
      let P : Moment → Type 0 = λ m. ((e ≡ TimeSearchLimitExceeded) × (StartsCalm m → ¬ (InSpan direction m.zone.reads m.instant))) ⊎ IsBackendError lack (¬ (IsSearchable m)) e in
      subst P copied why

  pub item_refused : (places : Vec ℕ Global) (result : Result (T × Vec ℕ Global) CronError) → Decided places result
      → IfErr result (λ e. (e ≡ OutOfMemory) ⊎ DecidesRefusal moment lack direction (Some run) is_limited e)
  item_refused places (Ok item) decided = tt
  item_refused places (Err e) decided = inr (refusal_of is_limited e decided)
