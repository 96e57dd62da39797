-- Jobs that lack a start where the clock is put forward: one job more.
use Rattle.std.proofs.Common.{◌≡◌, ◌⊎◌, ◌<◌, ◌≤◌, ◌+◌, ◌∙◌, ℕ, List, [], ◌∷◌, ◌++◌, Option, inl, inr, refl, sym, ap, subst, arith, rules, length, get_or}
use Rattle.std.proofs.lemmas.Bool.{cases_lt}
use Rattle.std.proofs.lemmas.List.{get_or_append_left, get_or_default, get_or_push, length-append, append-nil, append_assoc}
use Rattle.croner_base.specs.declared.time.table.TableTime.{TableTime}
use Rattle.cronplan_forms.specs.declared.view.Dropped.{Dropped}
use Rattle.cronplan_jobs.specs.declared.listing.Schedule.{Schedule}
use Rattle.croncheck_changes.specs.declared.changes.meetings.Met.{Met}
use Rattle.croncheck_planner.specs.Dropped.{AreGapsOf, AreDropped, IsGapOf, dropped_by, dropped_from}

-- so many jobs were looked at, and these of them lack a start
pub record LookedAt (start : TableTime) (jobs : List Schedule) (k : ℕ) (dropped : List Dropped) : Type 0 where
  pub mets : List (Option Met)
  pub count : length mets ≡ k
  pub gaps_are : (place : ℕ) (job : Schedule) (met : Option Met) → place < k → IsGapOf start (get_or jobs place job) (get_or mets place met)
  pub dropped_are : dropped ≡ dropped_from 0 mets

pub none_looked_at : (start : TableTime) (jobs : List Schedule) (dropped : List Dropped) → dropped ≡ [] → LookedAt start jobs 0 dropped
none_looked_at start jobs dropped none = record {
  mets = [];
  count = refl;
  gaps_are = λ place job met below. absurd (omega (arith, below));
  dropped_are = none;
}

-- one job more comes last
dropped_more : (place : ℕ) (mets : List (Option Met)) (met : Option Met)
    → dropped_from place (mets ++ met ∷ []) ≡ dropped_from place mets ++ dropped_by (place + length mets) met
dropped_more place [] met =
    let here : place ≡ place + 0 = omega arith in
    append-nil (dropped_by place met) ∙ ap (λ (n : ℕ). dropped_by n met) here
dropped_more place (first ∷ mets) met =
    let there : place + 1 + length mets ≡ place + length (first ∷ mets) = omega arith in
    let own = dropped_by place first in
    let rest = dropped_from (place + 1) mets in
    ap (λ (l : List Dropped). own ++ l) (dropped_more (place + 1) mets met)
    ∙ (sym (append_assoc own rest (dropped_by (place + 1 + length mets) met)) ∙ ap (λ (n : ℕ). own ++ rest ++ dropped_by n met) there)

module _ (start : TableTime) (jobs : List Schedule) (k : ℕ) (old : List Dropped) (looked : LookedAt start jobs k old) where
  -- the gap of the job at k stands at k, those of the jobs before it stay
  gap_at : (own : Option Met) (job : Schedule) → k < length jobs → job ≡ get_or jobs k job → IsGapOf start job own
      → (place : ℕ) (other : Schedule) (met : Option Met) → place < k + 1 → (place < k) ⊎ (k ≤ place)
      → IsGapOf start (get_or jobs place other) (get_or (looked.mets ++ own ∷ []) place met)
  gap_at own job within is gap place other met below (inl earlier) =
      let there : get_or (looked.mets ++ own ∷ []) place met ≡ get_or looked.mets place met =
      get_or_append_left looked.mets (own ∷ []) met place (subst (λ n. place < n) (sym looked.count) earlier) in
      subst (λ (m : Option Met). IsGapOf start (get_or jobs place other) m) (sym there) (looked.gaps_are place other met earlier)
  gap_at own job within is gap place other met below (inr late) =
      let here : k ≡ place = omega (arith, below, late) in
      let own_job : job ≡ get_or jobs place other =
      is ∙ (get_or_default jobs k job other within ∙ ap (λ n. get_or jobs n other) here) in
      let own_gap : get_or (looked.mets ++ own ∷ []) place met ≡ own = get_or_push looked.mets own met place (looked.count ∙ here) in
      subst (λ (m : Option Met). IsGapOf start (get_or jobs place other) m) (sym own_gap) (subst (λ (j : Schedule). IsGapOf start j own) own_job gap)

  pub next_job : (new : List Dropped) (job : Schedule) → k < length jobs → job ≡ get_or jobs k job
      → ((met : Option Met) × IsGapOf start job met × (new ≡ old ++ dropped_by k met))
      → LookedAt start jobs (k + 1) new
  next_job new job within is met =
      let place : k ≡ 0 + length looked.mets = omega (arith, looked.count) in
      record {
        mets = looked.mets ++ met.0 ∷ [];
        count = length-append looked.mets (met.0 ∷ []) ∙ ap (λ n. n + 1) looked.count;
        gaps_are = λ at other other_met below. gap_at met.0 job within is met.1 at other other_met below (cases_lt at k);
        dropped_are = met.2
            ∙ (ap (λ (l : List Dropped). l ++ dropped_by k met.0) looked.dropped_are
            ∙ (ap (λ (n : ℕ). dropped_from 0 looked.mets ++ dropped_by n met.0) place ∙ sym (dropped_more 0 looked.mets met.0)));
      }

  pub all_jobs : length jobs ≡ k → AreDropped start jobs old
  all_jobs all = (
    looked.mets,
    record {
      beside = looked.count ∙ sym all;
      gaps_are = λ place job met within. looked.gaps_are place job met (subst (λ n. place < n) all within);
    },
    looked.dropped_are,
  )
