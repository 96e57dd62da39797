-- Where a search in a window starts, and what it finds.
use Rattle.std.proofs.Common.{◌≡◌, refl, sym, subst, ◌∙◌, ◌⊎◌, Bool, ℤ, pos, ◌-ℤ◌, ◌<ℤ◌, ◌≤ℤ◌, arith, inl, inr, Option, Some, None, Result, Ok, Err, IfOk, IfErr}
use Rattle.std.proofs.lemmas.Int.{ints, to_z-of_z}
use Rattle.croner.specs.Recurring.{CountsFrom, IsRunFound, IsRunRefused}
use Rattle.croner.specs.Zone.{Zone, Moment}
use Rattle.croner.specs.search.Premises.{StartsCalm}
use Rattle.croner.specs.search.Runs.{Precedes, Reaches}
use Rattle.croner_base.specs.declared.errors.CronError.{CronError}
use Rattle.croner_base.specs.declared.errors.CronError.TheVariants.{TimeSearchLimitExceeded}
use Rattle.croner_base.specs.declared.time.Direction.{Direction}
use Rattle.croner_base.specs.declared.time.Direction.TheVariants.{Forward, Backward}
use Rattle.croner_jobs.specs.Runs.{window_runs}
use Rattle.croner_jobs.specs.Served.{IsIn, IsServed, first_served, last_served}
use Rattle.croner_jobs.specs.Private.Sought.{IsFrom, IsStart, IsStartOrNone, IsPast, IsPastOrNone, IsSought, IsUnknown, IsSettled, in_window}
use Rattle.croner_jobs.proofs.Around.{not_limit}

-- ---- what counts, by its second and by what runs

pub from_of : (direction : Direction) (runs : ℤ → Type 0) (s i : ℤ) → CountsFrom direction runs s i → IsFrom direction s i
from_of Forward runs s i counts = counts.0
from_of Backward runs s i counts = counts.0

pub run_of : (direction : Direction) (runs : ℤ → Type 0) (s i : ℤ) → CountsFrom direction runs s i → runs i
run_of Forward runs s i counts = counts.1
run_of Backward runs s i counts = counts.1

pub counts_of : (direction : Direction) (runs : ℤ → Type 0) (s i : ℤ) → IsFrom direction s i → runs i → CountsFrom direction runs s i
counts_of Forward runs s i from run = (from, run)
counts_of Backward runs s i from run = (from, run)

-- ---- the start

pub at_second : (first last s : ℤ) → first ≤ℤ s → s <ℤ last → IsStart Forward first last s s
at_second first last s low high = record { low = omega (arith, ints, low); high = omega (arith, ints, high); on = λ i h. h; all = λ i in_it h. h }

pub before_first : (direction : Direction) → direction ≡ Forward → (first last s t : ℤ) → t ≡ first -ℤ pos 1 → s <ℤ first → first ≤ℤ last
    → IsStart direction first last s t
before_first direction forward first last s t is low some =
    let P : Direction → Type 0 = λ d. IsStart d first last s t in
    subst P (sym forward) (record {
      low = omega (arith, ints, is);
      high = omega (arith, ints, is, some);
      on = λ i h. omega (arith, ints, is, low, h);
      all = λ i in_it h. omega (arith, ints, is, in_it);
    })

pub none_forward : (first last s : ℤ) → last ≤ℤ s → (i : ℤ) → IsIn first last i → IsFrom Forward s i → ⊥
none_forward first last s past i in_it from = omega (arith, ints, past, in_it, from)

pub back_at_second : (first last s : ℤ) → first ≤ℤ s → s ≤ℤ last → IsStart Backward first last s s
back_at_second first last s low high = record { low = omega (arith, ints, low); high = high; on = λ i h. h; all = λ i in_it h. h }

pub back_at_last : (first last s : ℤ) → last <ℤ s → first ≤ℤ last → IsStart Backward first last s last
back_at_last first last s past some = record {
  low = omega (arith, ints, some);
  high = omega (arith, ints);
  on = λ i h. omega (arith, ints, past, h);
  all = λ i in_it h. in_it.1;
}

pub none_backward : (first last s : ℤ) → s <ℤ first → (i : ℤ) → IsIn first last i → IsFrom Backward s i → ⊥
none_backward first last s before i in_it from = omega (arith, ints, before, in_it, from)

pub none_empty : (first last : ℤ) → last <ℤ first → (i : ℤ) → IsIn first last i → ⊥
none_empty first last empty i in_it = omega (arith, ints, empty, in_it)

-- ---- beyond a second

pub past_forward : (s t : ℤ) → IsStart Forward first_served last_served s t → IsPast Forward s t
past_forward s t is = record {
  around = (omega (arith, ints, is.low), omega (arith, ints, is.high));
  on = λ i h. is.on i h;
  all = λ i served h. is.all i served h;
}

pub past_backward : (s b t : ℤ) → b ≡ s -ℤ pos 1 → IsStart Backward first_served last_served b t → IsPast Backward s t
past_backward s b t before is = record {
  around = (omega (arith, ints, is.low), omega (arith, ints, is.high));
  on = λ i h. omega (arith, ints, before, is.on i h);
  all = λ i served h. is.all i served (omega (arith, ints, before, h));
}

pub none_past_forward : (s : ℤ) → ((i : ℤ) → IsIn first_served last_served i → IsFrom Forward s i → ⊥) → (i : ℤ) → IsServed i → Precedes Forward s i → ⊥
none_past_forward s none i served h = none i served h

pub none_past_backward : (s b : ℤ) → b ≡ s -ℤ pos 1 → ((i : ℤ) → IsIn first_served last_served i → IsFrom Backward b i → ⊥)
    → (i : ℤ) → IsServed i → Precedes Backward s i → ⊥
none_past_backward s b before none i served h = none i served (omega (arith, ints, before, h))

pub none_before : (s : ℤ) → s ≤ℤ first_served → (i : ℤ) → IsServed i → Precedes Backward s i → ⊥
none_before s low i served h = omega (arith, ints, low, served, h)

pub past_of_forward : (s : ℤ) (o : Option ℤ) → IsStartOrNone Forward first_served last_served s o → IsPastOrNone Forward s o
past_of_forward s (Some t) is = past_forward s t is
past_of_forward s None none = none_past_forward s none

pub past_of_backward : (s b : ℤ) → b ≡ s -ℤ pos 1 → (o : Option ℤ) → IsStartOrNone Backward first_served last_served b o → IsPastOrNone Backward s o
past_of_backward s b before (Some t) is = past_backward s b t before is
past_of_backward s b before None none = none_past_backward s b before none

-- ---- what is found

-- what counts from a start in a window and isn't in it lies beyond it
beyond : (direction : Direction) (first last t f i : ℤ) → (first -ℤ pos 1) ≤ℤ t → t ≤ℤ last → IsFrom direction t f → (IsIn first last f → ⊥)
    → IsIn first last i → Reaches direction f i → ⊥
beyond Forward first last t f i low high from out in_it on = out (omega (arith, ints, low, from), omega (arith, ints, on, in_it))
beyond Backward first last t f i low high from out in_it on = out (omega (arith, ints, on, in_it), omega (arith, ints, from, high))

-- the limit where nothing of the window counts
pub limit_of_none : (lack : Bool) (direction : Direction) (runs : Zone → ℤ → Type 0) (start : Moment) (first last : ℤ)
    → (StartsCalm start → (i : ℤ) → CountsFrom direction (in_window first last runs start.zone) start.instant i → ⊥)
    → IsRunRefused lack direction (in_window first last runs) start TimeSearchLimitExceeded
limit_of_none lack direction runs start first last none = record {
  limit = λ calm is i span counts. none calm i counts;
  promised = λ searchable. inl refl;
  kind = inl (inl refl);
}

-- why nothing is known, of the window too
pub unknown_in : (lack : Bool) (direction : Direction) (runs : Zone → ℤ → Type 0) (start : Moment) (first last : ℤ) (e : CronError) → IsUnknown lack start e
    → IsRunRefused lack direction (in_window first last runs) start e
unknown_in lack direction runs start first last e is = record {
  limit = λ calm same. absurd (not_limit e is.other same);
  promised = λ searchable. inr (is.promised searchable);
  kind = is.kind;
}

pub none_starts : (lack : Bool) (direction : Direction) (runs : Zone → ℤ → Type 0) (start : Moment) (first last s : ℤ) → s ≡ start.instant
    → ((i : ℤ) → IsIn first last i → IsFrom direction s i → ⊥) → IsRunRefused lack direction (in_window first last runs) start TimeSearchLimitExceeded
none_starts lack direction runs start first last s second none =
    limit_of_none lack direction runs start first last
    (λ calm i counts.
    let P : ℤ → Type 0 = λ x. IsFrom direction x i in
    none i (run_of direction _ start.instant i counts).1 (subst P (sym second) (from_of direction _ start.instant i counts)))

module _ (direction : Direction) (runs : Zone → ℤ → Type 0) (start : Moment) (first last s t : ℤ) (second : s ≡ start.instant)
    (low : first_served ≤ℤ first) (high : last ≤ℤ last_served) (starts : IsStart direction first last s t) where
  -- what counts in the window counts from where the search starts
  from_there : (i : ℤ) → CountsFrom direction (in_window first last runs start.zone) start.instant i → CountsFrom direction (runs start.zone) t i
  from_there i counts =
      let P : ℤ → Type 0 = λ x. IsFrom direction x i in
      let run = run_of direction (in_window first last runs start.zone) start.instant i counts in
      counts_of direction (runs start.zone) t i
      (starts.all i run.1 (subst P (sym second) (from_of direction (in_window first last runs start.zone) start.instant i counts))) run.0

  inside : (i : ℤ) → CountsFrom direction (in_window first last runs start.zone) start.instant i → IsIn first last i
  inside i counts = (run_of direction (in_window first last runs start.zone) start.instant i counts).1

  served : (i : ℤ) → IsIn first last i → IsServed i
  served i in_it = (omega (arith, ints, low, in_it), omega (arith, ints, high, in_it))

  module _ {T : Type 0} (moment : T → Moment) (lack : Bool) where
    found_in : (run : T) → IsSought moment IsServed direction runs start.zone t (Some run) → IsIn first last (moment run).instant
        → IsRunFound direction (in_window first last runs) start (moment run)
    found_in run sought in_it = record {
      nearest = λ calm.
          let near = sought.2 calm.calm in
          let f : ℤ = (moment run).instant in
          let P : ℤ → Type 0 = λ x. IsFrom direction x f in
          record {
            counts = counts_of direction (in_window first last runs start.zone) start.instant f
                (subst P second (starts.on f (from_of direction (runs start.zone) t f near.counts)))
                (run_of direction (runs start.zone) t f near.counts, in_it);
            nearest = λ j counts. near.nearest j (served j (inside j counts)) (from_there j counts);
          };
      zone = sought.0;
      whole = sought.1;
    }

    found_out : (run : T) → IsSought moment IsServed direction runs start.zone t (Some run) → (IsIn first last (moment run).instant → ⊥)
        → IsRunRefused lack direction (in_window first last runs) start TimeSearchLimitExceeded
    found_out run sought out =
        limit_of_none lack direction runs start first last
        (λ calm i counts.
        let near = sought.2 calm.calm in
        let f : ℤ = (moment run).instant in
        beyond direction first last t f i starts.low starts.high (from_of direction (runs start.zone) t f near.counts) out (inside i counts)
        (near.nearest i (served i (inside i counts)) (from_there i counts)))

    found_none : IsSought moment IsServed direction runs start.zone t None
        → IsRunRefused lack direction (in_window first last runs) start TimeSearchLimitExceeded
    found_none sought =
        limit_of_none lack direction runs start first last (λ calm i counts. sought calm.calm i (served i (inside i counts)) (from_there i counts))

    -- the same of what a call answers
    pub settled_found : (q : Result (Option T) CronError) (r : Result T CronError) → IfOk q (IsSought moment IsServed direction runs start.zone t)
        → IsSettled moment first last q r → IfOk r (λ x. IsRunFound direction (in_window first last runs) start (moment x))
    settled_found (Ok (Some run)) r sought (inl there) =
        let P : Result T CronError → Type 0 = λ x. IfOk x (λ y. IsRunFound direction (in_window first last runs) start (moment y)) in
        subst P (sym there.0) (found_in run sought there.1)
    settled_found (Ok (Some run)) r sought (inr out) =
        let P : Result T CronError → Type 0 = λ x. IfOk x (λ y. IsRunFound direction (in_window first last runs) start (moment y)) in
        subst P (sym out.0) tt
    settled_found (Ok None) r sought same =
        let P : Result T CronError → Type 0 = λ x. IfOk x (λ y. IsRunFound direction (in_window first last runs) start (moment y)) in
        subst P (sym same) tt
    settled_found (Err e) r sought same =
        let P : Result T CronError → Type 0 = λ x. IfOk x (λ y. IsRunFound direction (in_window first last runs) start (moment y)) in
        subst P (sym same) tt

    pub settled_refused : (q : Result (Option T) CronError) (r : Result T CronError) → IfOk q (IsSought moment IsServed direction runs start.zone t)
        → IfErr q (IsUnknown lack start) → IsSettled moment first last q r → IfErr r (IsRunRefused lack direction (in_window first last runs) start)
    settled_refused (Ok (Some run)) r sought unknown (inl there) =
        let P : Result T CronError → Type 0 = λ x. IfErr x (IsRunRefused lack direction (in_window first last runs) start) in
        subst P (sym there.0) tt
    settled_refused (Ok (Some run)) r sought unknown (inr out) =
        let P : Result T CronError → Type 0 = λ x. IfErr x (IsRunRefused lack direction (in_window first last runs) start) in
        subst P (sym out.0) (found_out run sought out.1)
    settled_refused (Ok None) r sought unknown same =
        let P : Result T CronError → Type 0 = λ x. IfErr x (IsRunRefused lack direction (in_window first last runs) start) in
        subst P (sym same) (found_none sought)
    settled_refused (Err e) r sought unknown same =
        let P : Result T CronError → Type 0 = λ x. IfErr x (IsRunRefused lack direction (in_window first last runs) start) in
        subst P (sym same) (unknown_in lack direction runs start first last e unknown)

-- ---- the same runs under another name

pub renamed_found : {T : Type 0} (moment : T → Moment) (direction : Direction) (a b : Zone → ℤ → Type 0) (start : Moment) → ((z : Zone) (i : ℤ) → a z i → b z i)
    → ((z : Zone) (i : ℤ) → b z i → a z i) → (r : Result T CronError) → IfOk r (λ x. IsRunFound direction a start (moment x))
    → IfOk r (λ x. IsRunFound direction b start (moment x))
renamed_found moment direction a b start to back (Err e) is = tt
renamed_found moment direction a b start to back (Ok x) is = record {
  nearest = λ calm.
      let near = is.nearest calm in
      let f : ℤ = (moment x).instant in
      record {
        counts = counts_of direction (b start.zone) start.instant f (from_of direction (a start.zone) start.instant f near.counts)
            (to start.zone f (run_of direction (a start.zone) start.instant f near.counts));
        nearest = λ i counts.
            near.nearest i (counts_of direction (a start.zone) start.instant i (from_of direction (b start.zone) start.instant i counts)
            (back start.zone i (run_of direction (b start.zone) start.instant i counts)));
      };
  zone = is.zone;
  whole = is.whole;
}

pub renamed_refused : {T : Type 0} (lack : Bool) (direction : Direction) (a b : Zone → ℤ → Type 0) (start : Moment) → ((z : Zone) (i : ℤ) → b z i → a z i)
    → (r : Result T CronError) → IfErr r (IsRunRefused lack direction a start) → IfErr r (IsRunRefused lack direction b start)
renamed_refused lack direction a b start back (Ok x) is = tt
renamed_refused lack direction a b start back (Err e) is = record {
  limit = λ calm same i span counts.
      is.limit calm same i span (counts_of direction (a start.zone) start.instant i (from_of direction (b start.zone) start.instant i counts)
      (back start.zone i (run_of direction (b start.zone) start.instant i counts)));
  promised = is.promised;
  kind = is.kind;
}

-- the runs of a window, by its ends as they are and by those that are served
pub ends_in : (from until first last : ℤ) → (first ≡ from) ⊎ (first ≡ first_served) → from ≤ℤ first → first_served ≤ℤ first
    → (last ≡ until) ⊎ (last ≡ last_served) → last ≤ℤ until → last ≤ℤ last_served
    → (runs : Zone → ℤ → Type 0) (z : Zone) (i : ℤ) → in_window first last runs z i → window_runs from until runs z i
ends_in from until first last _ low served_low _ high served_high runs z i is =
    ((is.0, (omega (arith, ints, low, is.1), omega (arith, ints, high, is.1))), (omega (arith, ints, served_low, is.1), omega (arith, ints, served_high, is.1)))

pub ends_out : (from until first last : ℤ) → (first ≡ from) ⊎ (first ≡ first_served) → (last ≡ until) ⊎ (last ≡ last_served)
    → (runs : Zone → ℤ → Type 0) (z : Zone) (i : ℤ) → window_runs from until runs z i → in_window first last runs z i
ends_out from until first last first_is last_is runs z i is = (
  is.0.0,
  (
    elim first_is [ inl same ↦ omega (arith, ints, same, is.0.1) | inr same ↦ omega (arith, ints, same, is.1) ],
    elim last_is [ inl same ↦ omega (arith, ints, same, is.0.1) | inr same ↦ omega (arith, ints, same, is.1) ],
  ),
)

pub ruleset past_starts = (ints, to_z-of_z, past_of_forward, past_of_backward, none_before)
