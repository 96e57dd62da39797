-- What an iterator over a table keeps stays so when a job is searched, when a run is taken, and over an item.
use Rattle.std.proofs.Common.{◌≡◌, ◌&&◌, IsTrue, ◌⊎◌, inl, inr, ℕ, ◌+◌, ◌-◌, ◌<◌, ◌≤◌, ℤ, arith, refl, sym, ap, subst, ◌∙◌, Bool, true, false, List, [], ◌∷◌, ◌++◌, length, get_or, Option, Some, None, Result, Ok, Err}
use Rattle.std.proofs.Math.Logic.{∥∥₁_map}
use Rattle.std.proofs.lemmas.Bool.{false≢true, cases_lt}
use Rattle.std.proofs.lemmas.Bool.Decides.{nat_tests}
use Rattle.std.proofs.lemmas.List.Elements.{All-nil, All-cons, All-head, All-tail, All-push, All-pop}
use Rattle.std.proofs.lemmas.List.Sorted.{All-permutation, sum_by-IsPermutation, sum_by_pushed, sum_by_popped}
use Rattle.std.proofs.lemmas.List.Sums.{sum_by_push}
use Rattle.std.proofs.lemmas.Option.{slice_get_within}
use Rattle.std.specs.Prelude.{slice_get, option_to_list, vec_len, IsPermutation, OnOk, IfErr, IfSome}
use Rattle.std.specs.List.{All, sum_by}
use Rattle.std.specs.declared.alloc.Global.{Global}
use Rattle.std.specs.declared.vec.Vec.{Vec}
use Rattle.croner_base.specs.Calm.{IsCalm}
use Rattle.croner_base.specs.Zone.{Zone, Moment, reading}
use Rattle.croner_base.specs.declared.errors.CronError.{CronError}
use Rattle.croner_base.specs.declared.errors.CronError.TheVariants.{OutOfMemory}
use Rattle.croner_base.specs.declared.time.Direction.{Direction}
use Rattle.croner_pattern.specs.Meaning.{Meaning}
use Rattle.std.specs.BinaryHeap.{heap_items}
use Rattle.croner.specs.declared.crontable.due.Due.{Due}
use Rattle.croner.specs.declared.crontable.kept.Kept.{Kept}
use Rattle.croner.specs.crontable.Tables.{IsTableFound}
use Rattle.croner.specs.Private.crontable.Kept.{is_place, times, IsDue, HasNoneLeft, AreKept, LieAhead, IsHeld, WaitedBefore, IsPopped, LeadsTo}
use Rattle.croner.specs.search.Limit.{IsWithin, NoneInSpan}
use Rattle.croner.specs.search.PatternJob.{pattern_job, timetable_of}
use Rattle.croner.specs.search.Premises.{StartsCalm, Shows}
use Rattle.croner.specs.search.Runs.{Timetable, Job, job_in, Precedes, Reaches, Counts, Nearest}
use Rattle.croner.specs.search.Searches.{IsFound}
use Rattle.croner.proofs.iterator.Listings.{past_start}
use Rattle.croner.proofs.zone.Ahead.{reaches-precedes}
use Rattle.croner.proofs.zone.Walks.{true_or_false, is_run, counts_reaches}

same_some : {A : Type 0} (x y : A) → Some x ≡ Some y → x ≡ y
same_some x y e = cc

none_is_some : {A : Type 0} (x : A) → None ≡ Some x → ⊥
none_is_some x e = absurd (cc)

abbrev answered : {A : Type 0} → A → Result A CronError
answered x = Ok x

same_answer : {A : Type 0} (x y : A) → answered x ≡ answered y → x ≡ y
same_answer x y e = cc

pub same_place : (k n : ℕ) → (k ≡ n) ⊎ (k ≡ n → ⊥)
same_place k n = elim (cases_lt k n) [
  | inl below ↦ inr (λ (e : k ≡ n). omega arith)
  | inr above ↦ elim (cases_lt n k) [ inl below ↦ inr (λ (e : k ≡ n). omega arith) | inr under ↦ inl (omega arith) ]
]

pub counted_once : (k place : ℕ) → place ≡ k → is_place k place ≡ 1
counted_once k place e = grind (arith, nat_tests)

pub counted_never : (k place : ℕ) → (place ≡ k → ⊥) → is_place k place ≡ 0
counted_never k place other = grind (arith, nat_tests)

-- the place that waits last
pub last_waits : (old new : Vec ℕ Global) (rest : List ℕ) (k place : ℕ) (r : Option ℕ) → new ≡ old → k ≡ vec_len old → 0 < vec_len old → new.items ≡ rest ++ option_to_list r
    → ((d : ℕ) → 0 < vec_len new → r ≡ Some (get_or new.items (vec_len new - 1) d)) → place ≡ get_or old.items (k - 1) place → new.items ≡ rest ++ place ∷ []
last_waits old new rest k place r same e some items value at =
    let here : r ≡ Some (get_or new.items (vec_len new - 1) place) = value place (subst (λ (v : Vec ℕ Global). 0 < vec_len v) (sym same) some) in
    let before : get_or new.items (vec_len new - 1) place ≡ get_or old.items (vec_len old - 1) place = ap (λ (v : Vec ℕ Global). get_or v.items (vec_len v - 1) place) same in
    let read : get_or old.items (k - 1) place ≡ get_or old.items (vec_len old - 1) place = ap (λ (n : ℕ). get_or old.items (n - 1) place) e in
    let one : r ≡ Some place = here ∙ ap Some (before ∙ sym read ∙ sym at) in
    items ∙ ap (λ (x : Option ℕ). rest ++ option_to_list x) one

module _ {T : Type 0} (moment : T → Moment) (patterns : List Meaning) (direction : Direction) (inclusive : Bool) (start : Moment) where
  abbrev Held : List (Due T) → List ℕ → Bool → Type 0
  Held = AreKept moment patterns direction inclusive start

  abbrev pub Ours : Due T → Type 0
  Ours = IsDue moment patterns direction inclusive start

  abbrev place_of : ℕ → Due T → ℕ
  place_of k due = is_place k due.place

  abbrev Within : ℕ → Type 0
  Within k = k < length patterns

  -- the same, read elsewhere
  pub same_kept : (dues more : List (Due T)) (waiting rest : List ℕ) (lim mark : Bool) → more ≡ dues → rest ≡ waiting → mark ≡ lim → Held dues waiting lim → Held more rest mark
  same_kept dues more waiting rest lim mark d w l kept = subst (λ x. Held x rest mark) (sym d) (subst (λ x. Held dues x mark) (sym w) (subst (Held dues waiting) (sym l) kept))

  -- the search of the job that waits last found a run
  pub found_kept : (dues more : List (Due T)) (waiting rest : List ℕ) (is_limited : Bool) (due : Due T) (m : Meaning) → Held dues waiting is_limited → waiting ≡ rest ++ due.place ∷ [] → IsPermutation (due ∷ dues) more
      → due.direction ≡ direction → slice_get patterns due.place ≡ Some m → IsFound direction inclusive (timetable_of m) start (moment due.run) → Held more rest is_limited
  found_kept dues more waiting rest is_limited due m kept at moved way stands found =
      let here : (n : Meaning) → slice_get patterns due.place ≡ Some n → ∥ IsFound direction inclusive (timetable_of n) start (moment due.run) ∥₁ =
      λ n it.
      let P : Meaning → Type 0 = λ x. IsFound direction inclusive (timetable_of x) start (moment due.run) in
      ∣ subst P (same_some m n (sym stands ∙ it)) found ∣₁ in
      let mine : Ours due = (way, slice_get_within patterns due.place m stands, here) in
      let count : (k : ℕ) → times k more rest ≡ times k dues waiting =
      λ k.
      let a = sum_by_pushed (place_of k) due dues more moved in
      let b = sum_by_push (is_place k) rest due.place in
      let c = ap (sum_by (is_place k)) at in
      omega (arith, a, b, c) in (
        All-permutation Ours (due ∷ dues) more moved (All-cons Ours due dues mine kept.0),
        (All-pop Within waiting rest (Some due.place) at kept.1).0,
        λ k. let a = count k in let b = kept.2 k in omega (arith, a, b),
        λ k n it none. let a = count k in kept.3 k n it (omega (arith, a, none)),
      )

  -- or came to the limit
  pub limited_kept : (dues : List (Due T)) (waiting rest : List ℕ) (is_limited : Bool) (place : ℕ) (m : Meaning) → Held dues waiting is_limited → waiting ≡ rest ++ place ∷ []
      → slice_get patterns place ≡ Some m → HasNoneLeft direction inclusive (timetable_of m) start → Held dues rest true
  limited_kept dues waiting rest is_limited place m kept at stands none =
      let count : (k : ℕ) → times k dues rest + is_place k place ≡ times k dues waiting =
      λ k.
      let b = sum_by_push (is_place k) rest place in
      let c = ap (sum_by (is_place k)) at in
      omega (arith, b, c) in (
        kept.0,
        (All-pop Within waiting rest (Some place) at kept.1).0,
        λ k. let a = count k in let b = kept.2 k in omega (arith, a, b),
        λ k n it zero. elim (same_place place k) [
          | inl e ↦
              let P : Meaning → Type 0 = λ x. HasNoneLeft direction inclusive (timetable_of x) start in
              (refl, ∣ subst P (same_some m n (sym stands ∙ ap (slice_get patterns) e ∙ it)) none ∣₁)
          | inr other ↦
              let a = count k in
              let b = counted_never k place other in
              (refl, (kept.3 k n it (omega (arith, a, b, zero))).1)
        ],
      )

  -- the first run is taken
  pub popped_kept : (dues rest : List (Due T)) (waiting more : List ℕ) (is_limited : Bool) (run : T) → Held dues waiting is_limited → IsPopped moment dues rest waiting more run → Held rest more is_limited
  popped_kept dues rest waiting more is_limited run kept popped =
      let all : All Ours (popped.due ∷ rest) = All-permutation Ours dues (popped.due ∷ rest) popped.items kept.0 in
      let count : (k : ℕ) → times k rest more ≡ times k dues waiting =
      λ k.
      let a = sum_by_popped (place_of k) popped.due dues rest popped.items in
      let b = sum_by_push (is_place k) waiting popped.due.place in
      let c = ap (sum_by (is_place k)) popped.waits in
      omega (arith, a, b, c) in (
        All-tail Ours popped.due rest all,
        subst (All Within) (sym popped.waits) (All-push Within waiting popped.due.place kept.1 (All-head Ours popped.due rest all).1),
        λ k. let a = count k in let b = kept.2 k in omega (arith, a, b),
        λ k n it none. let a = count k in kept.3 k n it (omega (arith, a, none)),
      )

  -- those that wait are turned round
  pub turned_kept : (dues : List (Due T)) (waiting turned : List ℕ) (is_limited : Bool) → Held dues waiting is_limited → IsPermutation waiting turned → Held dues turned is_limited
  turned_kept dues waiting turned is_limited kept moved =
      let count : (k : ℕ) → times k dues turned ≡ times k dues waiting = λ k. let a = sum_by-IsPermutation (is_place k) waiting turned moved in omega (arith, a) in (
        kept.0,
        All-permutation Within waiting turned moved kept.1,
        λ k. let a = count k in let b = kept.2 k in omega (arith, a, b),
        λ k n it none. let a = count k in kept.3 k n it (omega (arith, a, none)),
      )

  -- all wait
  pub begun_kept : (dues : List (Due T)) (waiting : List ℕ) (is_limited : Bool) (jobs : ℕ) → jobs ≡ length patterns → dues ≡ [] → All (λ k. k < jobs) waiting
      → ((k : ℕ) → k < jobs → sum_by (is_place k) waiting ≡ 1) → ((k : ℕ) → jobs ≤ k → sum_by (is_place k) waiting ≡ 0) → Held dues waiting is_limited
  begun_kept dues waiting is_limited jobs all none below once other =
      let empty : (k : ℕ) → sum_by (place_of k) dues ≡ 0 = λ k. ap (sum_by (place_of k)) none in (
        subst (All Ours) (sym none) (All-nil Ours),
        λ k d lt. let a = below k d lt in omega (arith, a, all),
        λ k. let e = empty k in elim (cases_lt k jobs) [ inl lt ↦ let a = once k lt in omega (arith, a, e) | inr le ↦ let a = other k le in omega (arith, a, e) ],
        λ k n it zero.
            let lt = slice_get_within patterns k n it in
            let a = once k (omega (arith, lt, all)) in
            absurd (omega (arith, a, zero)),
      )

-- what counts from the item counted from before it
counted_before : (direction : Direction) (inclusive : Bool) (job : Job) (s t i : ℤ) → Reaches direction s t → Counts direction false job t i → Counts direction inclusive job s i
counted_before direction inclusive job s t i on counts =
    inl (reaches-precedes direction s t i on (past_start direction job t i counts), is_run direction false job t i counts)

module _ (direction : Direction) (inclusive : Bool) (timetable : Timetable) (start item : Moment) (leads : LeadsTo direction start item) (whole : start.fraction ≡ 0) where
  calm_before : StartsCalm item → StartsCalm start
  calm_before calm = record { calm = subst IsCalm leads.zone calm.calm; whole = whole }

  found_still : (found : Moment) → IsWithin direction (reading item) → Precedes direction item.instant found.instant → IsFound direction inclusive timetable start found → IsFound direction false timetable item found
  found_still found within ahead is = record {
    nearest = λ calm.
        let from = calm_before calm in
        let near = is.nearest from in
        let P : Zone → Type 0 = λ z. Nearest direction false (job_in z timetable) item.instant found.instant in
        subst P (sym leads.zone) (record {
          counts = inl (ahead, is_run direction inclusive (job_in start.zone timetable) start.instant found.instant near.counts);
          nearest = λ j counts. near.nearest j (counted_before direction inclusive (job_in start.zone timetable) start.instant item.instant j (leads.on from) counts);
        });
    zone = is.zone ∙ sym leads.zone;
    whole = is.whole;
    shows = let P : Zone → Type 0 = λ z. Shows (job_in z timetable) found.instant in subst P (sym leads.zone) is.shows;
    left = λ past. past.0 within;
  }

  none_still : HasNoneLeft direction inclusive timetable start → HasNoneLeft direction false timetable item
  none_still none calm =
      let from = calm_before calm in
      let P : Zone → Type 0 = λ z. NoneInSpan direction false (job_in z timetable) item.instant in
      subst P (sym leads.zone) (λ i span counts. none from i span (counted_before direction inclusive (job_in start.zone timetable) start.instant item.instant i (leads.on from) counts))

-- over an item
pub item_kept : {T : Type 0} (moment : T → Moment) (patterns : List Meaning) (direction : Direction) (inclusive : Bool) (start item : Moment) (dues : List (Due T)) (waiting : List ℕ) (is_limited : Bool)
    → LeadsTo direction start item → start.fraction ≡ 0 → IsWithin direction (reading item) → LieAhead moment direction item dues
    → AreKept moment patterns direction inclusive start dues waiting is_limited → AreKept moment patterns direction false item dues waiting is_limited
item_kept moment patterns direction inclusive start item dues waiting is_limited leads whole within ahead kept = (
  λ k d lt.
      let due = get_or dues k d in
      let is = kept.0 k d lt in
      (is.0, is.1, λ m at. ∥∥₁_map (is.2 m at) (found_still direction inclusive (timetable_of m) start item leads whole (moment due.run) within (ahead k d lt))),
  kept.1,
  kept.2,
  λ k m at none.
      let is = kept.3 k m at none in
      (is.0, ∥∥₁_map is.1 (none_still direction inclusive (timetable_of m) start item leads whole)),
)

-- what a search over the table found
pub table_leads : (direction : Direction) (inclusive : Bool) (patterns : List Meaning) (start found : Moment) (named : List ℕ) → IsTableFound direction inclusive patterns start found named → LeadsTo direction start found
table_leads direction inclusive patterns start found named is = record {
  zone = is.zone;
  whole = is.whole;
  on = λ calm.
      let (k, at) = (is.nearest calm).counts in
      counts_reaches direction inclusive (pattern_job at.pattern start.zone) start.instant found.instant at.counts;
}

-- the place that waits last waits no more
pub fewer_wait : (waiting rest : List ℕ) (place : ℕ) → waiting ≡ rest ++ place ∷ [] → WaitedBefore waiting rest
fewer_wait waiting rest place at k = let a = sum_by_push (is_place k) rest place in let b = ap (sum_by (is_place k)) at in omega (arith, a, b)

-- the places from 0 on, one more
pub placed_below : (xs ys : List ℕ) (n : ℕ) → ys ≡ xs ++ n ∷ [] → All (λ k. k < n) xs → All (λ k. k < n + 1) ys
placed_below xs ys n e below =
    let P : ℕ → Type 0 = λ k. k < n + 1 in
    subst (All P) (sym e) (All-push P xs n (λ k d lt. let a : get_or xs k d < n = below k d lt in omega (arith, a)) (omega arith))

pub placed_other : (xs ys : List ℕ) (n : ℕ) → ys ≡ xs ++ n ∷ [] → ((k : ℕ) → n ≤ k → sum_by (is_place k) xs ≡ 0) → (k : ℕ) → n + 1 ≤ k → sum_by (is_place k) ys ≡ 0
placed_other xs ys n e other k le =
    let a = ap (sum_by (is_place k)) e in
    let b = sum_by_push (is_place k) xs n in
    let c = counted_never k n (λ (f : n ≡ k). omega (arith, le, f)) in
    let d = other k (omega (arith, le)) in
    omega (arith, a, b, c, d)

pub placed_once : (xs ys : List ℕ) (n : ℕ) → ys ≡ xs ++ n ∷ [] → ((k : ℕ) → k < n → sum_by (is_place k) xs ≡ 1) → ((k : ℕ) → n ≤ k → sum_by (is_place k) xs ≡ 0)
    → (k : ℕ) → k < n + 1 → sum_by (is_place k) ys ≡ 1
placed_once xs ys n e once other k lt =
    let a = ap (sum_by (is_place k)) e in
    let b = sum_by_push (is_place k) xs n in
    elim (same_place n k) [
      | inl f ↦ let c = counted_once k n f in let d = other k (omega (arith, f)) in omega (arith, a, b, c, d)
      | inr f ↦ let c = counted_never k n f in let d = once k (elim (cases_lt k n) [ inl below ↦ below | inr above ↦ absurd (f (omega (arith, lt, above))) ]) in omega (arith, a, b, c, d)
    ]

-- what is kept where it is begun, and where it was begun before
pub begun_either : {T : Type 0} {d : _} {c : _} (moment : T → Moment) (patterns : List Meaning) (direction : Direction) (inclusive : Bool) (start : Moment) (old new : Kept T d c) (jobs : ℕ) → jobs ≡ length patterns
    → (old.is_begun ≡ true → AreKept moment patterns direction inclusive start (heap_items old.dues) old.waiting.items old.is_limited) → (old.is_begun ≡ true → new ≡ old)
    → (old.is_begun ≡ false → heap_items new.dues ≡ []) → (old.is_begun ≡ false → All (λ k. k < jobs) new.waiting.items)
    → (old.is_begun ≡ false → (k : ℕ) → k < jobs → sum_by (is_place k) new.waiting.items ≡ 1) → (old.is_begun ≡ false → (k : ℕ) → jobs ≤ k → sum_by (is_place k) new.waiting.items ≡ 0)
    → AreKept moment patterns direction inclusive start (heap_items new.dues) new.waiting.items new.is_limited
begun_either {T} {d} {c} moment patterns direction inclusive start old new jobs all known same none below once other = elim (true_or_false old.is_begun) [
  | inl e ↦
      let P : Kept T d c → Type 0 = λ k. AreKept moment patterns direction inclusive start (heap_items k.dues) k.waiting.items k.is_limited in
      subst P (sym (same e)) (known e)
  | inr e ↦ begun_kept moment patterns direction inclusive start (heap_items new.dues) new.waiting.items new.is_limited jobs all (none e) (below e) (once e) (other e)
]

-- what is kept after an item
pub kept_after : {T : Type 0} {d : _} {c : _} (moment : T → Moment) (patterns : List Meaning) (direction : Direction) (is_first inclusive : Bool) (start item : Moment) (old new : Kept T d c) (keeps : Bool)
    → (keeps ≡ true → new ≡ old) → (keeps ≡ false → new.is_begun ≡ false) → (IsTrue keeps → is_first ≡ false) → (IsTrue keeps → IsWithin direction (reading item))
    → (is_first ≡ false → start.fraction ≡ 0) → LeadsTo direction start item → LieAhead moment direction item (heap_items old.dues)
    → (old.is_begun ≡ true → AreKept moment patterns direction (is_first && inclusive) start (heap_items old.dues) old.waiting.items old.is_limited)
    → new.is_begun ≡ true → AreKept moment patterns direction false item (heap_items new.dues) new.waiting.items new.is_limited
kept_after moment patterns direction is_first inclusive start item old new false same gone moved within whole leads ahead known begun = absurd (false≢true (sym (gone refl) ∙ begun))
kept_after {T} {d} {c} moment patterns direction is_first inclusive start item old new true same gone moved within whole leads ahead known begun =
    let P : Kept T d c → Type 0 = λ k. AreKept moment patterns direction false item (heap_items k.dues) k.waiting.items k.is_limited in
    let B : Kept T d c → Type 0 = λ k. k.is_begun ≡ true in
    subst P (sym (same refl)) (item_kept moment patterns direction (is_first && inclusive) start item (heap_items old.dues) old.waiting.items old.is_limited leads (whole (moved refl)) (within refl) ahead
    (known (subst B (same refl) begun)))

-- the same, whether there was room or not
pub begun_by : {T : Type 0} {d : _} {c : _} (moment : T → Moment) (patterns : List Meaning) (direction : Direction) (inclusive : Bool) (start : Moment) (old new : Kept T d c) (jobs : ℕ) (result : Result (Unit {0}) CronError)
    → jobs ≡ length patterns → (old.is_begun ≡ true → AreKept moment patterns direction inclusive start (heap_items old.dues) old.waiting.items old.is_limited) → (old.is_begun ≡ true → new ≡ old)
    → (old.is_begun ≡ false → OnOk result (heap_items new.dues ≡ [])) → (old.is_begun ≡ false → OnOk result (All (λ k. k < jobs) new.waiting.items))
    → (old.is_begun ≡ false → OnOk result ((k : ℕ) → k < jobs → sum_by (is_place k) new.waiting.items ≡ 1)) → (old.is_begun ≡ false → OnOk result ((k : ℕ) → jobs ≤ k → sum_by (is_place k) new.waiting.items ≡ 0))
    → IfErr result (λ e. (e ≡ OutOfMemory) × (new.is_begun ≡ false)) → new.is_begun ≡ true
    → AreKept moment patterns direction inclusive start (heap_items new.dues) new.waiting.items new.is_limited
begun_by moment patterns direction inclusive start old new jobs (Ok u) all known same none below once other refused begun =
    begun_either moment patterns direction inclusive start old new jobs all known same none below once other
begun_by moment patterns direction inclusive start old new jobs (Err e) all known same none below once other refused begun = absurd (false≢true (sym refused.1 ∙ begun))

-- what is held is so, as one reads it
pub if_some : {T : Type 0} (o : Option T) (P : T → Type 0) → ((run : T) → o ≡ Some run → P run) → IfSome o P
if_some (Some run) P all = all run refl
if_some None P all = tt

pub some_of : {T : Type 0} (o : Option T) (P : T → Type 0) → IfSome o P → (run : T) → o ≡ Some run → P run
some_of {T} o P held run is = let Q : Option T → Type 0 = λ x. IfSome x P in subst Q is held

-- a run that is held where what is kept is begun, or was begun before
pub held_either : {T : Type 0} {d : _} {c : _} (moment : T → Moment) (patterns : List Meaning) (direction : Direction) (inclusive : Bool) (start : Moment) (old new : Kept T d c)
    → (old.is_begun ≡ true → (run : T) → old.found ≡ Some run → IsHeld moment patterns direction inclusive start run (heap_items old.dues) old.waiting.items) → (old.is_begun ≡ true → new ≡ old)
    → (old.is_begun ≡ false → new.found ≡ None) → (run : T) → new.found ≡ Some run → IsHeld moment patterns direction inclusive start run (heap_items new.dues) new.waiting.items
held_either {T} {d} {c} moment patterns direction inclusive start old new known same none = elim (true_or_false old.is_begun) [
  | inl e ↦
      let P : Kept T d c → Type 0 = λ k. (run : T) → k.found ≡ Some run → IsHeld moment patterns direction inclusive start run (heap_items k.dues) k.waiting.items in
      subst P (sym (same e)) (known e)
  | inr e ↦ λ run is. absurd (none_is_some run (sym (none e) ∙ is))
]

-- the same, whether there was room or not
pub held_by : {T : Type 0} {d : _} {c : _} (moment : T → Moment) (patterns : List Meaning) (direction : Direction) (inclusive : Bool) (start : Moment) (old new : Kept T d c) (result : Result (Unit {0}) CronError)
    → (old.is_begun ≡ true → (run : T) → old.found ≡ Some run → IsHeld moment patterns direction inclusive start run (heap_items old.dues) old.waiting.items) → (old.is_begun ≡ true → new ≡ old)
    → (old.is_begun ≡ false → OnOk result (new.found ≡ None)) → IfErr result (λ e. (e ≡ OutOfMemory) × (new.is_begun ≡ false)) → new.is_begun ≡ true
    → (run : T) → new.found ≡ Some run → IsHeld moment patterns direction inclusive start run (heap_items new.dues) new.waiting.items
held_by moment patterns direction inclusive start old new (Ok u) known same none refused begun = held_either moment patterns direction inclusive start old new known same none
held_by moment patterns direction inclusive start old new (Err e) known same none refused begun = absurd (false≢true (sym refused.1 ∙ begun))

-- after an item no run is held
pub held_after : {T : Type 0} {d : _} {c : _} (old new : Kept T d c) (keeps : Bool) → (keeps ≡ true → new ≡ old) → (keeps ≡ false → new.is_begun ≡ false) → old.found ≡ None → new.is_begun ≡ true
    → (run : T) → new.found ≡ Some run → ⊥
held_after {T} {d} {c} old new true same gone none begun run is = none_is_some run (sym (ap (λ (k : Kept T d c). k.found) (same refl) ∙ none) ∙ is)
held_after old new false same gone none begun run is = false≢true (sym (gone refl) ∙ begun)

-- a run that was held is given, or is held still
pub given_again : {T : Type 0} (o : Option T) (run : T) (old mid items : List ℕ) → IfSome o (λ x. (answered run ≡ answered x) × (mid ≡ old)) → items ≡ mid → IfSome o (λ x. (run ≡ x) × (items ≡ old))
given_again (Some x) run old mid items (is, same) e = (same_answer run x is, e ∙ same)
given_again None run old mid items again e = tt

pub held_still : {T : Type 0} (o : Option T) (run : T) (old mid : List ℕ) → IfSome o (λ x. (answered run ≡ answered x) × (mid ≡ old)) → IfSome o (λ x. (Some run ≡ Some x) × (mid ≡ old))
held_still (Some x) run old mid (is, same) = (ap Some (same_answer run x is), same)
held_still None run old mid again = tt

pub not_held : {T : Type 0} (o : Option T) (e : CronError) (old mid : List ℕ) (P : T → Type 0) → IfSome o (λ x. (Err e ≡ answered x) × (mid ≡ old)) → IfSome o P
not_held (Some x) e old mid P (is, same) = absurd (cc)
not_held None e old mid P again = tt
