-- The starts at one second, and the moments of starts one by one.
use Rattle.std.proofs.Common.{◌≡◌, ◌∙◌, ℕ, ℤ, zero, suc, ◌+◌, ◌-◌, ◌<◌, ◌≤◌, ◌<ℤ◌, ◌≤ℤ◌, Bool, true, false, cond, int_le, int_lt, pos, List, [], ◌∷◌, ◌++◌, length, get_or, take, drop, filter, refl, sym, ap, subst, arith, is_lt}
use Rattle.std.proofs.lemmas.Int.{ints}
use Rattle.std.proofs.lemmas.List.{take-append-drop, append-nil, get_or-take, get_or-drop, length-take-le, length-drop, length-map, get_or-map, get_or_default, map_more, map-append, take_all}
use Rattle.std.proofs.lemmas.List.Elements.{All-nil, All-cons, All-head, All-tail, All-weaker, All-from_get_or, All-push, All-more, All-map, All-get_or, All-contains, Contains-get_or, Contains-push, Contains-append_left, filter-append}
use Rattle.std.proofs.lemmas.List.Sorted.{sorted_far}
use Rattle.std.proofs.lemmas.List.Sums.{sum_by-cons}
use Rattle.std.proofs.lemmas.List.Quantifiers.{all_pairs_push}
use Rattle.std.specs.List.{All, AllPairs, Contains}
use Rattle.std.specs.List.Sorted.{IsSorted}
use Rattle.std.specs.Ordering.{int_eq}
use Rattle.std.specs.Prelude.{IsTrue, IsFalse}
use Rattle.cronplan.specs.declared.counts.Unit.TheVariants as units
use Rattle.cronplan.specs.declared.moments.Moment.{Moment}
use Rattle.cronplan.specs.declared.start.JobStart.{JobStart}
use Rattle.cronplan.specs.Counts.{count_of, starts_at, added_at}
use Rattle.cronplan.specs.Moments.{at_second, moment_seconds, IsMoment, AreMoments}
use Rattle.cronplan.specs.Private.MomentsUntil.{AreMomentsUntil}
use Rattle.cronplan.specs.Starts.{start_cmp, seconds_of}
use Rattle.cronplan.proofs.FilteredLists.{filter_all, filter_none, Contains-map}
use Rattle.cronplan.proofs.StartOrder.{start_weak, no_earlier}

-- a start that stands where there is none
abbrev pub none_start : JobStart
none_start = record { second = pos 0; job = 0; count = 0; wall = pos 0 }

-- the start at a later place is no earlier
pub climbs_at : (xs : List JobStart) → IsSorted start_cmp xs → (i j : ℕ) (d : JobStart) → i ≤ j → j < length xs → (get_or xs i d).second ≤ℤ (get_or xs j d).second
climbs_at xs up i j d le inside = no_earlier (get_or xs i d) (get_or xs j d) (sorted_far (λ (x y : JobStart). is_lt (start_cmp x y)) start_weak xs up i j d le inside)

-- how many starts there are at a second
pub count_at : (i : ℤ) (xs : List JobStart) → count_of (at_second i xs) ≡ starts_at units.Second i xs
count_at i [] = refl
count_at i (x ∷ xs) = at (int_eq x.second i) (count_at i xs) ∙ sym (sum_by-cons (added_at units.Second i) x xs) where
  at : (b : Bool) → count_of (at_second i xs) ≡ starts_at units.Second i xs → count_of (cond b (x ∷ at_second i xs) (at_second i xs)) ≡ cond b x.count 0 + starts_at units.Second i xs
  at true h = sum_by-cons (λ (s : JobStart). s.count) x (at_second i xs) ∙ ap (λ n. x.count + n) h
  at false h = h ∙ omega arith

not_at : (i t : ℤ) → t <ℤ i → int_eq t i ≡ false
not_at i t lt = grind (arith, ints)

not_at_late : (i t : ℤ) → i <ℤ t → int_eq t i ≡ false
not_at_late i t lt = grind (arith, ints)

at_itself : (i t : ℤ) → i ≤ℤ t → t ≤ℤ i → int_eq t i ≡ true
at_itself i t low high = grind (arith, ints)

-- those before the second leave none of theirs
pub after_earlier : (i : ℤ) (xs : List JobStart) (k : ℕ) → All (λ s. s.second <ℤ i) (take k xs) → at_second i (drop k xs) ≡ at_second i xs
after_earlier i xs k h =
    let p : JobStart → Bool = λ s. int_eq s.second i in
    let none : filter p (take k xs) ≡ [] = filter_none p (take k xs) (All-weaker (λ s. s.second <ℤ i) (λ s. p s ≡ false) (λ s lt. not_at i s.second lt) (take k xs) h) in
    sym (ap (filter p) (sym (take-append-drop k xs)) ∙ filter-append p (take k xs) (drop k xs) ∙ ap (λ ys. ys ++ filter p (drop k xs)) none)

-- the first of starts that are no earlier, up to the first later one
pub first_at : (i : ℤ) (xs : List JobStart) (n : ℕ) → All (λ s. i ≤ℤ s.second) xs → All (λ s. s.second ≤ℤ i) (take n xs) → All (λ s. i <ℤ s.second) (drop n xs)
    → take n xs ≡ at_second i xs
first_at i xs n low high late =
    let p : JobStart → Bool = λ s. int_eq s.second i in
    sym (ap (filter p) (sym (take-append-drop n xs)) ∙ filter-append p (take n xs) (drop n xs)
    ∙ ap (λ ys. filter p (take n xs) ++ ys) (filter_none p (drop n xs) (All-weaker (λ s. i <ℤ s.second) (λ s. p s ≡ false) (λ s lt. not_at_late i s.second lt) (drop n xs) late))
    ∙ append-nil (filter p (take n xs))
    ∙ filter_all p (take n xs) (both xs n low high)) where
      both : (ys : List JobStart) (k : ℕ) → All (λ s. i ≤ℤ s.second) ys → All (λ s. s.second ≤ℤ i) (take k ys) → All (λ s. int_eq s.second i ≡ true) (take k ys)
      both [] zero l h = All-nil (λ s. int_eq s.second i ≡ true)
      both [] (suc k) l h = All-nil (λ s. int_eq s.second i ≡ true)
      both (y ∷ ys) zero l h = All-nil (λ s. int_eq s.second i ≡ true)
      both (y ∷ ys) (suc k) l h =
          All-cons (λ s. int_eq s.second i ≡ true) y (take k ys)
          (at_itself i y.second (All-head (λ s. i ≤ℤ s.second) y ys l) (All-head (λ s. s.second ≤ℤ i) y (take k ys) h))
          (both ys k (All-tail (λ s. i ≤ℤ s.second) y ys l) (All-tail (λ s. s.second ≤ℤ i) y (take k ys) h))

-- ---- the starts before a place

-- a start that is later than the one before it is later than all before it
pub all_before : (xs : List JobStart) → IsSorted start_cmp xs → (k : ℕ) (d : JobStart) → k < length xs
    → ((j : ℕ) → suc j ≡ k → (get_or xs j d).second <ℤ (get_or xs k d).second) → All (λ s. s.second <ℤ (get_or xs k d).second) (take k xs)
all_before xs up zero d inside later = All-nil (λ s. s.second <ℤ (get_or xs zero d).second)
all_before xs up (suc j) d inside later =
    All-from_get_or (λ s. s.second <ℤ (get_or xs (suc j) d).second) (take (suc j) xs) d
    (λ i h.
    let below : i < suc j = omega (arith, h, length-take-le (suc j) xs (omega arith)) in
    let le : (get_or xs i d).second ≤ℤ (get_or xs j d).second = climbs_at xs up i j d (omega arith) (omega arith) in
    subst (λ (x : JobStart). x.second <ℤ (get_or xs (suc j) d).second) (sym (get_or-take (suc j) xs i d below)) (omega (arith, ints, le, later j refl)))

-- one that isn't has its second
pub has_before : (xs : List JobStart) → IsSorted start_cmp xs → (j : ℕ) (d : JobStart) → suc j < length xs
    → int_lt (get_or xs j d).second (get_or xs (suc j) d).second ≡ false → Contains (seconds_of (take (suc j) xs)) (get_or xs (suc j) d).second
has_before xs up j d inside h =
    let le : (get_or xs j d).second ≤ℤ (get_or xs (suc j) d).second = climbs_at xs up j (suc j) d (omega arith) inside in
    let same : (get_or xs j d).second ≡ (get_or xs (suc j) d).second = grind (arith, ints) in
    subst (Contains (seconds_of (take (suc j) xs))) (ap (λ (x : JobStart). x.second) (get_or-take (suc j) xs j d (omega arith)) ∙ same)
    (Contains-map (λ (x : JobStart). x.second) (take (suc j) xs) (get_or (take (suc j) xs) j d)
    (Contains-get_or (take (suc j) xs) j d (omega (arith, inside, length-take-le (suc j) xs (omega arith)))))

-- of those from a place on none is earlier than the one at it
pub late_drop : (xs : List JobStart) → IsSorted start_cmp xs → (n : ℕ) (d : JobStart) → n < length xs → All (λ s. (get_or xs n d).second ≤ℤ s.second) (drop n xs)
late_drop xs up n d inside =
    All-from_get_or (λ s. (get_or xs n d).second ≤ℤ s.second) (drop n xs) d
    (λ i h. subst (λ (x : JobStart). (get_or xs n d).second ≤ℤ x.second) (sym (get_or-drop n xs i d)) (climbs_at xs up n (n + i) d (omega arith) (omega (arith, h, length-drop n xs))))

-- ---- the first ones of a second

-- where those up to a second stand before the others
pub split_at_second : (i : ℤ) (xs : List JobStart) (n : ℕ) → n ≤ length xs → All (λ s. i ≤ℤ s.second) xs
    → ((k : ℕ) (d : JobStart) → 0 ≤ k → k < n → int_le (get_or xs k d).second i ≡ true) → ((k : ℕ) (d : JobStart) → n ≤ k → k < length xs → int_le (get_or xs k d).second i ≡ false)
    → take n xs ≡ at_second i xs
split_at_second i xs n le low front back =
    first_at i xs n low
    (All-from_get_or (λ s. s.second ≤ℤ i) (take n xs) none_start
    (λ k h. let below : k < n = omega (arith, h, length-take-le n xs le) in
    subst (λ (x : JobStart). x.second ≤ℤ i) (sym (get_or-take n xs k none_start below)) (le_of (get_or xs k none_start).second i (front k none_start (omega arith) below))))
    (All-from_get_or (λ s. i <ℤ s.second) (drop n xs) none_start
    (λ k h. subst (λ (x : JobStart). i <ℤ x.second) (sym (get_or-drop n xs k none_start))
    (lt_of (get_or xs (n + k) none_start).second i (back (n + k) none_start (omega arith) (omega (arith, h, length-drop n xs)))))) where
      le_of : (a b : ℤ) → int_le a b ≡ true → a ≤ℤ b
      le_of a b h = grind (arith, ints)

      lt_of : (a b : ℤ) → int_le a b ≡ false → b <ℤ a
      lt_of a b h = grind (arith, ints)

-- starts in order: those up to a second stand before the others
pub partitioned : (i : ℤ) (xs : List JobStart) → IsSorted start_cmp xs → (j k : ℕ) (d : JobStart) → j ≤ k → k < length xs → int_le (get_or xs k d).second i ≡ true
    → int_le (get_or xs j d).second i ≡ true
partitioned i xs up j k d le inside h = let climb = climbs_at xs up j k d le inside in grind (arith, ints)

-- ---- whether a start is the first at its second

pub is_later : (xs : List JobStart) → IsSorted start_cmp xs → (k : ℕ) (d : JobStart) → 0 < k → k < length xs
    → IsTrue (int_lt (get_or xs (k - 1) none_start).second (get_or xs k none_start).second) → All (λ s. s.second <ℤ (get_or xs k d).second) (take k xs)
is_later xs up k d some inside h =
    all_before xs up k d inside
    (λ j e.
    let at : j ≡ k - 1 = omega arith in
    subst (λ (n : ℕ). (get_or xs n d).second <ℤ (get_or xs k d).second) (sym at)
    (subst (λ (x : JobStart). x.second <ℤ (get_or xs k d).second) (get_or_default xs (k - 1) none_start d (omega arith))
    (subst (λ (x : JobStart). (get_or xs (k - 1) none_start).second <ℤ x.second) (get_or_default xs k none_start d inside) (grind (arith, ints)))))

pub not_later : (xs : List JobStart) → IsSorted start_cmp xs → (k : ℕ) (d : JobStart) → 0 < k → k < length xs
    → IsFalse (int_lt (get_or xs (k - 1) none_start).second (get_or xs k none_start).second) → Contains (seconds_of (take k xs)) (get_or xs k d).second
not_later xs up zero d some inside h = absurd (omega arith)
not_later xs up (suc j) d some inside h =
    subst (λ (x : JobStart). Contains (seconds_of (take (suc j) xs)) x.second) (get_or_default xs (suc j) none_start d inside)
    (has_before xs up j none_start inside (subst (λ (n : ℕ). int_lt (get_or xs n none_start).second (get_or xs (suc j) none_start).second ≡ false) (omega arith) h))

-- ---- the moments one by one

pub none_until : (xs : List JobStart) → AreMomentsUntil 0 xs []
none_until xs = record {
  each = All-nil (IsMoment xs);
  rise = λ i j d lt inside. absurd (omega arith);
  complete = All-nil (λ s. Contains [] s.second);
  had = All-nil (λ m. Contains [] m.second);
}

pub all_until : (xs : List JobStart) (ms : List Moment) (k : ℕ) → length xs ≤ k → AreMomentsUntil k xs ms → AreMoments xs ms
all_until xs ms k le h = record {
  each = h.each;
  rise = h.rise;
  complete = subst (All (λ s. Contains (moment_seconds ms) s.second)) (take_all k xs le) h.complete;
}

Contains-more : (xs : List JobStart) (k : ℕ) (d : JobStart) (i : ℤ) → k < length xs → Contains (seconds_of (take k xs)) i → Contains (seconds_of (take (k + 1) xs)) i
Contains-more xs k d i inside h =
    subst (λ (is : List ℤ). Contains is i) (sym (map_more (λ (s : JobStart). s.second) xs k d inside))
    (Contains-append_left (seconds_of (take k xs)) ((get_or xs k d).second ∷ []) i h)

-- a start at a second that was met
pub same_until : (xs : List JobStart) (ms : List Moment) (k : ℕ) (d : JobStart) → k < length xs → Contains (seconds_of (take k xs)) (get_or xs k d).second
    → AreMomentsUntil k xs ms → AreMomentsUntil (k + 1) xs ms
same_until xs ms k d inside met h = record {
  each = h.each;
  rise = h.rise;
  complete = All-more (λ s. Contains (moment_seconds ms) s.second) xs k d inside h.complete (at met);
  had = All-weaker (λ (m : Moment). Contains (seconds_of (take k xs)) m.second) (λ m. Contains (seconds_of (take (k + 1) xs)) m.second) (λ m had. Contains-more xs k d m.second inside had) ms h.had;
} where
  at : Contains (seconds_of (take k xs)) (get_or xs k d).second → Contains (moment_seconds ms) (get_or xs k d).second
  at has = All-contains (λ i. Contains (moment_seconds ms) i) (seconds_of (take k xs)) (get_or xs k d).second
      (All-map (λ i. Contains (moment_seconds ms) i) (λ (s : JobStart). s.second) (take k xs) h.complete) has

-- a start at a new second
pub next_until : (xs : List JobStart) (ms : List Moment) (k : ℕ) (d : JobStart) (m : Moment) → k < length xs → All (λ s. s.second <ℤ (get_or xs k d).second) (take k xs)
    → m.second ≡ (get_or xs k d).second → m.wall ≡ (get_or xs k d).wall → m.starts ≡ starts_at units.Second (get_or xs k d).second xs
    → AreMomentsUntil k xs ms → AreMomentsUntil (k + 1) xs (ms ++ m ∷ [])
next_until xs ms k d m inside earlier second wall starts h = record {
  each = All-push (IsMoment xs) ms m h.each (record { start = get_or xs k d; has = Contains-get_or xs k d inside; second_is = second; wall_is = wall; starts_are = starts });
  rise = subst (AllPairs (λ i j. i <ℤ j)) (sym (map-append (λ (x : Moment). x.second) ms (m ∷ [])))
      (all_pairs_push (λ i j. i <ℤ j) (moment_seconds ms) m.second h.rise (λ i e below. below_new i e below));
  complete = All-more (λ s. Contains (moment_seconds (ms ++ m ∷ [])) s.second) xs k d inside
      (All-weaker (λ s. Contains (moment_seconds ms) s.second) (λ s. Contains (moment_seconds (ms ++ m ∷ [])) s.second)
      (λ s has. subst (λ (is : List ℤ). Contains is s.second) (sym seconds) (Contains-append_left (moment_seconds ms) (m.second ∷ []) s.second has)) (take k xs) h.complete)
      (subst (λ (is : List ℤ). Contains is (get_or xs k d).second) (sym seconds) (subst (Contains (moment_seconds ms ++ m.second ∷ [])) second (Contains-push (moment_seconds ms) m.second)));
  had = All-push (λ (x : Moment). Contains (seconds_of (take (k + 1) xs)) x.second) ms m
      (All-weaker (λ (x : Moment). Contains (seconds_of (take k xs)) x.second) (λ x. Contains (seconds_of (take (k + 1) xs)) x.second) (λ x had. Contains-more xs k d x.second inside had) ms h.had)
      (subst (Contains (seconds_of (take (k + 1) xs))) (sym second)
      (subst (λ (is : List ℤ). Contains is (get_or xs k d).second) (sym (map_more (λ (s : JobStart). s.second) xs k d inside))
      (Contains-push (seconds_of (take k xs)) (get_or xs k d).second)));
} where
  seconds : moment_seconds (ms ++ m ∷ []) ≡ moment_seconds ms ++ m.second ∷ []
  seconds = map-append (λ (x : Moment). x.second) ms (m ∷ [])

  below_new : (i : ℕ) (e : ℤ) → i < length (moment_seconds ms) → get_or (moment_seconds ms) i e <ℤ m.second
  below_new i e below =
      let inside_ms : i < length ms = omega (arith, below, length-map ms (λ (x : Moment). x.second)) in
      let met : Contains (seconds_of (take k xs)) (get_or ms i m).second = All-get_or (λ (x : Moment). Contains (seconds_of (take k xs)) x.second) ms i m inside_ms h.had in
      let lt : (get_or ms i m).second <ℤ (get_or xs k d).second =
      All-contains (λ t. t <ℤ (get_or xs k d).second) (seconds_of (take k xs)) (get_or ms i m).second (All-map (λ t. t <ℤ (get_or xs k d).second) (λ (s : JobStart). s.second) (take k xs) earlier) met in
      subst (λ (t : ℤ). t <ℤ m.second) (sym (get_or-map (λ (x : Moment). x.second) ms i m e inside_ms))
      (subst (λ (t : ℤ). (get_or ms i m).second <ℤ t) (sym second) lt)
