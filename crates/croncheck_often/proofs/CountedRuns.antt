-- Runs one by one: how many starts they are, on which date most of them are, and how far they are apart.
use Rattle.std.proofs.Common.{◌≡◌, ◌∙◌, ◌+◌, ◌≤◌, ◌<◌, ℕ, ℤ, pos, Bool, true, false, cond, Option, Some, None, List, [], ◌∷◌, ◌++◌, length, get_or, take, drop, refl, sym, ap, subst, arith, if◌then◌else◌}
use Rattle.std.proofs.lemmas.Int.{ints}
use Rattle.std.proofs.lemmas.List.{at_drop_more, at_drop_all}
use Rattle.std.proofs.lemmas.List.Elements.{All-nil, All-cons, All-append, All-weaker, Contains-append_left, Contains-append_right}
use Rattle.std.proofs.lemmas.List.Sums.{sum_by_more}
use Rattle.std.specs.List.{Contains}
use Rattle.std.specs.Ordering.{int_eq}
use Rattle.std.specs.Prelude.{nat_lt, unsigned_abs, ◌-ℤ◌, option_map}
use Rattle.croncheck_runs.specs.declared.runs.Run.{Run}
use Rattle.croncheck_often.specs.Often.{date_of_run, added_on, starts_on, IsMostADay, from_before, from_first, distances, IsShortest}
use Rattle.croncheck_often.specs.Private.Often.{greater_of, shorter_of, distance_of}

-- ---- starts on a date

-- one run more
starts_on-more : (date : ℤ) (runs : List Run) (i : ℕ) (d : Run) → i < length runs
    → starts_on date (take (i + 1) runs) ≡ starts_on date (take i runs) + added_on date (get_or runs i d)
starts_on-more date runs i d h = sum_by_more (added_on date) runs i d h

-- the same, by a count that was kept
pub counted-step : (date : ℤ) (runs : List Run) (i : ℕ) (run : Run) (old new : ℕ) → i < length runs → run ≡ get_or runs i run
    → new ≡ old + added_on date run → old ≡ starts_on date (take i runs) → new ≡ starts_on date (take (i + 1) runs)
counted-step date runs i run old new h is added counted =
    omega (arith, added, counted, starts_on-more date runs i run h, ap (added_on date) is)

-- it adds no more than its count
pub added_on_small : (date : ℤ) (run : Run) → added_on date run ≤ run.count
added_on_small date run = small (int_eq (date_of_run run) date) run.count where
  small : (b : Bool) (n : ℕ) → cond b n 0 ≤ n
  small true n = omega arith
  small false n = omega arith

-- where no date had more than so many, none has more than the greater of these and those on the run's date
no_more : (runs : List Run) (i : ℕ) (d : Run) (most n top : ℕ) → i < length runs → ((q : ℤ) → starts_on q (take i runs) ≤ most)
    → n ≡ starts_on (date_of_run (get_or runs i d)) (take (i + 1) runs) → most ≤ top → n ≤ top → (q : ℤ) → starts_on q (take (i + 1) runs) ≤ top
no_more runs i d most n top h few count old here q = by_eq (int_eq (date_of_run (get_or runs i d)) q) refl where
  by_eq : (b : Bool) → int_eq (date_of_run (get_or runs i d)) q ≡ b → starts_on q (take (i + 1) runs) ≤ top
  by_eq true e =
      let same : date_of_run (get_or runs i d) ≡ q = grind (arith, ints) in
      subst (λ (x : ℤ). starts_on x (take (i + 1) runs) ≤ top) same (omega (arith, count, here))
  by_eq false e =
      let none : added_on q (get_or runs i d) ≡ 0 = ap (λ (b : Bool). cond b (get_or runs i d).count 0) e in
      omega (arith, none, starts_on-more q runs i d h, few q, old)

-- the most on one date, with one run more
most-more : (runs : List Run) (i : ℕ) (d : Run) (most n : ℕ) → i < length runs → IsMostADay (take i runs) most
    → n ≡ starts_on (date_of_run (get_or runs i d)) (take (i + 1) runs) → IsMostADay (take (i + 1) runs) (greater_of most n)
most-more runs i d most n h old count = by_lt (nat_lt most n) refl where
  by_lt : (b : Bool) → nat_lt most n ≡ b → IsMostADay (take (i + 1) runs) (if b then n else most)
  by_lt true e =
      let less : most < n = grind arith in
      record {
        date = date_of_run (get_or runs i d);
        reached = sym count;
        none_more = no_more runs i d most n n h old.none_more count (omega (arith, less)) (omega arith);
      }
  by_lt false e =
      let no_less : n ≤ most = grind arith in
      let none = no_more runs i d most n most h old.none_more count (omega arith) no_less in
      record {
        date = old.date;
        reached = omega (arith, starts_on-more old.date runs i d h, old.reached, none old.date);
        none_more = none;
      }

-- the same, by counts on each date that were kept
pub most-step : (runs : List Run) (i : ℕ) (run : Run) (old new : ℤ → ℕ) (most n top : ℕ) → i < length runs → run ≡ get_or runs i run
    → ((date : ℤ) → new date ≡ old date + added_on date run) → ((date : ℤ) → old date ≡ starts_on date (take i runs)) → n ≡ new (date_of_run run)
    → top ≡ greater_of most n → IsMostADay (take i runs) most → IsMostADay (take (i + 1) runs) top
most-step runs i run old new most n top h is added counted here top_is before =
    let day : ℤ = date_of_run run in
    let count : n ≡ starts_on day (take (i + 1) runs) = here ∙ counted-step day runs i run (old day) (new day) h is (added day) (counted day) in
    subst (IsMostADay (take (i + 1) runs)) (sym top_is)
    (most-more runs i run most n h before (subst (λ (x : Run). n ≡ starts_on (date_of_run x) (take (i + 1) runs)) is count))

pub most-none : IsMostADay [] 0
most-none = record { date = pos 0; reached = refl; none_more = λ other. omega arith }

-- ---- distances

contains-head : (x : ℕ) (xs : List ℕ) → Contains (x ∷ xs) x
contains-head x xs = (0, omega arith, refl)

nothing_after : (xs : List ℕ) → xs ++ [] ≡ xs
nothing_after [] = refl
nothing_after (x ∷ xs) = ap (λ ys. x ∷ ys) (nothing_after xs)

joined : (xs ys zs : List ℕ) → (xs ++ ys) ++ zs ≡ xs ++ (ys ++ zs)
joined [] ys zs = refl
joined (x ∷ xs) ys zs = ap (λ rest. x ∷ rest) (joined xs ys zs)

-- the shortest of two lists' distances is the shorter of theirs
shortest-joined : (xs ys : List ℕ) (a b : Option ℕ) → IsShortest xs a → IsShortest ys b → IsShortest (xs ++ ys) (shorter_of a b)
shortest-joined xs ys None b none other = subst (λ zs. IsShortest (zs ++ ys) b) (sym none) other
shortest-joined xs ys (Some x) None one none = subst (λ zs. IsShortest (xs ++ zs) (Some x)) (sym none) (subst (λ zs. IsShortest zs (Some x)) (sym (nothing_after xs)) one)
shortest-joined xs ys (Some x) (Some y) one other = by_lt (nat_lt y x) refl where
  by_lt : (t : Bool) → nat_lt y x ≡ t → IsShortest (xs ++ ys) (if t then Some y else Some x)
  by_lt true e =
      let less : y ≤ x = grind arith in (
        Contains-append_right xs ys y other.0,
        All-append (λ z. y ≤ z) xs ys (All-weaker (λ z. x ≤ z) (λ z. y ≤ z) (λ z le. omega (arith, less, le)) xs one.1) other.1,
      )
  by_lt false e =
      let no_less : x ≤ y = grind arith in (
        Contains-append_left xs ys x one.0,
        All-append (λ z. x ≤ z) xs ys one.1 (All-weaker (λ z. y ≤ z) (λ z. x ≤ z) (λ z le. omega (arith, no_less, le)) ys other.1),
      )

-- the shortest distance of one run's starts
shortest-here : (before : Option ℤ) (run : Run) → IsShortest (from_before before run ++ from_first run) (distance_of before run)
shortest-here before run = by_count before (nat_lt 1 run.count) where
  by_count : (before : Option ℤ) (several : Bool) → IsShortest (from_before before run ++ (if several then 0 ∷ [] else []))
      (if several then Some 0 else option_map (λ second. unsigned_abs (run.time.second -ℤ second)) before)
  by_count None true = (contains-head 0 [], λ k d inside. omega arith)
  by_count None false = refl
  by_count (Some second) true =
      (Contains-append_right (unsigned_abs (run.time.second -ℤ second) ∷ []) (0 ∷ []) 0 (contains-head 0 []), λ k d inside. omega arith)
  by_count (Some second) false =
      let x = unsigned_abs (run.time.second -ℤ second) in
      (contains-head x [], All-cons (λ z. x ≤ z) x [] (omega arith) (All-nil (λ z. x ≤ z)))

-- of all distances these were seen, and the shortest of them
pub record Seen (runs : List Run) (i : ℕ) (before : Option ℤ) (shortest : Option ℕ) : Type 0 where
  pub found : List ℕ
  pub left : found ++ distances before (drop i runs) ≡ distances None runs
  pub least : IsShortest found shortest

pub seen-none : (runs : List Run) → Seen runs 0 None None
seen-none runs = record { found = []; left = refl; least = refl }

-- those of one run more
seen-more : (runs : List Run) (i : ℕ) (d : Run) (before : Option ℤ) (shortest : Option ℕ) → i < length runs → Seen runs i before shortest
    → Seen runs (i + 1) (Some (get_or runs i d).time.second) (shorter_of shortest (distance_of before (get_or runs i d)))
seen-more runs i d before shortest h seen =
    let run : Run = get_or runs i d in
    let here : List ℕ = from_before before run ++ from_first run in
    let rest : List ℕ = distances (Some run.time.second) (drop (i + 1) runs) in
    let step : distances before (drop i runs) ≡ here ++ rest = at_drop_more (distances before) runs i d h in
    record {
      found = seen.found ++ here;
      left = joined seen.found here rest ∙ ap (λ xs. seen.found ++ xs) (sym step) ∙ seen.left;
      least = shortest-joined seen.found here shortest (distance_of before run) seen.least (shortest-here before run);
    }

pub seen-step : (runs : List Run) (i : ℕ) (run : Run) (before : Option ℤ) (shortest distance shorter_one : Option ℕ) (second : ℤ) → i < length runs
    → run ≡ get_or runs i run → Seen runs i before shortest → distance ≡ distance_of before run → shorter_one ≡ shorter_of shortest distance
    → second ≡ run.time.second → Seen runs (i + 1) (Some second) shorter_one
seen-step runs i run before shortest distance shorter_one second h is seen distance_is shorter_is second_is =
    let found : shorter_one ≡ shorter_of shortest (distance_of before (get_or runs i run)) =
    shorter_is ∙ ap (shorter_of shortest) (distance_is ∙ ap (distance_of before) is) in
    let at : second ≡ (get_or runs i run).time.second = second_is ∙ ap (λ (x : Run). x.time.second) is in
    subst (λ (x : ℤ). Seen runs (i + 1) (Some x) shorter_one) (sym at)
    (subst (λ (x : Option ℕ). Seen runs (i + 1) (Some (get_or runs i run).time.second) x) (sym found) (seen-more runs i run before shortest h seen))

-- those of all
pub seen-all : (runs : List Run) (i : ℕ) (before : Option ℤ) (shortest : Option ℕ) → i ≡ length runs → Seen runs i before shortest
    → IsShortest (distances None runs) shortest
seen-all runs i before shortest all seen =
    let rest : distances before (drop i runs) ≡ [] = at_drop_all (distances before) runs i (omega (arith, all)) in
    subst (λ xs. IsShortest xs shortest) (sym (nothing_after seen.found) ∙ ap (λ rest. seen.found ++ rest) (sym rest) ∙ seen.left) seen.least

pub ruleset counted = (added_on_small, most-none)

pub ruleset seen = (seen-none, seen-all)
