-- The windows between starts one by one are those of the span.
use Rattle.std.proofs.Common.{◌≡◌, ◌≢◌, ◌∙◌, ℕ, ℤ, pos, Bool, true, false, ◌+◌, ◌<◌, ◌<ℤ◌, ◌≤ℤ◌, ◌-ℤ◌, inl, inr, List, [], ◌∷◌, ◌++◌, length, get_or, drop, refl, sym, ap, subst, arith, cond, is_lt}
use Rattle.std.proofs.lemmas.Int.{ints, by_lt_z}
use Rattle.std.proofs.lemmas.List.{append-nil, at_drop_more}
use Rattle.std.proofs.lemmas.List.Elements.{All-nil, All-cons, All-append, All-contains, All-weaker, Contains-append_cases, Contains-append_left, Contains-append_right}
use Rattle.std.proofs.lemmas.List.Kept.{AllPairs-cons}
use Rattle.std.proofs.lemmas.List.Sorted.{All-permutation, Contains-permutation}
use Rattle.std.specs.List.{All, AllPairs, Contains}
use Rattle.std.specs.List.Sorted.{IsPermutation, IsSorted, IsSortedByKey}
use Rattle.std.specs.Ordering.{int_cmp, nat_cmp, ordering_then}
use Rattle.std.specs.declared.cmp.Ordering.{Ordering}
use Rattle.std.specs.declared.cmp.Ordering.TheVariants.{Less, Equal, Greater}
use Rattle.cronplan.specs.declared.span.Span.{Span}
use Rattle.cronplan.specs.declared.start.JobStart.{JobStart}
use Rattle.cronplan.specs.declared.windows.Edge.{Edge}
use Rattle.cronplan.specs.declared.windows.Window.{Window}
use Rattle.cronplan.specs.Starts.{seconds_of}
use Rattle.cronplan.specs.Private.Gaps.{edge_of, span_begin, span_end, is_long, gap, gaps}
use Rattle.cronplan.specs.Windows.{NoneBetween, Begins, IsWindow, AreWindows, longest_cmp, seconds_in}
use Rattle.cronplan.proofs.FilteredLists.{AllPairs-permutation}

-- ---- the loop

-- one start more
pub gaps_step : (least : ℕ) (end from : Edge) (ss : List JobStart) (i : ℕ) (s : JobStart) → i < length ss → s ≡ get_or ss i s
    → gaps least end from (drop i ss) ≡ gap least (record { from = from; until = edge_of s }) ++ gaps least end (edge_of s) (drop (i + 1) ss)
gaps_step least end from ss i s h e =
    at_drop_more (gaps least end from) ss i s h
    ∙ ap (λ (x : JobStart). gap least (record { from = from; until = edge_of x }) ++ gaps least end (edge_of x) (drop (i + 1) ss)) (sym e)

-- ---- what they are

-- no second is later than those after it
abbrev pub Climbs : List ℤ → Type 0
Climbs [] = Unit {0}
Climbs (s ∷ ss) = All (λ t. s ≤ℤ t) ss × Climbs ss

contains-head : {X : Type 0} (x : X) (xs : List X) → Contains (x ∷ xs) x
contains-head x xs = (0, Prim.omega arith, refl)

long-at : (least : ℕ) (w : Window) → is_long least w ≡ true → (w.from.second <ℤ w.until.second) × (pos least ≤ℤ (w.until.second -ℤ w.from.second))
long-at least w e = (Prim.grind (arith, ints), Prim.grind (arith, ints))

at-long : (least : ℕ) (w : Window) → w.from.second <ℤ w.until.second → pos least ≤ℤ (w.until.second -ℤ w.from.second) → is_long least w ≡ true
at-long least w lt le = Prim.grind (arith, ints)

gap-all : (P : Window → Type 0) (least : ℕ) (w : Window) → (is_long least w ≡ true → P w) → All P (gap least w)
gap-all P least w h = go (is_long least w) h where
  go : (b : Bool) → (b ≡ true → P w) → All P (cond b (w ∷ []) [])
  go true g = All-cons P w [] (g refl) (All-nil P)
  go false g = All-nil P

-- before others such a window stands alone, or there is none
gap-before : (R : Window → Window → Type 0) (least : ℕ) (w : Window) (ws : List Window) → (is_long least w ≡ true → All (R w) ws) → AllPairs R ws → AllPairs R (gap least w ++ ws)
gap-before R least w ws h rest = go (is_long least w) h where
  go : (b : Bool) → (b ≡ true → All (R w) ws) → AllPairs R (cond b (w ∷ []) [] ++ ws)
  go true g = AllPairs-cons R w ws (g refl) rest
  go false g = rest

gap-contains : (least : ℕ) (w : Window) → is_long least w ≡ true → Contains (gap least w) w
gap-contains least w e = subst (λ (b : Bool). Contains (cond b (w ∷ []) []) w) (sym e) (contains-head w [])

-- of these starts those that may lie after a side are the ones that are left
pub record Stands (starts : List JobStart) (span : Span) (from : Edge) (ss : List JobStart) : Type 0 where
  pub climbs : Climbs (seconds_of ss)
  pub after : All (λ t. from.second ≤ℤ t) (seconds_of ss)
  pub left : (i : ℤ) → Contains (seconds_of starts) i → from.second <ℤ i → Contains (seconds_of ss) i
  pub had : (i : ℤ) → Contains (seconds_of ss) i → Contains (seconds_of starts) i
  pub begins : All (λ t. from.second <ℤ t) (seconds_of ss) → Begins starts span from.bound from.second

contains-tail : {X : Type 0} (x : X) (xs : List X) (y : X) → Contains xs y → Contains (x ∷ xs) y
contains-tail x xs y h = Contains-append_right (x ∷ []) xs y h

≤-same : (s : ℤ) → s ≤ℤ s
≤-same s = omega (arith, ints)

module _ (starts : List JobStart) (span : Span) (least : ℕ) where
  -- up to the end
  last-window : (from : Edge) → Stands starts span from [] → is_long least (record { from = from; until = span_end span }) ≡ true
      → IsWindow starts span least (record { from = from; until = span_end span })
  last-window from h e = record {
    none = λ i gt lt has. absurd (omega (arith, (h.left i has gt).1));
    begins = h.begins (All-nil (λ t. from.second <ℤ t));
    ends = refl;
    some = (long-at least (record { from = from; until = span_end span }) e).0;
    long = (long-at least (record { from = from; until = span_end span }) e).1;
  }

  -- up to the next start
  next-window : (from : Edge) (s : JobStart) (ss : List JobStart) → Stands starts span from (s ∷ ss)
      → is_long least (record { from = from; until = edge_of s }) ≡ true → IsWindow starts span least (record { from = from; until = edge_of s })
  next-window from s ss h e =
      let w : (from.second <ℤ s.second) × (pos least ≤ℤ (s.second -ℤ from.second)) = long-at least (record { from = from; until = edge_of s }) e in
      record {
        none = λ i gt lt has.
            absurd (omega (
              arith,
              ints,
              lt,
              All-contains (λ t. s.second ≤ℤ t) (s.second ∷ seconds_of ss) i
                  (All-cons (λ t. s.second ≤ℤ t) s.second (seconds_of ss) (≤-same s.second) h.climbs.0) (h.left i has gt),
            ));
        begins = h.begins (All-cons (λ t. from.second <ℤ t) s.second (seconds_of ss) w.0
            (All-weaker (λ t. s.second ≤ℤ t) (λ t. from.second <ℤ t) (λ t le. omega (arith, ints, le, w.0)) (seconds_of ss) h.climbs.0));
        ends = h.had s.second (contains-head s.second (seconds_of ss));
        some = w.0;
        long = w.1;
      }

  stands-next : (from : Edge) (s : JobStart) (ss : List JobStart) → Stands starts span from (s ∷ ss) → Stands starts span (edge_of s) ss
  stands-next from s ss h =
      let le : from.second ≤ℤ s.second = All-contains (λ t. from.second ≤ℤ t) (s.second ∷ seconds_of ss) s.second h.after (contains-head s.second (seconds_of ss)) in
      record {
        climbs = h.climbs.1;
        after = h.climbs.0;
        left = λ i has gt.
            elim (Contains-append_cases (s.second ∷ []) (seconds_of ss) i (h.left i has (omega (arith, ints, le, gt)))) [
              | inl one ↦ absurd (omega (
                arith,
                ints,
                gt,
                All-contains (λ t. t ≤ℤ s.second) (s.second ∷ []) i
                    (All-cons (λ t. t ≤ℤ s.second) s.second [] (≤-same s.second) (All-nil (λ t. t ≤ℤ s.second))) one,
              ))
              | inr rest ↦ rest
            ];
        had = λ i is. h.had i (contains-tail s.second (seconds_of ss) i is);
        begins = λ _. h.had s.second (contains-head s.second (seconds_of ss));
      }

  each-gap : (from : Edge) (ss : List JobStart) → Stands starts span from ss → All (IsWindow starts span least) (gaps least (span_end span) from ss)
  each-gap from [] h = gap-all (IsWindow starts span least) least (record { from = from; until = span_end span }) (last-window from h)
  each-gap from (s ∷ ss) h =
      All-append (IsWindow starts span least) (gap least (record { from = from; until = edge_of s })) (gaps least (span_end span) (edge_of s) ss)
      (gap-all (IsWindow starts span least) least (record { from = from; until = edge_of s }) (next-window from s ss h))
      (each-gap (edge_of s) ss (stands-next from s ss h))

  -- none of them begins before a second that isn't after the first side
  from-on : (from : Edge) (ss : List JobStart) (i : ℤ) → Stands starts span from ss → i ≤ℤ from.second → All (λ w. i ≤ℤ w.from.second) (gaps least (span_end span) from ss)
  from-on from [] i h le = gap-all (λ w. i ≤ℤ w.from.second) least (record { from = from; until = span_end span }) (λ _. le)
  from-on from (s ∷ ss) i h le =
      let next : from.second ≤ℤ s.second = All-contains (λ t. from.second ≤ℤ t) (s.second ∷ seconds_of ss) s.second h.after (contains-head s.second (seconds_of ss)) in
      All-append (λ w. i ≤ℤ w.from.second) (gap least (record { from = from; until = edge_of s })) (gaps least (span_end span) (edge_of s) ss)
      (gap-all (λ w. i ≤ℤ w.from.second) least (record { from = from; until = edge_of s }) (λ _. le))
      (from-on (edge_of s) ss i (stands-next from s ss h) (omega (arith, ints, le, next)))

  -- each begins before those after it
  rises : (from : Edge) (ss : List JobStart) → Stands starts span from ss → AllPairs (λ v w. v.from.second <ℤ w.from.second) (gaps least (span_end span) from ss)
  rises from [] h =
      subst (AllPairs (λ v w. v.from.second <ℤ w.from.second)) (append-nil (gap least (record { from = from; until = span_end span })))
      (gap-before (λ v w. v.from.second <ℤ w.from.second) least (record { from = from; until = span_end span }) []
      (λ _. All-nil (λ w. from.second <ℤ w.from.second)) (λ i j d lt within. absurd (omega (arith, within))))
  rises from (s ∷ ss) h =
      let rest = stands-next from s ss h in
      gap-before (λ v w. v.from.second <ℤ w.from.second) least (record { from = from; until = edge_of s }) (gaps least (span_end span) (edge_of s) ss)
      (λ e.
      let some : from.second <ℤ s.second = (long-at least (record { from = from; until = edge_of s }) e).0 in
      All-weaker (λ w. s.second ≤ℤ w.from.second) (λ w. from.second <ℤ w.from.second) (λ w le. omega (arith, ints, some, le)) (gaps least (span_end span) (edge_of s) ss)
      (from-on (edge_of s) ss s.second rest (≤-same s.second)))
      (rises (edge_of s) ss rest)

  once-gaps : (from : Edge) (ss : List JobStart) → Stands starts span from ss → AllPairs (λ v w. v.from.second ≢ w.from.second) (gaps least (span_end span) from ss)
  once-gaps from ss h i j d lt within same = omega (arith, ints, rises from ss h i j d lt within, same)

  -- a stretch after a side lies in one of them
  complete-gaps : (from : Edge) (ss : List JobStart) (a b : ℤ) → from.second ≤ℤ a → a <ℤ b → b ≤ℤ span.end → pos least ≤ℤ (b -ℤ a)
      → NoneBetween ss a b → (w : Window) × Contains (gaps least (span_end span) from ss) w × (w.from.second ≤ℤ a) × (b ≤ℤ w.until.second)
  complete-gaps from [] a b le lt within long none = (
    record { from = from; until = span_end span },
    gap-contains least (record { from = from; until = span_end span })
        (at-long least (record { from = from; until = span_end span }) (omega (arith, ints, le, lt, within)) (omega (arith, ints, le, lt, within, long))),
    le,
    within,
  )
  complete-gaps from (s ∷ ss) a b le lt within long none =
      by_lt_z s.second b
      (λ before. by_lt_z a s.second
      (λ after. absurd (none s.second after before (contains-head s.second (seconds_of ss))))
      (λ upto.
      let r = complete-gaps (edge_of s) ss a b upto lt within long (λ i gt lt has. none i gt lt (contains-tail s.second (seconds_of ss) i has)) in
      (r.0, Contains-append_right (gap least (record { from = from; until = edge_of s })) (gaps least (span_end span) (edge_of s) ss) r.0 r.1, r.2, r.3)))
      (λ upto. (
        record { from = from; until = edge_of s },
        Contains-append_left (gap least (record { from = from; until = edge_of s })) (gaps least (span_end span) (edge_of s) ss) (record { from = from; until = edge_of s })
            (gap-contains least (record { from = from; until = edge_of s })
            (at-long least (record { from = from; until = edge_of s }) (omega (arith, ints, le, lt, upto)) (omega (arith, ints, le, lt, upto, long)))),
        le,
        upto,
      ))

  -- starts in order, all of them in the span
  stands-first : Climbs (seconds_of starts) → All (λ t. span.first ≤ℤ t) (seconds_of starts) → Stands starts span (span_begin span) starts
  stands-first climbs within = record {
    climbs = climbs;
    after = within;
    left = λ i has gt. has;
    had = λ i has. has;
    begins = λ all. (refl, λ has. absurd (omega (arith, ints, All-contains (λ t. span.first <ℤ t) (seconds_of starts) span.first all has)));
  }

  pub are_windows : Climbs (seconds_of starts) → All (λ t. span.first ≤ℤ t) (seconds_of starts) → AreWindows starts span least (gaps least (span_end span) (span_begin span) starts)
  are_windows climbs within = record {
    each = each-gap (span_begin span) starts (stands-first climbs within);
    once = once-gaps (span_begin span) starts (stands-first climbs within);
    complete = λ a b le lt end long none. complete-gaps (span_begin span) starts a b le lt end long none;
  }

-- ---- in another order

-- two windows begin at different seconds
abbrev Apart : Window → Window → Type 0
Apart v w = v.from.second ≢ w.from.second

pub in_order : (starts : List JobStart) (span : Span) (least : ℕ) (ws ordered : List Window) → AreWindows starts span least ws → IsPermutation ws ordered
    → AreWindows starts span least ordered
in_order starts span least ws ordered h same = record {
  each = All-permutation (IsWindow starts span least) ws ordered same h.each;
  once = AllPairs-permutation Apart (λ v w ne e. ne (sym e)) ws ordered same h.once;
  complete = λ a b le lt end long none.
      let found = h.complete a b le lt end long none in
      (found.0, Contains-permutation ws ordered found.0 same found.1, found.2, found.3);
}

-- what comes first decides, unless it is a tie
first-decides : (a b : Ordering) → is_lt (ordering_then a b) ≡ false → is_lt a ≡ false
first-decides Less b e = e
first-decides Equal b e = refl
first-decides Greater b e = e

pub by_length : (ws : List Window) → IsSorted longest_cmp ws → IsSortedByKey seconds_in (λ (a b : ℕ). nat_cmp b a) ws
by_length ws up k d low within =
    let v = get_or ws k d in
    let w = get_or ws (k + 1) d in
    first-decides (nat_cmp (seconds_in v) (seconds_in w)) (int_cmp w.from.second v.from.second) (up k d low within)
