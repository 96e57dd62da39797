-- The order of the turns: which is the first, and which turns there are after one is put there or taken away.
use Rattle.std.proofs.Common.{◌≡◌, refl, sym, ap, ap₂, ◌∙◌, subst, arith, ℕ, ◌<◌, ◌≤◌, ℤ, ◌<ℤ◌, ◌≤ℤ◌, Bool, true, false, cond, ◌||◌, List, [], ◌∷◌, length, Some, None, slice_index_or}
use Rattle.std.proofs.lemmas.Bool.{false≢true}
use Rattle.std.proofs.lemmas.Cmp.{ranked, int_ranked}
use Rattle.std.proofs.lemmas.Int.{ints}
use Rattle.std.proofs.lemmas.List.Sorted.{list_any-IsPermutation}
use Rattle.std.specs.BinaryHeap.{IsUpperBound}
use Rattle.std.specs.List.Sorted.{IsPermutation}
use Rattle.std.specs.Ordering.{MatchOrdering, nat_cmp, int_cmp, is_lt, is_eq, ordering_then}
use Rattle.std.specs.declared.cmp.Ordering.{Ordering}
use Rattle.std.specs.declared.cmp.Ordering.TheVariants.{Less, Equal, Greater}
use Rattle.std.specs.declared.cmp.Reverse.{Reverse}
use Rattle.croner_scheduler.specs.declared.turns.Turn.{Turn}
use Rattle.croner_scheduler.specs.Private.Turns.{turn_cmp, heap_cmp, has_turn, is_turn, top_of, IsFirstTurn}

module _ (a b : ℤ) (x y : ℕ) where
  not_before_by : (r s : Ordering) → MatchOrdering r (a <ℤ b) (a ≡ b) (b <ℤ a) → MatchOrdering s (x < y) (x ≡ y) (y < x)
      → is_lt (ordering_then r s) ≡ false → (b ≤ℤ a) × (a ≡ b → y ≤ x)
  not_before_by Less s lt m e = absurd (false≢true (sym e))
  not_before_by Equal Less same lt e = absurd (false≢true (sym e))
  not_before_by Equal Equal same eq e = (omega (arith, ints, same), λ _. omega (arith, eq))
  not_before_by Equal Greater same gt e = (omega (arith, ints, same), λ _. omega (arith, gt))
  not_before_by Greater s gt m e = (omega (arith, ints, gt), λ same. absurd (omega (arith, ints, gt, same)))

  -- what doesn't come before a turn comes with it or after it
  pub not_before : is_lt (turn_cmp (a, x) (b, y)) ≡ false → (b ≤ℤ a) × (a ≡ b → y ≤ x)
  not_before = not_before_by (int_cmp a b) (nat_cmp x y) (int_ranked a b _ refl) (ranked x y _ refl)

  pub same_turn : is_turn a x b y ≡ true → (a ≡ b) × (x ≡ y)
  same_turn e = by (int_cmp a b) (nat_cmp x y) (int_ranked a b _ refl) (ranked x y _ refl) e
    where
      by : (r s : Ordering) → MatchOrdering r (a <ℤ b) (a ≡ b) (b <ℤ a) → MatchOrdering s (x < y) (x ≡ y) (y < x) → is_eq (ordering_then r s) ≡ true → (a ≡ b) × (x ≡ y)
      by Less s lt m e = absurd (false≢true e)
      by Equal Less same lt e = absurd (false≢true e)
      by Equal Equal same eq e = (same, eq)
      by Equal Greater same gt e = absurd (false≢true e)
      by Greater s gt m e = absurd (false≢true e)

pub is_own_turn : (a : ℤ) (x : ℕ) → is_turn a x a x ≡ true
is_own_turn a x = by (int_cmp a a) (nat_cmp x x) (int_ranked a a _ refl) (ranked x x _ refl)
  where
    by : (r s : Ordering) → MatchOrdering r (a <ℤ a) (a ≡ a) (a <ℤ a) → MatchOrdering s (x < x) (x ≡ x) (x < x) → is_eq (ordering_then r s) ≡ true
    by Less s lt m = absurd (omega (arith, ints, lt))
    by Equal Less same lt = absurd (omega (arith, lt))
    by Equal Equal same eq = refl
    by Equal Greater same gt = absurd (omega (arith, gt))
    by Greater s gt m = absurd (omega (arith, ints, gt))

or_cond : (b d : Bool) → (b || d) ≡ cond b true d
or_cond true d = refl
or_cond false d = refl

-- ---- the first turn

-- no turn comes before the one on top
not_before_top : (top : Reverse (ℤ × ℕ)) (turns : List (Reverse (ℤ × ℕ))) → IsUpperBound heap_cmp top turns → (s : ℤ) (k : ℕ) → has_turn turns s k ≡ true
    → (top.0.0 ≤ℤ s) × (s ≡ top.0.0 → top.0.1 ≤ k)
not_before_top top [] bound s k has = absurd (false≢true has)
not_before_top top (turn ∷ turns) bound s k has = by (is_turn turn.0.0 turn.0.1 s k) refl has (λ has. not_before_top top turns bound.1 s k has)
  where
    by : (b : Bool) → is_turn turn.0.0 turn.0.1 s k ≡ b → (b || has_turn turns s k) ≡ true
        → (has_turn turns s k ≡ true → (top.0.0 ≤ℤ s) × (s ≡ top.0.0 → top.0.1 ≤ k)) → (top.0.0 ≤ℤ s) × (s ≡ top.0.0 → top.0.1 ≤ k)
    by true at has rest =
        let same = same_turn turn.0.0 s turn.0.1 k at in
        let h = not_before turn.0.0 top.0.0 turn.0.1 top.0.1 bound.0 in
        (subst (λ z. top.0.0 ≤ℤ z) same.0 h.0, λ e. subst (λ n. top.0.1 ≤ n) same.1 (h.1 (same.0 ∙ e)))
    by false at has rest = rest has

module _ (turns : List (Reverse (ℤ × ℕ))) (top : Reverse (ℤ × ℕ)) (some : 0 < length turns) (is : top ≡ slice_index_or turns 0 top)
    (due : Turn) (second : due.second ≡ top.0.0) (id : due.id ≡ top.0.1) where
  pub is_top : Some due ≡ top_of turns
  is_top = by turns some is
    where
      by : (turns : List (Reverse (ℤ × ℕ))) → 0 < length turns → top ≡ slice_index_or turns 0 top → Some due ≡ top_of turns
      by [] some is = absurd (omega (arith, some))
      by (turn ∷ turns) some is =
          ap₂ (λ n z. Some (record { id = n; second = z })) (id ∙ ap (λ (t : Reverse (ℤ × ℕ)). t.0.1) is) (second ∙ ap (λ (t : Reverse (ℤ × ℕ)). t.0.0) is)

  pub is_first : IsUpperBound heap_cmp top turns → IsFirstTurn (has_turn turns) (Some due)
  is_first bound = (
    subst (λ z. has_turn turns z due.id ≡ true) (sym second) (subst (λ n. has_turn turns top.0.0 n ≡ true) (sym id) (own turns some is)),
    λ s k has. let h = not_before_top top turns bound s k has in
        (subst (λ z. z ≤ℤ s) (sym second) h.0, λ e. subst (λ n. n ≤ k) (sym id) (h.1 (e ∙ second))),
  )
    where
      own : (turns : List (Reverse (ℤ × ℕ))) → 0 < length turns → top ≡ slice_index_or turns 0 top → has_turn turns top.0.0 top.0.1 ≡ true
      own [] some is = absurd (omega (arith, some))
      own (turn ∷ turns) some is =
          subst (λ t. (is_turn t.0.0 t.0.1 top.0.0 top.0.1 || has_turn turns top.0.0 top.0.1) ≡ true) is
          (ap (λ b. b || has_turn turns top.0.0 top.0.1) (is_own_turn top.0.0 top.0.1))

pub none_of : (turns : List (Reverse (ℤ × ℕ))) → length turns ≡ 0 → (None ≡ top_of turns) × IsFirstTurn (has_turn turns) None
none_of [] e = (refl, λ s k. refl)
none_of (turn ∷ turns) e = absurd (omega (arith, e))

-- ---- the turns after a push, and before a pop

pub with_turn : (turn : Reverse (ℤ × ℕ)) (turns turns' : List (Reverse (ℤ × ℕ))) → IsPermutation (turn ∷ turns) turns' → (s : ℤ) (k : ℕ)
    → has_turn turns' s k ≡ cond (is_turn turn.0.0 turn.0.1 s k) true (has_turn turns s k)
with_turn turn turns turns' moved s k =
    sym (list_any-IsPermutation (λ t. is_turn t.0.0 t.0.1 s k) (turn ∷ turns) turns' moved) ∙ or_cond (is_turn turn.0.0 turn.0.1 s k) (has_turn turns s k)

pub without_turn : (turn : Reverse (ℤ × ℕ)) (turns turns' : List (Reverse (ℤ × ℕ))) → IsPermutation turns (turn ∷ turns') → (s : ℤ) (k : ℕ)
    → has_turn turns s k ≡ cond (is_turn turn.0.0 turn.0.1 s k) true (has_turn turns' s k)
without_turn turn turns turns' moved s k =
    list_any-IsPermutation (λ t. is_turn t.0.0 t.0.1 s k) turns (turn ∷ turns') moved ∙ or_cond (is_turn turn.0.0 turn.0.1 s k) (has_turn turns' s k)
