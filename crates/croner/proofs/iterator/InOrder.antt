-- The items of an iterator one by one: how each compares with the one before it.
use Rattle.std.proofs.Common.{◌≡◌, ℕ, ◌+◌, ◌-◌, ◌<◌, ◌≤◌, ℤ, pos, ◌+ℤ◌, ◌*ℤ◌, List, [], ◌∷◌, ◌++◌, length, get_or, map, arith, sym, ap, subst, ◌∙◌, ◌⊎◌, inl, inr}
use Rattle.std.proofs.lemmas.Bool.{cases_lt}
use Rattle.std.proofs.lemmas.Bool.Decides.{nat_tests}
use Rattle.std.proofs.lemmas.Int.{ints}
use Rattle.std.proofs.lemmas.List.{get_or_read, length_push, get_or_push, get_or_append_left, get_or-map, length-map}
use Rattle.std.specs.List.{All, AllPairs}
use Rattle.std.specs.Ordering.{int_cmp}
use Rattle.std.specs.declared.cmp.Ordering.{Ordering}
use Rattle.croner_base.specs.declared.time.Direction.{Direction}
use Rattle.croner_base.specs.declared.time.Direction.TheVariants.{Forward, Backward}
use Rattle.croner_base.specs.Zone.{Zone, Moment, nanos_of}
use Rattle.croner.specs.iterator.Listing.{instants}
use Rattle.croner.specs.laws.Neighbours.{AreCompared, IsWholeIn, onward}
use Rattle.croner.specs.search.Runs.{Precedes}

-- the order of one item and the one before it
abbrev pub order_at : {T : Type 0} → (T → Moment) → List T → ℕ → T → Ordering
order_at moment items k d = int_cmp (nanos_of (moment (get_or items (k + 1) d))) (nanos_of (moment (get_or items k d)))

-- the items before the place k are compared
pub record ComparedBelow {T : Type 0} (moment : T → Moment) (items : List T) (orders : List Ordering) (k : ℕ) : Type 0 where
  pub counted : length orders + 1 ≡ k
  pub within : (k ≤ length items) ⊎ (k ≡ 1)
  pub each : (j : ℕ) (d : T) (o : Ordering) → j < length orders → get_or orders j o ≡ order_at moment items j d

module _ {T : Type 0} (moment : T → Moment) (items : List T) (orders : List Ordering) (k : ℕ) where
  -- one more
  pub compared_more : (a b : T) (order : Ordering) → ComparedBelow moment items orders k → k < length items
      → a ≡ get_or items k a → b ≡ get_or items (k - 1) b → order ≡ int_cmp (nanos_of (moment a)) (nanos_of (moment b))
      → ComparedBelow moment items (orders ++ order ∷ []) (k + 1)
  compared_more a b order so_far within at before is = record {
    counted = ap (λ (n : ℕ). n + 1) (length_push orders order ∙ so_far.counted);
    within = inl (omega arith);
    each = λ j d o lt.
        let more : length (orders ++ order ∷ []) ≡ length orders + 1 = length_push orders order in
        let count : length orders + 1 ≡ k = so_far.counted in
        elim (cases_lt j (length orders)) [
          | inl old ↦ get_or_append_left orders (order ∷ []) o j old ∙ so_far.each j d o old
          | inr last ↦
              let place : length orders ≡ j = omega arith in
              let here : a ≡ get_or items (j + 1) d = get_or_read items (j + 1) a (omega arith) (at ∙ ap (λ (n : ℕ). get_or items n a) (omega arith)) d in
              let there : b ≡ get_or items j d = get_or_read items j b (omega arith) (before ∙ ap (λ (n : ℕ). get_or items n b) (omega arith)) d in
              let F : T → T → Ordering = λ x y. int_cmp (nanos_of (moment x)) (nanos_of (moment y)) in
              get_or_push orders order o j place ∙ is ∙ ap (λ (x : T). F x b) here ∙ ap (λ (y : T). F (get_or items (j + 1) d) y) there
        ];
  }

  -- all of them
  pub compared_all : ComparedBelow moment items orders k → length items ≤ k → AreCompared moment items orders
  compared_all so_far high =
      let count : length orders + 1 ≡ k = so_far.counted in
      record {
        counted = elim so_far.within [ inl le ↦ omega arith | inr none ↦ omega arith ];
        each = so_far.each;
      }

onward_of : (direction : Direction) (a b : ℤ) → Precedes direction a b → int_cmp (b *ℤ pos 1_000_000_000 +ℤ pos 0) (a *ℤ pos 1_000_000_000 +ℤ pos 0) ≡ onward direction
onward_of Forward a b h = grind (arith, ints, nat_tests)
onward_of Backward a b h = grind (arith, ints, nat_tests)

-- items that go strictly in the direction, at whole seconds, compare so
module _ {T : Type 0} (moment : T → Moment) (direction : Direction) (z : Zone) where
  order_of : (a b : T) → (moment a).fraction ≡ 0 → (moment b).fraction ≡ 0 → Precedes direction (moment a).instant (moment b).instant
      → int_cmp (nanos_of (moment b)) (nanos_of (moment a)) ≡ onward direction
  order_of a b p q before =
      rw (p, q) (onward_of direction (moment a).instant (moment b).instant before)

  pub strictly : (items : List T) (orders : List Ordering) → AreCompared moment items orders → AllPairs (Precedes direction) (instants moment items)
      → All (λ t. IsWholeIn z (moment t)) items → All (λ o. o ≡ onward direction) orders
  strictly [] orders compared ordered wholes k o within = let none : length orders ≡ 0 = compared.counted in absurd (omega arith)
  strictly (x ∷ xs) orders compared ordered wholes k o within =
      let items : List T = x ∷ xs in
      let at : T → ℤ = λ t. (moment t).instant in
      let count : length orders ≡ length (x ∷ xs) - 1 = compared.counted in
      let two : k + 1 < length (x ∷ xs) = omega arith in
      let a : T = get_or (x ∷ xs) k x in
      let b : T = get_or (x ∷ xs) (k + 1) x in
      let one_by_one = ordered k (k + 1) (at x) (omega arith) (subst (λ (n : ℕ). k + 1 < n) (sym (length-map (x ∷ xs) at)) two) in
      let first = get_or-map at (x ∷ xs) k x (at x) (omega arith) in
      let second = get_or-map at (x ∷ xs) (k + 1) x (at x) two in
      let before : Precedes direction (at a) (at b) =
      subst (λ (i : ℤ). Precedes direction (at a) i) second (subst (λ (i : ℤ). Precedes direction i (get_or (map at (x ∷ xs)) (k + 1) (at x))) first one_by_one) in
      compared.each k x o within ∙ order_of a b (wholes k x (omega arith)).whole (wholes (k + 1) x two).whole before
