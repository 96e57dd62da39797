-- What the order of the runs that are kept says: none of them comes before the first, and at its instant none has a lower place.
use Rattle.std.proofs.Common.{◌≡◌, ◌⊎◌, inl, inr, ℕ, ◌≤◌, ℤ, arith, sym, subst, ◌∙◌, refl, Bool, false, List, get_or}
use Rattle.std.proofs.lemmas.Bool.{false≢true}
use Rattle.std.proofs.lemmas.Cmp.{ranked, int_ranked}
use Rattle.std.proofs.lemmas.Int.{ints}
use Rattle.std.proofs.lemmas.List.Elements.{All-from_recursion}
use Rattle.std.specs.BinaryHeap.{IsUpperBound}
use Rattle.std.specs.List.{All}
use Rattle.std.specs.Ordering.{nat_cmp, int_cmp, is_lt, is_eq, ordering_then}
use Rattle.std.specs.declared.cmp.Ordering.{Ordering}
use Rattle.std.specs.declared.cmp.Ordering.TheVariants.{Less, Equal, Greater}
use Rattle.croner_base.specs.declared.time.Direction.{Direction}
use Rattle.croner_base.specs.declared.time.Direction.TheVariants.{Forward, Backward}
use Rattle.croner_base.specs.Zone.{Moment}
use Rattle.croner.specs.declared.crontable.due.Due.{Due}
use Rattle.croner.specs.Private.crontable.Dues.{rank, forward_nanos, backward_nanos, nanos_due, due_cmp}
use Rattle.croner.specs.search.Runs.{Reaches}

first_or_then : (a b : Ordering) → is_lt (ordering_then a b) ≡ false → (a ≡ Greater) ⊎ ((a ≡ Equal) × (is_lt b ≡ false))
first_or_then Less b e = absurd (false≢true (sym e))
first_or_then Equal b e = inr (refl, e)
first_or_then Greater b e = inl refl

not_less : (a b : ℕ) (r : Ordering) → r ≡ nat_cmp a b → is_lt r ≡ false → b ≤ a
not_less a b Less e h = absurd (false≢true (sym h))
not_less a b Equal e h = let s = ranked a b Equal e in omega (arith, s)
not_less a b Greater e h = let s = ranked a b Greater e in omega (arith, s)

apart_by : (n m : ℤ) (r : Ordering) → r ≡ int_cmp n m → is_eq r ≡ false → n ≡ m → ⊥
apart_by n m Less e h same = let s = int_ranked n m Less e in absurd (omega (arith, ints, s, same))
apart_by n m Equal e h same = absurd (false≢true (sym h))
apart_by n m Greater e h same = let s = int_ranked n m Greater e in absurd (omega (arith, ints, s, same))

-- a comparison that is not level
pub apart : (n m : ℤ) (r : Ordering) (b : Bool) → r ≡ int_cmp n m → b ≡ is_eq r → b ≡ false → n ≡ m → ⊥
apart n m r b e f h = apart_by n m r e (sym f ∙ h)

-- of two runs in one direction
abbrev order : Direction → ℤ → ℕ → Direction → ℤ → ℕ → Ordering
order d n p f m q =
    ordering_then (nat_cmp (rank d) (rank f)) (ordering_then (int_cmp (forward_nanos f m) (forward_nanos d n))
    (ordering_then (int_cmp (backward_nanos d n) (backward_nanos f m)) (nat_cmp q p)))

ordered : (d : Direction) (n m : ℤ) (p q : ℕ) → is_lt (order d n p d m q) ≡ false → Reaches d n m × (m ≡ n → p ≤ q)
ordered Forward n m p q h = elim (first_or_then (int_cmp m n) (nat_cmp q p) h) [
  | inl over ↦ let s = int_ranked m n Greater (sym over) in (omega (arith, ints, s), λ (e : m ≡ n). omega (arith, ints, s, e))
  | inr (level, rest) ↦ let s = int_ranked m n Equal (sym level) in (omega (arith, ints, s), λ e. not_less q p (nat_cmp q p) refl rest)
]
ordered Backward n m p q h = elim (first_or_then (int_cmp n m) (nat_cmp q p) h) [
  | inl over ↦ let s = int_ranked n m Greater (sym over) in (omega (arith, ints, s), λ (e : m ≡ n). omega (arith, ints, s, e))
  | inr (level, rest) ↦ let s = int_ranked n m Equal (sym level) in (omega (arith, ints, s), λ e. not_less q p (nat_cmp q p) refl rest)
]

module _ {T : Type 0} (moment : T → Moment) (direction : Direction) where
  -- the second comes no earlier, and has no lower place where it stands at the same instant
  abbrev pub ComesAfter : Due T → Due T → Type 0
  ComesAfter x y = Reaches direction (nanos_due moment x) (nanos_due moment y) × (nanos_due moment y ≡ nanos_due moment x → x.place ≤ y.place)

  pub comes_after : (x y : Due T) → x.direction ≡ direction → y.direction ≡ direction → is_lt (due_cmp moment x y) ≡ false → ComesAfter x y
  comes_after x y e f h =
      let P : Direction → Type 0 = λ d. is_lt (order d (nanos_due moment x) x.place y.direction (nanos_due moment y) y.place) ≡ false in
      let Q : Direction → Type 0 = λ d. is_lt (order direction (nanos_due moment x) x.place d (nanos_due moment y) y.place) ≡ false in
      ordered direction (nanos_due moment x) (nanos_due moment y) x.place y.place (subst Q f (subst P e h))

  pub all_after : (x : Due T) (dues : List (Due T)) → IsUpperBound (due_cmp moment) x dues → x.direction ≡ direction → All (λ y. y.direction ≡ direction) dues → All (ComesAfter x) dues
  all_after x dues above e all k d lt =
      let test = All-from_recursion (λ y. is_lt (due_cmp moment x y) ≡ false) dues above in
      comes_after x (get_or dues k d) e (all k d lt) (test k d lt)
