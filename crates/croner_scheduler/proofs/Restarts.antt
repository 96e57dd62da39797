-- What is given of a job that stands where another stood: two ordered lists with the same items are one.
use Rattle.std.proofs.Common.{rules, ◌≡◌, refl, sym, ap, ◌∙◌, subst, arith, ◌⊎◌, inl, inr, ◌<◌, ℕ, zero, suc, ℤ, ◌<ℤ◌, ◌≤ℤ◌, List, [], ◌∷◌, length, None, Some}
use Rattle.std.specs.Prelude.{slice_index_or}
use Rattle.std.proofs.Math.Logic.{∥∥₁_elim}
use Rattle.std.proofs.Props.{props}
use Rattle.std.proofs.lemmas.Cmp.{int_ranked}
use Rattle.std.proofs.lemmas.Int.{ints}
use Rattle.std.specs.List.{All, AllPairs, Contains}
use Rattle.std.specs.Ordering.{MatchOrdering, int_cmp}
use Rattle.std.specs.declared.cmp.Ordering.{Ordering}
use Rattle.std.specs.declared.cmp.Ordering.TheVariants.{Less, Equal, Greater}
use Rattle.croner_base.specs.Calm.{IsCalm}
use Rattle.croner_base.specs.Zone.{Zone}
use Rattle.croner_scheduler.proofs.History.{gives_in_turn}
use Rattle.croner_scheduler.specs.Calls.{StandsAt}
use Rattle.croner_scheduler.specs.History.{given, place_after_all, IsPassedOver, IsGivenBetween}
use Rattle.croner_scheduler.specs.Lives.{GivesAgain}
use Rattle.croner_scheduler.specs.Standing.{Standing, Held, Left}

abbrev Ordered : List ℤ → Type 0
Ordered items = AllPairs (λ i j. i <ℤ j) items

-- ---- what an ordered list has

cases : (x i : ℤ) (xs : List ℤ) (k : ℕ) → k < length (x ∷ xs) → slice_index_or (x ∷ xs) k i ≡ i → (x ≡ i) ⊎ Contains xs i
cases x i xs zero l e = inl e
cases x i xs (suc k) l e = inr (k, omega arith, e)

later : (x i : ℤ) (xs : List ℤ) → Ordered (x ∷ xs) → Contains xs i → x <ℤ i
later x i xs ordered c = subst (λ z. x <ℤ z) c.2 (ordered 0 (suc c.0) i (omega arith) (omega (arith, c.1)))

rest : (x : ℤ) (xs : List ℤ) → Ordered (x ∷ xs) → Ordered xs
rest x xs ordered a b d lt within = ordered (suc a) (suc b) d (omega (arith, lt)) (omega (arith, within))

behind : (x i : ℤ) (xs : List ℤ) → Contains xs i → Contains (x ∷ xs) i
behind x i xs c = (suc c.0, omega (arith, c.1), c.2)

no_items : (i : ℤ) → Contains [] i → ⊥
no_items i c = absurd (omega (arith, c.1))

-- the first items are one
heads : (x y : ℤ) (xs ys : List ℤ) → Ordered (x ∷ xs) → Ordered (y ∷ ys) → Contains (y ∷ ys) x → Contains (x ∷ xs) y → x ≡ y
heads x y xs ys a b c d = elim (cases y x ys c.0 c.1 c.2) [
  | inl same ↦ sym same
  | inr before ↦ elim (cases x y xs d.0 d.1 d.2) [
    | inl same ↦ same
    | inr after ↦ absurd (omega (arith, ints, later y x ys b before, later x y xs a after))
  ]
]

-- what comes after the first item of one list comes after that of the other
tails : (x y : ℤ) (xs ys : List ℤ) → Ordered (x ∷ xs) → x ≡ y → ((i : ℤ) → Contains (x ∷ xs) i → Contains (y ∷ ys) i)
    → (i : ℤ) → Contains xs i → Contains ys i
tails x y xs ys ordered same within i c =
    let at = within i (behind x i xs c) in
    elim (cases y i ys at.0 at.1 at.2) [
      | inl here ↦ absurd (omega (arith, ints, later x i xs ordered c, same, here))
      | inr there ↦ there
    ]

same_items : (xs ys : List ℤ) → Ordered xs → Ordered ys → ((i : ℤ) → Contains xs i → Contains ys i) → ((i : ℤ) → Contains ys i → Contains xs i) → xs ≡ ys
same_items [] [] a b f g = refl
same_items [] (y ∷ ys) a b f g = absurd (no_items y (g y (0, omega arith, refl)))
same_items (x ∷ xs) [] a b f g = absurd (no_items x (f x (0, omega arith, refl)))
same_items (x ∷ xs) (y ∷ ys) a b f g =
    let first = heads x y xs ys a b (f x (0, omega arith, refl)) (g y (0, omega arith, refl)) in
    ap (λ z. z ∷ xs) first
    ∙ ap (λ items. y ∷ items)
    (same_items xs ys (rest x xs a) (rest y ys b) (tails x y xs ys a first f) (tails y x ys xs b (sym first) g))

-- it has an item, or it doesn't
has_or_not : (xs : List ℤ) (i : ℤ) → Contains xs i ⊎ ¬ (Contains xs i)
has_or_not [] i = inr (no_items i)
has_or_not (x ∷ xs) i = by (int_cmp x i) (int_ranked x i _ refl) (has_or_not xs i)
  where
    behind_or_not : ¬ (x ≡ i) → Contains xs i ⊎ ¬ (Contains xs i) → Contains (x ∷ xs) i ⊎ ¬ (Contains (x ∷ xs) i)
    behind_or_not other (inl c) = inl (behind x i xs c)
    behind_or_not other (inr never) = inr (λ c. elim (cases x i xs c.0 c.1 c.2) [ inl same ↦ other same | inr there ↦ never there ])

    by : (r : Ordering) → MatchOrdering r (x <ℤ i) (x ≡ i) (i <ℤ x) → Contains xs i ⊎ ¬ (Contains xs i) → Contains (x ∷ xs) i ⊎ ¬ (Contains (x ∷ xs) i)
    by Less lt rest = behind_or_not (λ same. omega (arith, ints, lt, same)) rest
    by Equal same rest = inl (0, omega arith, same)
    by Greater gt rest = behind_or_not (λ same. omega (arith, ints, gt, same)) rest

-- ---- of two jobs that stand alike

module _ {J : Type 0} (runs : J → Zone → ℤ → Type 0) where
  module _ (s s' t t' : Standing J) (items more : List ℤ) (P Q : ℤ → Type 0) (a : IsGivenBetween runs s s' items P) (b : IsGivenBetween runs t t' more Q)
      (job : t.job ≡ s.job) (zone : t.position.zone ≡ s.position.zone) (from : t.position.instant ≡ s.position.instant)
      (to : t'.position.instant ≡ s'.position.instant) (over : (i : ℤ) → Q i → P i) (calm : IsCalm s.position.zone) where
    is_given : (i : ℤ) → Contains items i → ¬ (Contains more i) → runs s.job s.position.zone i → ⊥
    is_given i c never run =
        let within : (s.position.instant <ℤ i) × (i ≤ℤ s'.position.instant) = subst (λ z. (s.position.instant <ℤ z) × (z ≤ℤ s'.position.instant)) c.2 (a.between c.0 i c.1) in
        let left : Left runs t i = (
          omega (arith, ints, within.0, from),
          subst (λ j. runs j t.position.zone i) (sym job) (subst (λ z. runs s.job z i) (sym zone) run),
        ) in
        elim (b.either (subst IsCalm (sym zone) calm) i left) [
          | inl there ↦ never there
          | inr (inl passed) ↦ subst (λ z. ¬ (P z)) c.2 (a.apart c.0 i c.1) (over i passed)
          | inr (inr still) ↦ omega (arith, ints, still.0, within.1, to)
        ]

    among : (i : ℤ) → Contains items i → Contains more i
    among i c = elim (has_or_not more i) [
      | inl there ↦ there
      | inr never ↦ absurd (∥∥₁_elim (subst (λ z. ∥ runs s.job s.position.zone z ∥₁) c.2 (a.are_runs calm c.0 i c.1)) (hlevel props) (is_given i c never))
    ]

  pub gives_again : (h : Held J) → GivesAgain runs h
  gives_again h other h' other' calls again makes makes' k l s t there there' stands stay stay' calm place passed =
      let a = gives_in_turn runs h calls h' makes k s there stay in
      let b = gives_in_turn runs other again other' makes' l t there' stay' in
      let to : b.0.position.instant ≡ a.0.position.instant =
      b.3 ∙ ap (λ p. place_after_all l p again) stands.instant ∙ sym place ∙ sym a.3 in
      let over = subst (λ p. IsGivenBetween runs t b.0 (given l again) (IsPassedOver l p again)) stands.instant b.2 in
      let calm' = subst IsCalm (sym stands.zone_is) calm in
      same_items (given k calls) (given l again) a.2.ordered over.ordered
      (among s a.0 t b.0 _ _ _ _ a.2 over stands.job_is stands.zone_is stands.instant to (λ i. (passed i).1) calm)
      (among t b.0 s a.0 _ _ _ _ over a.2 (sym stands.job_is) (sym stands.zone_is) (sym stands.instant) (sym to) (λ i. (passed i).0) calm')
