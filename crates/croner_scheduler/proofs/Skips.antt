-- All jobs move on to a second, one after the other in the order of their ids.
use Rattle.std.proofs.Common.{rules, ◌≡◌, refl, sym, ap, ap₂, ◌∙◌, subst, arith, ◌⊎◌, inl, inr, ◌<◌, ◌≤◌, ◌+◌, ℕ, nat_cmp, nat_lt, ℤ, ◌<ℤ◌, ◌≤ℤ◌, int_lt, not, Bool, true, false, ◌&&◌, ◌||◌, Ordering, Less, Equal, Greater, Option, None, Some, IfSome, IsSome, is_some}
use Rattle.std.proofs.lemmas.Bool.{false≢true}
use Rattle.std.proofs.lemmas.Cmp.{ranked}
use Rattle.std.specs.Option.{IsSomeAnd}
use Rattle.std.specs.Ordering.{MatchOrdering}
use Rattle.croner_scheduler.specs.declared.skip.Skip.{Skip}
use Rattle.croner_scheduler.specs.declared.skip.Skip.TheVariants.{Moved, AlreadyThere, NoJob, Paused, NotHeld}
use Rattle.croner_scheduler.specs.Calls.{IsSame, IsSameBut, StandsAt, SkipsTo, SkipTellsStop, SkipsIf, SkipsAll, SkipsBelow, TellsSkipped, is_behind, IsToSkip}
use Rattle.croner_scheduler.specs.Kept.{is_paused}
use Rattle.croner_scheduler.specs.Private.Steps.{is_skip_stopped}
use Rattle.croner_scheduler.specs.Standing.{Standing, Held}

before_or_not : (k n : ℕ) → (k < n) ⊎ (n ≤ k)
before_or_not k n = by (nat_cmp k n) (ranked k n _ refl)
  where
    by : (r : Ordering) → MatchOrdering r (k < n) (k ≡ n) (n < k) → (k < n) ⊎ (n ≤ k)
    by Less lt = inl lt
    by Equal same = inr (omega (arith, same))
    by Greater gt = inr (omega (arith, gt))

lt_true : (a b : ℤ) → a <ℤ b → int_lt a b ≡ true
lt_true a b lt = by (int_lt a b) refl
  where
    by : (c : Bool) → int_lt a b ≡ c → c ≡ true
    by true e = refl
    by false e = absurd (search (rules, e, lt))

lt_false : (a b : ℤ) → b ≤ℤ a → int_lt a b ≡ false
lt_false a b le = by (int_lt a b) refl
  where
    by : (c : Bool) → int_lt a b ≡ c → c ≡ false
    by false e = refl
    by true e = absurd (search (rules, e, le))

and_false : (b : Bool) → (b && false) ≡ false
and_false true = refl
and_false false = refl

-- one job
module _ {J : Type 0} (now : ℤ) where
  moves_on : (o o' : Option (Standing J))
      → IsSomeAnd o (λ s. IsToSkip now s × (s.position.zone.holds now ≡ true) × IfSome s.next (λ i. now <ℤ i → IsSomeAnd o' (λ s'. s'.next ≡ Some i)))
      → IfSome o (λ s. IsSomeAnd o' (StandsAt s.job s.position.zone now)) → (is_behind now o ≡ true) × SkipsIf true now o o'
  moves_on None o' can stands = absurd can
  moves_on (Some s) None can stands = absurd stands
  moves_on (Some s) (Some s') can stands = (
    ap₂ (λ a b. a && b) (ap₂ (λ a b. a && not b) (lt_true s.position.instant now can.0.0) can.0.1) can.1,
    (can.0.0, (stands, can.2)),
  )

  stays_there : (o : Option (Standing J)) → IsSomeAnd o (λ s. now ≤ℤ s.position.instant) → is_behind now o ≡ false
  stays_there None is = absurd is
  stays_there (Some s) is = ap (λ b. b && not (is_paused s.stop) && s.position.zone.holds now) (lt_false s.position.instant now is)

  isn't_held : (o : Option (Standing J)) → IsSomeAnd o (λ s. IsToSkip now s × (s.position.zone.holds now ≡ false)) → is_behind now o ≡ false
  isn't_held None is = absurd is
  isn't_held (Some s) is =
      ap₂ (λ a b. int_lt s.position.instant now && not a && b) is.0.1 is.1 ∙ and_false (int_lt s.position.instant now && not false)

  rests_paused : (o : Option (Standing J)) → IsSomeAnd o (λ s. (s.position.instant <ℤ now) × (is_paused s.stop ≡ true)) → is_behind now o ≡ false
  rests_paused None is = absurd is
  rests_paused (Some s) is =
      ap (λ b. int_lt s.position.instant now && not b && s.position.zone.holds now) is.1
      ∙ ap (λ b. b && s.position.zone.holds now) (and_false (int_lt s.position.instant now))

  module _ (id : ℕ) (h h' : Held J) where
    rest_of_same : IsSame h h' → IsSameBut id h h'
    rest_of_same same = record { others = λ k apart. same.jobs k; count = same.count; next_id = same.next_id }

    rest_of : (skip : Skip) → SkipsTo id now h h' skip → IsSameBut id h h'
    rest_of (Moved b) skips = skips.1.rest
    rest_of AlreadyThere skips = rest_of_same skips.1
    rest_of NoJob skips = rest_of_same skips.1
    rest_of Paused skips = rest_of_same skips.1
    rest_of NotHeld skips = rest_of_same skips.1

    behind_by : Bool → Type 0
    behind_by b = (is_behind now (h.jobs id) ≡ b) × SkipsIf b now (h.jobs id) (h'.jobs id)

    own : (skip : Skip) → SkipsTo id now h h' skip → SkipsIf (is_behind now (h.jobs id)) now (h.jobs id) (h'.jobs id)
    own skip skips = by skip skips
      where
        with : (b : Bool) → is_behind now (h.jobs id) ≡ b → SkipsIf b now (h.jobs id) (h'.jobs id)
            → SkipsIf (is_behind now (h.jobs id)) now (h.jobs id) (h'.jobs id)
        with b e is = subst (λ b. SkipsIf b now (h.jobs id) (h'.jobs id)) (sym e) is

        by : (skip : Skip) → SkipsTo id now h h' skip → SkipsIf (is_behind now (h.jobs id)) now (h.jobs id) (h'.jobs id)
        by (Moved b) skips = let on = moves_on (h.jobs id) (h'.jobs id) skips.0 skips.1.moved in with true on.0 on.1
        by AlreadyThere skips = with false (stays_there (h.jobs id) skips.0) (skips.1.jobs id)
        by NoJob skips = with false (ap (is_behind now) skips.0) (skips.1.jobs id)
        by Paused skips = with false (rests_paused (h.jobs id) skips.0) (skips.1.jobs id)
        by NotHeld skips = with false (isn't_held (h.jobs id) skips.0) (skips.1.jobs id)

    -- a job that is told of was behind
    is_moved : (b : Bool) → SkipsTo id now h h' (Moved b) → is_behind now (h.jobs id) ≡ true
    is_moved b skips = (moves_on (h.jobs id) (h'.jobs id) skips.0 skips.1.moved).0

    not_moved : (skip : Skip) → SkipsTo id now h h' skip → is_behind now (h.jobs id) ≡ true → (b : Bool) × (skip ≡ Moved b)
    not_moved (Moved b) skips behind = (b, refl)
    not_moved AlreadyThere skips behind = absurd (false≢true (sym (stays_there (h.jobs id) skips.0) ∙ behind))
    not_moved NoJob skips behind = absurd (false≢true (sym (ap (is_behind now) skips.0) ∙ behind))
    not_moved Paused skips behind = absurd (false≢true (sym (rests_paused (h.jobs id) skips.0) ∙ behind))
    not_moved NotHeld skips behind = absurd (false≢true (sym (isn't_held (h.jobs id) skips.0) ∙ behind))

-- the jobs of the ids below n have moved on, if they were behind
module _ {J : Type 0} (now : ℤ) (h : Held J) where
  pub record SkipsUpTo (n : ℕ) (h' : Held J) : Type 0 where
    pub below : (k : ℕ) → k < n → SkipsIf (is_behind now (h.jobs k)) now (h.jobs k) (h'.jobs k)
    pub rest : (k : ℕ) → n ≤ k → h'.jobs k ≡ h.jobs k
    pub count : h'.count ≡ h.count
    pub next_id : h'.next_id ≡ h.next_id

  -- and it is told whether one of them is stopped
  abbrev pub TellsUpTo : ℕ → Held J → Bool → Type 0
  TellsUpTo n h' true = (k : ℕ) × (k < n) × (is_behind now (h.jobs k) ≡ true) × IsSomeAnd (h'.jobs k) (λ s. IsSome s.stop)
  TellsUpTo n h' false = (k : ℕ) → k < n → is_behind now (h.jobs k) ≡ true → IfSome (h'.jobs k) (λ s. s.stop ≡ None)

  pub none_yet : SkipsUpTo 0 h
  none_yet = record { below = λ k lt. absurd (omega (arith, lt)); rest = λ k le. refl; count = refl; next_id = refl }

  pub none_told : TellsUpTo 0 h false
  none_told k lt behind = absurd (omega (arith, lt))

  -- the job of the next id
  module _ (from id : ℕ) (between : Held J) (upto : SkipsUpTo from between) (le : from ≤ id) (none : (k : ℕ) → from ≤ k → k < id → between.jobs k ≡ None)
      (h' : Held J) (skip : Skip) (skips : SkipsTo id now between h' skip) where
    same_rest : IsSameBut id between h'
    same_rest = rest_of now id between h' skip skips

    start : between.jobs id ≡ h.jobs id
    start = upto.rest id le

    lower : (k : ℕ) → k < id + 1 → (k < from) ⊎ ((from ≤ k) × (k < id)) ⊎ (k ≡ id)
    lower k lt = elim (before_or_not k from) [
      | inl before ↦ inl before
      | inr after ↦ elim (before_or_not k id) [ inl before ↦ inr (inl (after, before)) | inr above ↦ inr (inr (omega (arith, lt, above))) ]
    ]

    apart : (k : ℕ) → k < id → ¬ (k ≡ id)
    apart k lt same = omega (arith, lt, same)

    still : (k : ℕ) → k < id → h'.jobs k ≡ between.jobs k
    still k lt = same_rest.others k (apart k lt)

    no_job : (k : ℕ) → from ≤ k → k < id → h.jobs k ≡ None
    no_job k le lt = sym (upto.rest k le) ∙ none k le lt

    pub one_more : SkipsUpTo (id + 1) h'
    one_more = record {
      below = λ k lt. elim (lower k lt) [
        | inl before ↦ subst (λ o. SkipsIf (is_behind now (h.jobs k)) now (h.jobs k) o) (sym (still k (omega (arith, before, le)))) (upto.below k before)
        | inr (inl both) ↦
            subst (λ b. SkipsIf b now (h.jobs k) (h'.jobs k)) (sym (ap (is_behind now) (no_job k both.0 both.1))) (still k both.1 ∙ upto.rest k both.0)
        | inr (inr same) ↦
            subst (λ n. SkipsIf (is_behind now (h.jobs n)) now (h.jobs n) (h'.jobs n)) (sym same)
            (subst (λ o. SkipsIf (is_behind now o) now o (h'.jobs id)) start (own now id between h' skip skips))
      ];
      rest = λ k above. same_rest.others k (λ same. omega (arith, above, same)) ∙ upto.rest k (omega (arith, above, le));
      count = same_rest.count ∙ upto.count;
      next_id = same_rest.next_id ∙ upto.next_id;
    }

    pub one_told : (told : Bool) → TellsUpTo from between told → SkipTellsStop id h' skip → TellsUpTo (id + 1) h' (told || is_skip_stopped skip)
    one_told true told tells =
        (told.0, omega (arith, told.1, le), told.2, subst (λ o. IsSomeAnd o (λ s. IsSome s.stop)) (sym (still told.0 (omega (arith, told.1, le)))) told.3)
    one_told false told tells = by skip skips tells
      where
        is_stopped : (o : Option (Standing J)) → IsSomeAnd o (λ s. true ≡ is_some s.stop) → IsSomeAnd o (λ s. IsSome s.stop)
        is_stopped None is = absurd is
        is_stopped (Some s) is = search (rules, is)

        goes_on : (o : Option (Standing J)) → IsSomeAnd o (λ s. false ≡ is_some s.stop) → IfSome o (λ s. s.stop ≡ None)
        goes_on None is = absurd is
        goes_on (Some s) is = none_of s.stop is
          where
            none_of : {X : Type 0} (o : Option X) → false ≡ is_some o → o ≡ None
            none_of None e = refl
            none_of (Some x) e = absurd (false≢true e)

        others_go_on : (own : is_behind now (h.jobs id) ≡ true → IfSome (h'.jobs id) (λ s. s.stop ≡ None)) → TellsUpTo (id + 1) h' false
        others_go_on own k lt behind = elim (lower k lt) [
          | inl before ↦ subst (λ o. IfSome o (λ s. s.stop ≡ None)) (sym (still k (omega (arith, before, le)))) (told k before behind)
          | inr (inl both) ↦ absurd (false≢true (sym (ap (is_behind now) (no_job k both.0 both.1)) ∙ behind))
          | inr (inr same) ↦ subst (λ n. is_behind now (h.jobs n) ≡ true → IfSome (h'.jobs n) (λ s. s.stop ≡ None)) (sym same) own behind
        ]

        moved_behind : (b : Bool) → SkipsTo id now between h' (Moved b) → is_behind now (h.jobs id) ≡ true
        moved_behind b skips = subst (λ o. is_behind now o ≡ true) start (is_moved now id between h' b skips)

        never : (skip : Skip) → SkipsTo id now between h' skip → ((b : Bool) → ¬ (skip ≡ Moved b)) → TellsUpTo (id + 1) h' false
        never skip skips isn't = others_go_on (λ behind.
            let is = not_moved now id between h' skip skips (subst (λ o. is_behind now o ≡ true) (sym start) behind) in absurd (isn't is.0 is.1))

        by : (skip : Skip) → SkipsTo id now between h' skip → SkipTellsStop id h' skip → TellsUpTo (id + 1) h' (is_skip_stopped skip)
        by (Moved true) skips tells = (id, omega arith, moved_behind true skips, is_stopped (h'.jobs id) tells)
        by (Moved false) skips tells = others_go_on (λ behind. goes_on (h'.jobs id) tells)
        by AlreadyThere skips tells = never AlreadyThere skips (λ b same. cc)
        by NoJob skips tells = never NoJob skips (λ b same. cc)
        by Paused skips tells = never Paused skips (λ b same. cc)
        by NotHeld skips tells = never NotHeld skips (λ b same. cc)

  -- where no id is left, all have moved on
  module _ (from : ℕ) (h' : Held J) (upto : SkipsUpTo from h') (none : (k : ℕ) → from ≤ k → h'.jobs k ≡ None) where
    without : (k : ℕ) → from ≤ k → h.jobs k ≡ None
    without k le = sym (upto.rest k le) ∙ none k le

    pub all_skipped : SkipsAll now h h'
    all_skipped = record {
      each = λ k. elim (before_or_not k from) [
        | inl lt ↦ upto.below k lt
        | inr le ↦ subst (λ b. SkipsIf b now (h.jobs k) (h'.jobs k)) (sym (ap (is_behind now) (without k le))) (upto.rest k le)
      ];
      count = upto.count;
      next_id = upto.next_id;
    }

    pub all_told : (told : Bool) → TellsUpTo from h' told → TellsSkipped now h h' told
    all_told true told = (told.0, told.2, told.3)
    all_told false told = λ k behind. elim (before_or_not k from) [
      | inl lt ↦ told k lt behind
      | inr le ↦ absurd (false≢true (sym (ap (is_behind now) (without k le)) ∙ behind))
    ]

  -- those below an id alone
  some_skipped : (from : ℕ) (h' : Held J) → SkipsUpTo from h' → SkipsBelow from now h h'
  some_skipped from h' upto = record {
    each = λ k. by k (nat_lt k from) refl;
    count = upto.count;
    next_id = upto.next_id;
  }
    where
      by : (k : ℕ) (b : Bool) → nat_lt k from ≡ b → SkipsIf (nat_lt k from && is_behind now (h.jobs k)) now (h.jobs k) (h'.jobs k)
      by k true e =
          subst (λ c. SkipsIf (c && is_behind now (h.jobs k)) now (h.jobs k) (h'.jobs k)) (sym e) (upto.below k (search (rules, e)))
      by k false e =
          subst (λ c. SkipsIf (c && is_behind now (h.jobs k)) now (h.jobs k) (h'.jobs k)) (sym e) (upto.rest k (search (rules, e)))

  -- where memory is lacking at the next id, those below it have
  module _ (from id : ℕ) (between : Held J) (upto : SkipsUpTo from between) (le : from ≤ id) (none : (k : ℕ) → from ≤ k → k < id → between.jobs k ≡ None)
      (h' : Held J) (same : IsSame between h') where
    up_to_id : SkipsUpTo id h'
    up_to_id = record {
      below = λ k lt. elim (before_or_not k from) [
        | inl before ↦ subst (λ o. SkipsIf (is_behind now (h.jobs k)) now (h.jobs k) o) (sym (same.jobs k)) (upto.below k before)
        | inr after ↦
            subst (λ b. SkipsIf b now (h.jobs k) (h'.jobs k)) (sym (ap (is_behind now) (sym (upto.rest k after) ∙ none k after lt)))
            (same.jobs k ∙ upto.rest k after)
      ];
      rest = λ k above. same.jobs k ∙ upto.rest k (omega (arith, above, le));
      count = same.count ∙ upto.count;
      next_id = same.next_id ∙ upto.next_id;
    }

    pub skipped_below : SkipsBelow id now h h'
    skipped_below = some_skipped id h' up_to_id

    pub was_there : (P : Standing J → Type 0) → IsSomeAnd (between.jobs id) P → IsSomeAnd (h.jobs id) P
    was_there P is = subst (λ o. IsSomeAnd o P) (upto.rest id le) is
