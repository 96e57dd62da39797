-- What a list of calls gives of a job, call by call.
use Rattle.std.proofs.Common.{rules, ◌≡◌, refl, sym, ap, ◌∙◌, subst, arith, ◌⊎◌, inl, inr, ◌<◌, ◌≤◌, ℕ, suc, nat_eq, ℤ, ◌<ℤ◌, ◌≤ℤ◌, Bool, true, false, cond, List, [], ◌∷◌, ◌++◌, Option, None, Some, IfSome, IsSome}
use Rattle.std.specs.Prelude.{⊤}
use Rattle.std.proofs.lemmas.Bool.{false≢true}
use Rattle.std.proofs.lemmas.Cmp.{int_ranked}
use Rattle.std.proofs.lemmas.Int.{ints, int_max_is}
use Rattle.std.proofs.lemmas.List.Elements.{All-nil, All-cons, All-head, All-tail, All-append, All-weaker, Contains-append_left, Contains-append_right}
use Rattle.std.proofs.lemmas.List.Kept.{AllPairs-cons}
use Rattle.std.specs.Int.{int_max}
use Rattle.std.specs.List.{All, AllPairs, Contains}
use Rattle.std.specs.Option.{IsSomeAnd}
use Rattle.std.specs.Ordering.{MatchOrdering, int_cmp}
use Rattle.std.specs.declared.cmp.Ordering.{Ordering}
use Rattle.std.specs.declared.cmp.Ordering.TheVariants.{Less, Equal, Greater}
use Rattle.croner_base.specs.Calm.{IsCalm}
use Rattle.croner_base.specs.Zone.{Zone, Moment}
use Rattle.croner_base.specs.declared.time.Direction.TheVariants.{Forward}
use Rattle.croner.specs.search.Limit.{InSpan}
use Rattle.croner_scheduler.specs.declared.latest.Latest.TheVariants as latest
use Rattle.croner_scheduler.proofs.Puts.{can_be}
use Rattle.croner_scheduler.specs.declared.resume.Resume.TheVariants as resumes
use Rattle.croner_scheduler.specs.declared.skip.Skip.TheVariants.{Moved, AlreadyThere, NoJob, NotHeld}
use Rattle.croner_scheduler.specs.declared.skip.Skip.TheVariants as skips
use Rattle.croner_scheduler.specs.declared.waiting.Stop.{Stop}
use Rattle.croner_scheduler.specs.declared.waiting.Stop.TheVariants as stops
use Rattle.croner_scheduler.specs.Calls.{IsAdded, IsSame, IsSameBut, StandsAt, MovesTo, IsGivable, IsLastDue, AsksAgain, IsStoppedBySearch, Pauses, paused, StandsOn, SkipsIf, IsNotDue, ComesAfter, HasNoneSeen}
use Rattle.croner_scheduler.specs.History.{Call, TakeDue, TakeLatestDue, SkipTo, SkipAllTo, Add, Replace, Remove, AskAgain, Pause, ResumeFrom, ChangeNothing, Makes, MakesInTurn, Stays, given_by, given, place_after, place_after_all, PassesOver, IsPassedOver, IsGivenBetween, GivesInTurn, AreDoneWith, KeepsNoneBack, CannotStop, NeverKeepsBack, StaysGone}
use Rattle.croner_scheduler.specs.Kept.{StopsAt, CanBeAt, is_paused}
use Rattle.croner_scheduler.specs.Standing.{Standing, Held, Left, Seen}

-- ---- numbers and lists

up_to : (a b : ℤ) → (a ≤ℤ b) ⊎ (b <ℤ a)
up_to a b = by (int_cmp a b) (int_ranked a b _ refl)
  where
    by : (r : Ordering) → MatchOrdering r (a <ℤ b) (a ≡ b) (b <ℤ a) → (a ≤ℤ b) ⊎ (b <ℤ a)
    by Less lt = inl (omega (arith, ints, lt))
    by Equal same = inl (omega (arith, ints, same))
    by Greater gt = inr gt

ordered_append : {X : Type 0} (R : X → X → Type 0) (xs ys : List X) → AllPairs R xs → AllPairs R ys → All (λ x. All (R x) ys) xs → AllPairs R (xs ++ ys)
ordered_append R [] ys h g across = g
ordered_append R (x ∷ xs) ys h g across =
    AllPairs-cons R x (xs ++ ys)
    (All-append (R x) xs ys (λ k d within. h 0 (suc k) d (omega arith) (omega arith)) (All-head (λ x. All (R x) ys) x xs across))
    (ordered_append R xs ys (λ i j d lt within. h (suc i) (suc j) d (omega arith) (omega arith)) g (All-tail (λ x. All (R x) ys) x xs across))

one_ordered : (i : ℤ) → AllPairs (λ i j. i <ℤ j) (i ∷ [])
one_ordered i a b d lt within = absurd (omega (arith, lt, within))

pub some_of : {X : Type 0} (P : X → Type 0) (o : Option X) → IsSomeAnd o P → (x : X) × (o ≡ Some x) × P x
some_of P None h = absurd h
some_of P (Some x) h = (x, refl, h)

at_some : {X : Type 0} (P : X → Type 0) (o : Option X) (x : X) → o ≡ Some x → IfSome o P → P x
at_some P o x e h = let g : IfSome (Some x) P = subst (λ o. IfSome o P) e h in g

and_some : {X : Type 0} (P : X → Type 0) (o : Option X) (x : X) → o ≡ Some x → IsSomeAnd o P → P x
and_some P o x e h = let g : IsSomeAnd (Some x) P = subst (λ o. IsSomeAnd o P) e h in g

weaker : {X : Type 0} (P Q : X → Type 0) → ((x : X) → P x → Q x) → (o : Option X) → IsSomeAnd o P → IsSomeAnd o Q
weaker P Q f None h = absurd h
weaker P Q f (Some x) h = f x h

apart : {X : Type 0} {x : X} → Some x ≡ None → ⊥
apart e = cc

same_or_not : (k id : ℕ) → (k ≡ id) ⊎ ¬ (k ≡ id)
same_or_not k id = by (nat_eq k id) refl
  where
    by : (b : Bool) → nat_eq k id ≡ b → (k ≡ id) ⊎ ¬ (k ≡ id)
    by true e = inl (search (rules, e))
    by false e = inr (λ same. search (rules, e, same))

has_none : {X : Type 0} (o : Option X) → IsSome o → ¬ (o ≡ None)
has_none None h e = false≢true h
has_none (Some x) h e = apart e

-- a stop that a search makes can be there
can_stop : (m : Moment) (o : Option Stop) → IfSome o (StopsAt m) → IfSome o (CanBeAt m)
can_stop m None why = tt
can_stop m (Some stop) why = can_be m stop why

-- ---- one job

module _ {J : Type 0} (runs : J → Zone → ℤ → Type 0) where
  -- between two standings
  abbrev In : Standing J → Standing J → ℤ → Type 0
  In s s' i = (s.position.instant <ℤ i) × (i ≤ℤ s'.position.instant)

  nothing : (s : Standing J) (passed : ℤ → Type 0) → ((i : ℤ) → ¬ (passed i)) → IsGivenBetween runs s s [] passed
  nothing s passed never = record {
    job_is = refl;
    zone_is = refl;
    on = omega (arith, ints);
    stop = λ why. why;
    ordered = λ i j d lt within. absurd (omega (arith, within));
    between = All-nil _;
    passed_between = λ i over. absurd (never i over);
    apart = All-nil _;
    are_runs = λ calm. All-nil _;
    either = λ calm i left. inr (inr left);
  }

  -- it has moved on to i, and each run that is left up to there was given or passed over
  module _ (s s' : Standing J) (i : ℤ) (stands : StandsAt s.job s.position.zone i s') (on : s.position.instant ≤ℤ i) (passed : ℤ → Type 0) where
    still : (j : ℤ) → Left runs s j → i <ℤ j → Left runs s' j
    still j left later = (
      subst (λ z. z <ℤ j) (sym stands.instant) later,
      subst (λ job. runs job s'.position.zone j) (sym stands.job_is) (subst (λ z. runs s.job z j) (sym stands.zone_is) left.1),
    )

    moved : (items : List ℤ) → AllPairs (λ i j. i <ℤ j) items → All (λ j. (s.position.instant <ℤ j) × (j ≤ℤ i)) items
        → ((j : ℤ) → passed j → (s.position.instant <ℤ j) × (j ≤ℤ i)) → All (λ j. ¬ (passed j)) items
        → (IsCalm s.position.zone → All (λ j. ∥ runs s.job s.position.zone j ∥₁) items)
        → (IsCalm s.position.zone → (j : ℤ) → Left runs s j → j ≤ℤ i → Contains items j ⊎ passed j)
        → IsGivenBetween runs s s' items passed
    moved items ordered between passed_between apart are_runs met = record {
      job_is = stands.job_is;
      zone_is = stands.zone_is;
      on = subst (λ z. s.position.instant ≤ℤ z) (sym stands.instant) on;
      stop = λ why. can_stop s'.position s'.stop stands.stop;
      ordered = ordered;
      between = subst (λ z. All (λ j. (s.position.instant <ℤ j) × (j ≤ℤ z)) items) (sym stands.instant) between;
      passed_between = subst (λ z. (j : ℤ) → passed j → (s.position.instant <ℤ j) × (j ≤ℤ z)) (sym stands.instant) passed_between;
      apart = apart;
      are_runs = are_runs;
      either = λ calm j left. elim (up_to j i) [
        | inl le ↦ elim (met calm j left le) [ inl c ↦ inl c | inr p ↦ inr (inl p) ]
        | inr later ↦ inr (inr (still j left later))
      ];
    }

    -- one is given
    one : s.position.instant <ℤ i → ((j : ℤ) → passed j → (s.position.instant <ℤ j) × (j <ℤ i)) → (IsCalm s.position.zone → ∥ runs s.job s.position.zone i ∥₁)
        → (IsCalm s.position.zone → (j : ℤ) → Left runs s j → j <ℤ i → passed j)
        → IsGivenBetween runs s s' (i ∷ []) passed
    one after passed_between run before = moved (i ∷ []) (one_ordered i)
        (All-cons (λ j. (s.position.instant <ℤ j) × (j ≤ℤ i)) i [] (after, omega (arith, ints)) (All-nil _))
        (λ j over. ((passed_between j over).0, omega (arith, ints, (passed_between j over).1)))
        (All-cons (λ j. ¬ (passed j)) i [] (λ over. omega (arith, ints, (passed_between i over).1)) (All-nil _))
        (λ calm. All-cons (λ j. ∥ runs s.job s.position.zone j ∥₁) i [] (run calm) (All-nil _))
        (λ calm j left le. by calm j left le (int_cmp j i) (int_ranked j i _ refl))
      where
        by : IsCalm s.position.zone → (j : ℤ) → Left runs s j → j ≤ℤ i → (r : Ordering) → MatchOrdering r (j <ℤ i) (j ≡ i) (i <ℤ j) → Contains (i ∷ []) j ⊎ passed j
        by calm j left le Less lt = inr (before calm j left lt)
        by calm j left le Equal same = inl (0, omega arith, sym same)
        by calm j left le Greater gt = absurd (omega (arith, ints, le, gt))

    -- none is
    none : ((j : ℤ) → passed j → (s.position.instant <ℤ j) × (j ≤ℤ i)) → (IsCalm s.position.zone → (j : ℤ) → Left runs s j → j ≤ℤ i → passed j)
        → IsGivenBetween runs s s' [] passed
    none passed_between over = moved [] (λ a b d lt within. absurd (omega (arith, within))) (All-nil _) passed_between (All-nil _) (λ calm. All-nil _) (λ calm j left le. inr (over calm j left le))

  -- what was given between two, and then up to a third
  module _ (s s1 s2 : Standing J) (items more : List ℤ) (P Q : ℤ → Type 0) (a : IsGivenBetween runs s s1 items P) (b : IsGivenBetween runs s1 s2 more Q) where
    calm_there : IsCalm s.position.zone → IsCalm s1.position.zone
    calm_there calm = subst IsCalm (sym a.zone_is) calm

    both : IsGivenBetween runs s s2 (items ++ more) (λ j. P j ⊎ Q j)
    both = record {
      job_is = b.job_is ∙ a.job_is;
      zone_is = b.zone_is ∙ a.zone_is;
      on = omega (arith, ints, a.on, b.on);
      stop = λ why. b.stop (a.stop why);
      ordered = ordered_append (λ i j. i <ℤ j) items more a.ordered b.ordered
          (All-weaker (In s s1) (λ i. All (λ j. i <ℤ j) more) (λ i h. All-weaker (In s1 s2) (λ j. i <ℤ j) (λ j g. omega (arith, ints, h.1, g.0)) more b.between) items a.between);
      between = All-append (In s s2) items more (All-weaker (In s s1) (In s s2) (λ i h. (h.0, omega (arith, ints, h.1, b.on))) items a.between)
          (All-weaker (In s1 s2) (In s s2) (λ i h. (omega (arith, ints, h.0, a.on), h.1)) more b.between);
      passed_between = λ i over. elim over [
        | inl p ↦ ((a.passed_between i p).0, omega (arith, ints, (a.passed_between i p).1, b.on))
        | inr q ↦ (omega (arith, ints, (b.passed_between i q).0, a.on), (b.passed_between i q).1)
      ];
      apart = All-append (λ j. ¬ (P j ⊎ Q j)) items more
          (λ n d lt over. elim over [
            | inl p ↦ a.apart n d lt p
            | inr q ↦ omega (arith, ints, (a.between n d lt).1, (b.passed_between _ q).0)
          ])
          (λ n d lt over. elim over [
            | inl p ↦ omega (arith, ints, (b.between n d lt).0, (a.passed_between _ p).1)
            | inr q ↦ b.apart n d lt q
          ]);
      are_runs = λ calm. All-append (λ i. ∥ runs s.job s.position.zone i ∥₁) items more (a.are_runs calm)
          (subst (λ job. All (λ i. ∥ runs job s.position.zone i ∥₁) more) a.job_is
          (subst (λ z. All (λ i. ∥ runs s1.job z i ∥₁) more) a.zone_is (b.are_runs (calm_there calm))));
      either = λ calm i left. elim (a.either calm i left) [
        | inl c ↦ inl (Contains-append_left items more i c)
        | inr (inl p) ↦ inr (inl (inl p))
        | inr (inr there) ↦ elim (b.either (calm_there calm) i there) [
          | inl c ↦ inl (Contains-append_right items more i c)
          | inr (inl q) ↦ inr (inl (inr q))
          | inr (inr left) ↦ inr (inr left)
        ]
      ];
    }

  -- ---- one call

  module _ (k : ℕ) (h h' : Held J) (s : Standing J) (there : h.jobs k ≡ Some s) where
    abbrev Goes : Call J → Type 0
    Goes call = (s' : Standing J) × (h'.jobs k ≡ Some s') × IsGivenBetween runs s s' (given_by k call) (PassesOver k s.position.instant call)
        × (s'.position.instant ≡ place_after k s.position.instant call)

    abbrev GoesBy : List ℤ → ℤ → (ℤ → Type 0) → Type 0
    GoesBy items place passed = (s' : Standing J) × (h'.jobs k ≡ Some s') × IsGivenBetween runs s s' items passed × (s'.position.instant ≡ place)

    stays : (passed : ℤ → Type 0) → ((i : ℤ) → ¬ (passed i)) → h'.jobs k ≡ h.jobs k → GoesBy [] s.position.instant passed
    stays passed never same = (s, same ∙ there, nothing s passed never, refl)

    -- a call that passes over nothing
    rests : h'.jobs k ≡ h.jobs k → GoesBy [] s.position.instant (λ i. ⊥)
    rests same = stays (λ i. ⊥) (λ i over. over) same

    other_id : (id : ℕ) → nat_eq k id ≡ false → ¬ (k ≡ id)
    other_id id e same = search (rules, e, same)

    by_id : (id : ℕ) (items : List ℤ) (place : ℤ) (passed : ℤ → Type 0)
        → (k ≡ id → GoesBy items place passed) → (¬ (k ≡ id) → (i : ℤ) → ¬ (passed i)) → (¬ (k ≡ id) → h'.jobs k ≡ h.jobs k)
        → GoesBy (cond (nat_eq k id) items []) (cond (nat_eq k id) place s.position.instant) passed
    by_id id items place passed own never other = by (nat_eq k id) refl
      where
        by : (b : Bool) → nat_eq k id ≡ b → GoesBy (cond b items []) (cond b place s.position.instant) passed
        by true e = own (search (rules, e))
        by false e = stays passed (never (other_id id e)) (other (other_id id e))

    by_id_none : (id : ℕ) (place : ℤ) (passed : ℤ → Type 0)
        → (k ≡ id → GoesBy [] place passed) → (¬ (k ≡ id) → (i : ℤ) → ¬ (passed i)) → (¬ (k ≡ id) → h'.jobs k ≡ h.jobs k) → GoesBy [] (cond (nat_eq k id) place s.position.instant) passed
    by_id_none id place passed own never other = by (nat_eq k id) refl
      where
        by : (b : Bool) → nat_eq k id ≡ b → GoesBy [] (cond b place s.position.instant) passed
        by true e = own (search (rules, e))
        by false e = stays passed (never (other_id id e)) (other (other_id id e))

    -- where the position of the job of an id has moved
    stood : (id : ℕ) (i : ℤ) → MovesTo h id i h' → k ≡ id → (s' : Standing J) × (h'.jobs k ≡ Some s') × StandsAt s.job s.position.zone i s'
    stood id i moves same =
        let at : IfSome (h.jobs k) (λ s. IsSomeAnd (h'.jobs k) (StandsAt s.job s.position.zone i)) =
        subst (λ n. IfSome (h.jobs n) (λ s. IsSomeAnd (h'.jobs n) (StandsAt s.job s.position.zone i))) (sym same) moves.moved in
        some_of (StandsAt s.job s.position.zone i) (h'.jobs k) (at_some _ (h.jobs k) s there at)

    -- a job that is asked again stands where it stood
    asked : (id : ℕ) → AsksAgain id h h' true → GoesBy [] s.position.instant (λ j. ⊥)
    asked id makes = elim (same_or_not k id) [
      | inl same ↦
          let g = and_some _ (h.jobs k) s there (subst (λ n. IsSomeAnd (h.jobs n) (λ s. IsStoppedBySearch s × MovesTo h n s.position.instant h')) (sym same) makes) in
          let at = stood k s.position.instant g.1 refl in
          (at.0, at.1, none s at.0 s.position.instant at.2 (omega (arith, ints)) (λ j. ⊥) (λ j over. absurd over) (λ calm j left le. absurd (omega (arith, ints, left.0, le))), at.2.instant)
      | inr other ↦
          let g = some_of _ (h.jobs id) makes in
          rests (g.2.1.rest.others k other)
    ]

    -- a job that moves on to now, or doesn't
    skipped : (b : Bool) (now : ℤ) → SkipsIf b now (h.jobs k) (h'.jobs k)
        → GoesBy [] (cond b now s.position.instant) (λ j. (b ≡ true) × (s.position.instant <ℤ j) × (j ≤ℤ now))
    skipped false now is = stays _ (λ j over. false≢true over.0) is
    skipped true now is =
        let g = and_some _ (h.jobs k) s there is in
        let at = some_of (StandsOn now s) (h'.jobs k) g.1 in
        (at.0, at.1, none s at.0 now at.2.0 (omega (arith, ints, g.0)) _ (λ j over. (over.1, over.2)) (λ calm j left le. (refl, left.0, le)), at.2.0.instant)

    -- a job that is paused stands where it stood
    rests_paused : (id : ℕ) → Pauses id h h' true → GoesBy [] s.position.instant (λ j. ⊥)
    rests_paused id makes = elim (same_or_not k id) [
      | inl same ↦
          let is = and_some _ (h.jobs k) s there (subst (λ n. IsSomeAnd (h.jobs n) (λ s. h'.jobs n ≡ Some (paused s))) (sym same) makes.0) in (
            paused s,
            is,
            record {
              job_is = refl;
              zone_is = refl;
              on = omega (arith, ints);
              stop = λ why. tt;
              ordered = λ i j d lt within. absurd (omega (arith, within));
              between = All-nil _;
              passed_between = λ i over. absurd over;
              apart = All-nil _;
              are_runs = λ calm. All-nil _;
              either = λ calm i left. inr (inr left);
            },
            refl,
          )
      | inr other ↦ rests (makes.1.others k other)
    ]

    goes : (call : Call J) → Makes runs call h h' → Stays k call → Goes call
    goes (TakeDue now None) makes stay = rests (makes.1.jobs k)
    goes (TakeDue now (Some due)) makes stay = by_id due.id (due.second ∷ []) due.second _
        (λ same. let at = stood due.id due.second makes.2 same in
        let g = and_some (IsGivable runs due.second) (h.jobs k) s there (subst (λ n. IsSomeAnd (h.jobs n) (IsGivable runs due.second)) (sym same) makes.0.givable) in (
          at.0,
          at.1,
          one s at.0 due.second at.2 (omega (arith, ints, g.after)) _ g.after (λ j over. absurd over) g.run (λ calm j left lt. absurd (omega (arith, ints, lt, g.nearest calm j left))),
          at.2.instant,
        ))
        (λ other j over. over)
        (λ other. makes.2.rest.others k other)
    goes (TakeLatestDue id now (latest.Given i b)) makes stay = by_id id (i ∷ []) i _
        (λ same. let at = stood id i makes.1 same in
        let g = and_some _ (h.jobs k) s there (subst (λ n. IsSomeAnd (h.jobs n) (λ s. IsLastDue runs now i s × (s.position.zone.holds now ≡ true))) (sym same) makes.0) in (
          at.0,
          at.1,
          one s at.0 i at.2 (omega (arith, ints, g.0.after)) _ g.0.after (λ j over. (over.1, over.2)) g.0.run (λ calm j left lt. (sym same, left.0, lt)),
          at.2.instant,
        ))
        (λ other j over. other (sym over.0))
        (λ other. makes.1.rest.others k other)
    goes (TakeLatestDue id now latest.NothingDue) makes stay = rests (makes.1.jobs k)
    goes (TakeLatestDue id now latest.NoJob) makes stay = rests (makes.1.jobs k)
    goes (TakeLatestDue id now latest.NotHeld) makes stay = rests (makes.1.jobs k)
    goes (TakeLatestDue id now (latest.Refused e)) makes stay = rests (makes.1.jobs k)
    goes (SkipTo id now (Moved b)) makes stay = by_id_none id now _
        (λ same. let at = stood id now makes.1 same in
        let g = and_some _ (h.jobs k) s there (subst (λ n. IsSomeAnd (h.jobs n) (λ s. s.position.instant <ℤ now)) (sym same) (weaker _ _ (λ s g. g.0.0) (h.jobs id) makes.0)) in (
          at.0,
          at.1,
          none s at.0 now at.2 (omega (arith, ints, g)) _ (λ j over. (over.1, over.2)) (λ calm j left le. (sym same, left.0, le)),
          at.2.instant,
        ))
        (λ other j over. other (sym over.0))
        (λ other. makes.1.rest.others k other)
    goes (SkipTo id now AlreadyThere) makes stay = rests (makes.1.jobs k)
    goes (SkipTo id now NoJob) makes stay = rests (makes.1.jobs k)
    goes (SkipTo id now skips.Paused) makes stay = rests (makes.1.jobs k)
    goes (SkipTo id now NotHeld) makes stay = rests (makes.1.jobs k)
    goes (SkipAllTo now moves) makes stay = skipped (moves k) now (makes.each k)
    goes (Add job position id) makes stay = rests (makes.others k (λ same. apart (sym there ∙ ap h.jobs same ∙ makes.unused)))
    goes (Replace id job position) makes stay = rests (makes.1.rest.others k (λ same. stay (sym same)))
    goes (Remove id) makes stay = rests (makes.others k (λ same. stay (sym same)))
    goes (AskAgain id true) makes stay = asked id makes
    goes (AskAgain id false) makes stay = rests (makes.1.jobs k)
    goes (Pause id true) makes stay = rests_paused id makes
    goes (Pause id false) makes stay = rests (makes.1.jobs k)
    goes (ResumeFrom id from (resumes.GoesOn b)) makes stay = by_id_none id (int_max s.position.instant from) _
        (λ same. let g = and_some _ (h.jobs k) s there (subst (λ n. IsSomeAnd (h.jobs n) (λ s. MovesTo h n (int_max s.position.instant from) h')) (sym same) (weaker _ _ (λ s g. g.1) (h.jobs id) makes)) in
        let at = stood k (int_max s.position.instant from) g refl in
        let greater = int_max_is s.position.instant from in (
          at.0,
          at.1,
          none s at.0 (int_max s.position.instant from) at.2 (omega (arith, ints, greater)) _
              (λ j over. (over.1, omega (arith, ints, over.2, greater)))
              (λ calm j left le. (sym same, left.0, omega (arith, ints, left.0, le, greater))),
          at.2.instant,
        ))
        (λ other j over. other (sym over.0))
        (λ other. let some = some_of _ (h.jobs id) makes in some.2.1.rest.others k other)
    goes (ResumeFrom id from resumes.NotPaused) makes stay = rests (makes.1.jobs k)
    goes (ResumeFrom id from resumes.NoJob) makes stay = rests (makes.1.jobs k)
    goes (ResumeFrom id from resumes.NotHeld) makes stay = rests (makes.1.jobs k)
    goes ChangeNothing makes stay = rests (makes.jobs k)

  -- ---- calls one after the other

  in_turn : (calls : List (Call J)) (h h' : Held J) → MakesInTurn runs calls h h' → (k : ℕ) (s : Standing J) → h.jobs k ≡ Some s → All (Stays k) calls
      → (s' : Standing J) × (h'.jobs k ≡ Some s') × IsGivenBetween runs s s' (given k calls) (IsPassedOver k s.position.instant calls)
      × (s'.position.instant ≡ place_after_all k s.position.instant calls)
  in_turn [] h h' makes k s there stay = (s, makes.jobs k ∙ there, nothing s _ (λ i over. over), refl)
  in_turn (call ∷ calls) h h' makes k s there stay =
      let first = goes k h makes.0 s there call makes.1 (All-head (Stays k) call calls stay) in
      let rest = in_turn calls makes.0 h' makes.2 k first.0 first.1 (All-tail (Stays k) call calls stay) in
      let more = subst (λ p. IsGivenBetween runs first.0 rest.0 (given k calls) (IsPassedOver k p calls)) first.3 rest.2 in (
        rest.0,
        rest.1,
        both s first.0 rest.0 (given_by k call) (given k calls) _ _ first.2 more,
        rest.3 ∙ ap (λ p. place_after_all k p calls) first.3,
      )

  pub gives_in_turn : (h : Held J) → GivesInTurn runs h
  gives_in_turn h calls h' makes k s there stay = in_turn calls h h' makes k s there stay

  module _ (k : ℕ) (s s' : Standing J) (calls : List (Call J)) (h' : Held J) (there : h'.jobs k ≡ Some s') (calm : IsCalm s.position.zone) (goes_on : s'.stop ≡ None)
      (gave : IsGivenBetween runs s s' (given k calls) (IsPassedOver k s.position.instant calls)) where
    still_calm : IsCalm s'.position.zone
    still_calm = subst IsCalm (sym gave.zone_is) calm

    met : (P : ℤ → Type 0) → ((i : ℤ) → Seen runs s' i → ¬ (P i)) → AreDoneWith runs k s calls P
    met P never i seen holds = elim (gave.either calm i seen.0) [
      | inl c ↦ inl c
      | inr (inl over) ↦ inr over
      | inr (inr left) ↦ absurd (never i (left, subst (λ z. InSpan Forward z.reads i) (sym gave.zone_is) seen.1) holds)
    ]

    keeps_none_back : KeepsNoneBack runs k s calls h'
    keeps_none_back = record {
      due = λ now after none. met (λ i. i ≤ℤ now) (λ i seen le.
          let later : now <ℤ i = at_some (IsNotDue runs now) (h'.jobs k) s' there (none.0 k) goes_on still_calm i seen in
          omega (arith, ints, later, le));
      first = λ now d after takes. met (λ i. (i <ℤ d.second) ⊎ ((i ≡ d.second) × (k < d.id))) (λ i seen holds.
          let comes_after = at_some (ComesAfter runs d.id d.second k) (h'.jobs k) s' there (takes.0.first k) goes_on still_calm i seen in
          elim holds [
            | inl lt ↦ omega (arith, ints, comes_after.0, lt)
            | inr at ↦ omega (arith, comes_after.1 at.0, at.1)
          ]);
      wake_up = λ second wakes. met (λ i. i <ℤ second) (λ i seen lt.
          let comes_after = at_some (ComesAfter runs wakes.0 second k) (h'.jobs k) s' there (wakes.1.first k) goes_on still_calm i seen in
          omega (arith, ints, comes_after.0, lt));
      over = λ none. met (λ i. ⊤) (λ i seen _. at_some (HasNoneSeen runs) (h'.jobs k) s' there (none k) goes_on still_calm i seen);
    }

  -- a job whose search can't be refused isn't stopped
  not_stopped : (s s' : Standing J) → (IfSome s.stop (CanBeAt s.position) → IfSome s'.stop (CanBeAt s'.position)) → CannotStop s s' → s'.stop ≡ None
  not_stopped s s' kept can = by s'.stop (kept can.0) can.2
    where
      by : (o : Option Stop) → IfSome o (CanBeAt s'.position) → is_paused o ≡ false → o ≡ None
      by None why goes = refl
      by (Some stops.NotLater) why goes = absurd (why can.1.starts)
      by (Some (stops.Refused refusal)) why goes = absurd (why can.1)
      by (Some stops.Paused) why goes = absurd (false≢true (sym goes))

  pub never_keeps_back : (h : Held J) → NeverKeepsBack runs h
  never_keeps_back h calls h' makes k s there stay calm =
      let rest = in_turn calls h h' makes k s there stay in
      subst (λ o. IfSome o (λ s'. (s'.stop ≡ None) ⊎ CannotStop s s' → KeepsNoneBack runs k s calls h')) (sym rest.1)
      (λ goes. elim goes [
        | inl goes_on ↦ keeps_none_back k s rest.0 calls h' rest.1 calm goes_on rest.2
        | inr can ↦ keeps_none_back k s rest.0 calls h' rest.1 calm (not_stopped s rest.0 rest.2.stop can) rest.2
      ])

  -- ---- an id whose job is gone

  -- the next id never goes down
  grows : (h h' : Held J) (call : Call J) → Makes runs call h h' → h.next_id ≤ h'.next_id
  grows h h' (TakeDue now None) makes = omega (arith, makes.1.next_id)
  grows h h' (TakeDue now (Some due)) makes = omega (arith, makes.2.rest.next_id)
  grows h h' (TakeLatestDue id now (latest.Given i b)) makes = omega (arith, makes.1.rest.next_id)
  grows h h' (TakeLatestDue id now latest.NothingDue) makes = omega (arith, makes.1.next_id)
  grows h h' (TakeLatestDue id now latest.NoJob) makes = omega (arith, makes.1.next_id)
  grows h h' (TakeLatestDue id now latest.NotHeld) makes = omega (arith, makes.1.next_id)
  grows h h' (TakeLatestDue id now (latest.Refused e)) makes = omega (arith, makes.1.next_id)
  grows h h' (SkipTo id now (Moved b)) makes = omega (arith, makes.1.rest.next_id)
  grows h h' (SkipTo id now AlreadyThere) makes = omega (arith, makes.1.next_id)
  grows h h' (SkipTo id now NoJob) makes = omega (arith, makes.1.next_id)
  grows h h' (SkipTo id now skips.Paused) makes = omega (arith, makes.1.next_id)
  grows h h' (SkipTo id now NotHeld) makes = omega (arith, makes.1.next_id)
  grows h h' (SkipAllTo now moves) makes = omega (arith, makes.next_id)
  grows h h' (Add job position id) makes = omega (arith, makes.next_id)
  grows h h' (Replace id job position) makes = omega (arith, makes.1.rest.next_id)
  grows h h' (Remove id) makes = omega (arith, makes.next_id)
  grows h h' (AskAgain id true) makes = let some = some_of _ (h.jobs id) makes in omega (arith, some.2.1.rest.next_id)
  grows h h' (AskAgain id false) makes = omega (arith, makes.1.next_id)
  grows h h' (Pause id true) makes = omega (arith, makes.1.next_id)
  grows h h' (Pause id false) makes = omega (arith, makes.1.next_id)
  grows h h' (ResumeFrom id from (resumes.GoesOn b)) makes = let some = some_of _ (h.jobs id) makes in omega (arith, some.2.1.rest.next_id)
  grows h h' (ResumeFrom id from resumes.NotPaused) makes = omega (arith, makes.1.next_id)
  grows h h' (ResumeFrom id from resumes.NoJob) makes = omega (arith, makes.1.next_id)
  grows h h' (ResumeFrom id from resumes.NotHeld) makes = omega (arith, makes.1.next_id)
  grows h h' ChangeNothing makes = omega (arith, makes.next_id)

  pub grow : (calls : List (Call J)) (h h' : Held J) → MakesInTurn runs calls h h' → h.next_id ≤ h'.next_id
  grow [] h h' makes = omega (arith, makes.next_id)
  grow (call ∷ calls) h h' makes = omega (arith, grows h makes.0 call makes.1, grow calls makes.0 h' makes.2)

  -- a call that isn't the add of the id k
  module _ (k : ℕ) (h h' : Held J) (never : (job : J) (position : Moment) (id : ℕ) → IsAdded job position h h' id → ¬ (k ≡ id)) (none : h.jobs k ≡ None) where
    abbrev Gone : List ℤ → Type 0
    Gone items = (items ≡ []) × (h'.jobs k ≡ None)

    unchanged : IsSame h h' → Gone []
    unchanged same = (refl, same.jobs k ∙ none)

    absent : (P : Standing J → Type 0) (id : ℕ) → IsSomeAnd (h.jobs id) P → ¬ (k ≡ id)
    absent P id some same =
        let at : IsSomeAnd (h.jobs k) P = subst (λ n. IsSomeAnd (h.jobs n) P) (sym same) some in
        let never : IsSomeAnd None P = subst (λ o. IsSomeAnd o P) none at in never

    none_of : (id : ℕ) (items : List ℤ) → ¬ (k ≡ id) → cond (nat_eq k id) items [] ≡ []
    none_of id items other = by (nat_eq k id) refl
      where
        by : (b : Bool) → nat_eq k id ≡ b → cond b items [] ≡ []
        by true e = absurd (other (search (rules, e)))
        by false e = refl

    but : (id : ℕ) → IsSameBut id h h' → ¬ (k ≡ id) → h'.jobs k ≡ None
    but id rest other = rest.others k other ∙ none

    still_none : (b : Bool) (now : ℤ) → SkipsIf b now (h.jobs k) (h'.jobs k) → h'.jobs k ≡ None
    still_none false now is = is ∙ none
    still_none true now is = absurd (absent _ k is refl)

    gone_after : (call : Call J) → Makes runs call h h' → Gone (given_by k call)
    gone_after (TakeDue now None) makes = unchanged makes.1
    gone_after (TakeDue now (Some due)) makes =
        let other = absent (IsGivable runs due.second) due.id makes.0.givable in
        (none_of due.id (due.second ∷ []) other, but due.id makes.2.rest other)
    gone_after (TakeLatestDue id now (latest.Given i b)) makes =
        let other = absent (λ s. IsLastDue runs now i s × (s.position.zone.holds now ≡ true)) id makes.0 in
        (none_of id (i ∷ []) other, but id makes.1.rest other)
    gone_after (TakeLatestDue id now latest.NothingDue) makes = unchanged makes.1
    gone_after (TakeLatestDue id now latest.NoJob) makes = unchanged makes.1
    gone_after (TakeLatestDue id now latest.NotHeld) makes = unchanged makes.1
    gone_after (TakeLatestDue id now (latest.Refused e)) makes = unchanged makes.1
    gone_after (SkipTo id now (Moved b)) makes = (refl, but id makes.1.rest (absent _ id makes.0))
    gone_after (SkipTo id now AlreadyThere) makes = unchanged makes.1
    gone_after (SkipTo id now NoJob) makes = unchanged makes.1
    gone_after (SkipTo id now skips.Paused) makes = unchanged makes.1
    gone_after (SkipTo id now NotHeld) makes = unchanged makes.1
    gone_after (SkipAllTo now moves) makes = (refl, still_none (moves k) now (makes.each k))
    gone_after (Add job position id) makes = (refl, makes.others k (never job position id makes) ∙ none)
    gone_after (Replace id job position) makes =
        (refl, but id makes.1.rest (λ same. has_none (h.jobs id) makes.0 (subst (λ n. h.jobs n ≡ None) same none)))
    gone_after (Remove id) makes = (
      refl,
      elim (same_or_not k id) [ inl same ↦ subst (λ n. h'.jobs n ≡ None) (sym same) makes.gone | inr other ↦ makes.others k other ∙ none ],
    )
    gone_after (AskAgain id true) makes =
        let some = some_of _ (h.jobs id) makes in (refl, but id some.2.1.rest (absent _ id makes))
    gone_after (AskAgain id false) makes = unchanged makes.1
    gone_after (Pause id true) makes = (refl, but id makes.1 (absent _ id makes.0))
    gone_after (Pause id false) makes = unchanged makes.1
    gone_after (ResumeFrom id from (resumes.GoesOn b)) makes =
        let some = some_of _ (h.jobs id) makes in (refl, but id some.2.1.rest (absent _ id makes))
    gone_after (ResumeFrom id from resumes.NotPaused) makes = unchanged makes.1
    gone_after (ResumeFrom id from resumes.NoJob) makes = unchanged makes.1
    gone_after (ResumeFrom id from resumes.NotHeld) makes = unchanged makes.1
    gone_after ChangeNothing makes = unchanged makes

  pub stays_gone : (h : Held J) → StaysGone runs h
  stays_gone h [] h' makes k below none = (refl, makes.jobs k ∙ none)
  stays_gone h (call ∷ calls) h' makes k below none =
      let first = gone_after k h makes.0 (λ job position id added same. omega (arith, same, added.id_is, below)) none call makes.1 in
      let rest = stays_gone makes.0 calls h' makes.2 k (omega (arith, grows h makes.0 call makes.1, below)) first.1 in
      (ap (λ items. items ++ given k calls) first.0 ∙ rest.0, rest.1)

  -- of an id that is still to be given nothing is given
  pub stays_fresh : (calls : List (Call J)) (h h' : Held J) → MakesInTurn runs calls h h' → (k : ℕ) → h'.next_id ≤ k → h.jobs k ≡ None
      → (given k calls ≡ []) × (h'.jobs k ≡ None)
  stays_fresh [] h h' makes k above none = (refl, makes.jobs k ∙ none)
  stays_fresh (call ∷ calls) h h' makes k above none =
      let first = gone_after k h makes.0
      (λ job position id added same. omega (arith, same, added.id_is, added.next_id, grow calls makes.0 h' makes.2, above)) none call makes.1 in
      let rest = stays_fresh calls makes.0 h' makes.2 k above first.1 in
      (ap (λ items. items ++ given k calls) first.0 ∙ rest.0, rest.1)
