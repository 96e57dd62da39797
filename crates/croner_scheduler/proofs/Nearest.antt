-- The first turn is the nearest run that is left.
use Rattle.std.proofs.Common.{◌≡◌, refl, sym, ap, ◌∙◌, subst, arith, ℕ, ◌≤◌, ℤ, ◌<ℤ◌, ◌≤ℤ◌, true, false, Option, Some, None, IfSome, option_map}
use Rattle.std.proofs.Math.Logic.{∥∥₁_elim, ∥∥₁_map}
use Rattle.std.proofs.Props.{props}
use Rattle.std.proofs.lemmas.Bool.{false≢true}
use Rattle.std.proofs.lemmas.Cmp.{int_ranked}
use Rattle.std.proofs.lemmas.Int.{ints}
use Rattle.std.specs.Option.{IsSomeAnd}
use Rattle.std.specs.Ordering.{MatchOrdering, int_cmp, int_eq, is_eq}
use Rattle.std.specs.declared.cmp.Ordering.{Ordering}
use Rattle.std.specs.declared.cmp.Ordering.TheVariants.{Less, Equal, Greater}
use Rattle.croner_base.specs.Calm.{IsCalm}
use Rattle.croner_base.specs.Zone.{Zone, Moment}
use Rattle.croner_base.specs.declared.time.Direction.TheVariants.{Forward}
use Rattle.croner.specs.search.Limit.{InSpan}
use Rattle.croner_scheduler.specs.declared.turns.Turn.{Turn}
use Rattle.croner_scheduler.specs.declared.waiting.Next.{Next}
use Rattle.croner_scheduler.specs.declared.waiting.Next.TheVariants.{Run, Over, Stopped}
use Rattle.croner_scheduler.specs.declared.waiting.Waiting.{Waiting}
use Rattle.croner_scheduler.specs.Standing.{Standing, Held, Seen}
use Rattle.croner_scheduler.specs.Awaited.{WaitsAfter, AwaitsFirst, IsSomeDue}
use Rattle.croner_scheduler.specs.Calls.{IsGivable, ComesAfter, IsFirst, IsNotDue, HasNoneSeen, IsNearest}
use Rattle.croner_scheduler.specs.Private.Turns.{IsFirstTurn}
use Rattle.croner_scheduler.specs.Kept.{standing_of, stop_of, FitsOrPaused, Fits, second_of}
use Rattle.croner_scheduler.specs.Private.Steps.{is_next_at, is_awaited_at}

pub same_second : (a b : ℤ) → int_eq a b ≡ true → a ≡ b
same_second a b e = by (int_cmp a b) (int_ranked a b _ refl) e
  where
    by : (r : Ordering) → MatchOrdering r (a <ℤ b) (a ≡ b) (b <ℤ a) → is_eq r ≡ true → a ≡ b
    by Less lt e = absurd (false≢true e)
    by Equal same e = same
    by Greater lt e = absurd (false≢true e)

pub is_itself : (a : ℤ) → int_eq a a ≡ true
is_itself a = by (int_cmp a a) (int_ranked a a _ refl)
  where
    by : (r : Ordering) → MatchOrdering r (a <ℤ a) (a ≡ a) (a <ℤ a) → is_eq r ≡ true
    by Less lt = absurd (omega (arith, ints, lt))
    by Equal same = refl
    by Greater lt = absurd (omega (arith, ints, lt))

-- ---- one job, by what comes next of it

module _ (runs : Zone → ℤ → Type 0) (m : Moment) (whole : m.fraction ≡ 0) (calm : IsCalm m.zone) where
  -- a run that is left comes no earlier than the next one
  next_before : (n : Next) → FitsOrPaused runs m n → stop_of n ≡ None → (j : ℤ) → m.instant <ℤ j → runs m.zone j → InSpan Forward m.zone.reads j
      → (i : ℤ) × (is_next_at i n ≡ true) × (i ≤ℤ j)
  next_before (Run i) fits goes j after run span =
      (i, is_itself i, omega (arith, ints, (fits.0.nearest (record { calm = calm; whole = whole })).nearest j (after, run)))
  next_before Over fits goes j after run span = absurd (fits (record { calm = calm; whole = whole }) j span (after, run))
  next_before (Stopped stop) fits goes j after run span = absurd (cc)

module _ {J T : Type 0} (runs : J → Zone → ℤ → Type 0) (moment : T → Moment) where
  pub seen_before : (w : Waiting J T) → Fits runs moment w → stop_of w.next ≡ None → IsCalm (moment w.position).zone
      → (j : ℤ) → Seen runs (standing_of moment w) j → (i : ℤ) × (is_next_at i w.next ≡ true) × (i ≤ℤ j)
  seen_before w fits goes calm j seen =
      next_before (runs w.job) (moment w.position) fits.whole calm w.next fits.next goes j seen.0.0 seen.0.1 seen.1

  module _ (o : Option (Waiting J T)) (fits : ∥ IfSome o (Fits runs moment) ∥₁) where
    -- after the first turn
    pub comes_after : (k l : ℕ) (i : ℤ) → ((s : ℤ) → is_awaited_at s o ≡ true → (i ≤ℤ s) × (s ≡ i → k ≤ l))
        → IfSome (option_map (standing_of moment) o) (ComesAfter runs k i l)
    comes_after k l i first = comes_after_by o fits first
      where
        comes_after_by : (o : Option (Waiting J T)) → ∥ IfSome o (Fits runs moment) ∥₁
            → ((s : ℤ) → is_awaited_at s o ≡ true → (i ≤ℤ s) × (s ≡ i → k ≤ l))
            → IfSome (option_map (standing_of moment) o) (ComesAfter runs k i l)
        comes_after_by None fits first = tt
        comes_after_by (Some w) fits first = λ goes calm j seen. ∥∥₁_elim fits (hlevel props) (λ f.
            let h = seen_before w f goes calm j seen in
            let g = first h.0 h.1 in
            (omega (arith, ints, g.0, h.2), λ same. g.1 (omega (arith, ints, g.0, h.2, same))))

    -- where none is awaited
    pub none_seen : ((s : ℤ) → is_awaited_at s o ≡ false) → IfSome (option_map (standing_of moment) o) (HasNoneSeen runs)
    none_seen none = none_left_by o fits none
      where
        none_left_by : (o : Option (Waiting J T)) → ∥ IfSome o (Fits runs moment) ∥₁ → ((s : ℤ) → is_awaited_at s o ≡ false)
            → IfSome (option_map (standing_of moment) o) (HasNoneSeen runs)
        none_left_by None fits none = tt
        none_left_by (Some w) fits none = λ goes calm j seen. ∥∥₁_elim fits (hlevel props) (λ f.
            let h = seen_before w f goes calm j seen in false≢true (sym (none h.0) ∙ h.1))

    -- a run that is awaited can be given
    pub givable : (i : ℤ) → is_awaited_at i o ≡ true → IsSomeAnd (option_map (standing_of moment) o) (IsGivable runs i)
    givable i at = givable_by o fits at
      where
        givable_next : (rs : Zone → ℤ → Type 0) (m : Moment) (n : Next) → is_next_at i n ≡ true → FitsOrPaused rs m n → m.fraction ≡ 0
            → (m.instant <ℤ i) × (IsCalm m.zone → rs m.zone i) × (IsCalm m.zone → (j : ℤ) → (m.instant <ℤ j) × rs m.zone j → i ≤ℤ j)
        givable_next rs m (Run j) at fits whole =
            let same = same_second j i at in (
              subst (λ z. m.instant <ℤ z) same fits.1,
              λ calm. subst (λ z. rs m.zone z) same (fits.0.nearest (record { calm = calm; whole = whole })).counts.1,
              λ calm j left. subst (λ z. z ≤ℤ j) same ((fits.0.nearest (record { calm = calm; whole = whole })).nearest j left),
            )
        givable_next rs m Over at fits whole = absurd (false≢true at)
        givable_next rs m (Stopped stop) at fits whole = absurd (false≢true at)

        goes_next : (n : Next) → is_next_at i n ≡ true → stop_of n ≡ None
        goes_next (Run j) at = refl
        goes_next Over at = refl
        goes_next (Stopped stop) at = absurd (false≢true at)

        givable_by : (o : Option (Waiting J T)) → ∥ IfSome o (Fits runs moment) ∥₁ → is_awaited_at i o ≡ true
            → IsSomeAnd (option_map (standing_of moment) o) (IsGivable runs i)
        givable_by None fits at = absurd (false≢true at)
        givable_by (Some w) fits at = record {
          goes = goes_next w.next at;
          after = ∥∥₁_elim fits (hlevel props) (λ f. (givable_next (runs w.job) (moment w.position) w.next at f.next f.whole).0);
          run = λ calm. ∥∥₁_map fits (λ f. (givable_next (runs w.job) (moment w.position) w.next at f.next f.whole).1 calm);
          nearest = λ calm j left. ∥∥₁_elim fits (hlevel props) (λ f. (givable_next (runs w.job) (moment w.position) w.next at f.next f.whole).2 calm j left);
        }

-- ---- all jobs

module _ {J T : Type 0} (runs : J → Zone → ℤ → Type 0) (moment : T → Moment) (h : Held J) (jobs : ℕ → Option (Waiting J T))
    (is : (id : ℕ) → h.jobs id ≡ option_map (standing_of moment) (jobs id))
    (fits : (id : ℕ) → ∥ IfSome (jobs id) (Fits runs moment) ∥₁) where
  pub nearest : (first : Option Turn) → IsFirstTurn (λ s k. is_awaited_at s (jobs k)) first → IsNearest runs h first
  nearest (Some due) first = record {
    givable = subst (λ o. IsSomeAnd o (IsGivable runs due.second)) (sym (is due.id))
        (givable runs moment (jobs due.id) (fits due.id) due.second first.0);
    first = λ l. subst (λ o. IfSome o (ComesAfter runs due.id due.second l)) (sym (is l))
        (comes_after runs moment (jobs l) (fits l) due.id l due.second (λ s. first.1 s l));
  }
  nearest None first = λ l. subst (λ o. IfSome o (HasNoneSeen runs)) (sym (is l))
      (none_seen runs moment (jobs l) (fits l) (λ s. first s l))

-- where the nearest run comes later than now, none is due
module _ {J : Type 0} (runs : J → Zone → ℤ → Type 0) (h : Held J) (now : ℤ) where
  pub none_due : (due : Turn) → IsFirst runs h due.id due.second → now <ℤ due.second → (l : ℕ) → IfSome (h.jobs l) (IsNotDue runs now)
  none_due due is later l = later_than (h.jobs l) (is.first l)
    where
      later_than : (o : Option (Standing J)) → IfSome o (ComesAfter runs due.id due.second l) → IfSome o (IsNotDue runs now)
      later_than None after = tt
      later_than (Some s) after = λ goes calm j seen. omega (arith, ints, later, (after goes calm j seen).0)

-- ---- what is awaited, in every zone

module _ {J T : Type 0} (moment : T → Moment) (h : Held J) (jobs : ℕ → Option (Waiting J T))
    (is : (id : ℕ) → h.jobs id ≡ option_map (standing_of moment) (jobs id)) where
  pub awaits_first : (first : Option Turn) → IsFirstTurn (λ s k. is_awaited_at s (jobs k)) first → AwaitsFirst h first
  awaits_first (Some due) first = (
    subst (λ o. IsSomeAnd o (λ s. s.next ≡ Some due.second)) (sym (is due.id)) (own (jobs due.id) first.0),
    λ l. subst (λ o. IfSome o (WaitsAfter due.id due.second l)) (sym (is l)) (after_all l (jobs l) (λ s at. first.1 s l at)),
  )
    where
      own_next : (n : Next) → is_next_at due.second n ≡ true → second_of n ≡ Some due.second
      own_next (Run j) at = ap Some (same_second j due.second at)
      own_next Over at = absurd (false≢true at)
      own_next (Stopped stop) at = absurd (false≢true at)

      own : (o : Option (Waiting J T)) → is_awaited_at due.second o ≡ true → IsSomeAnd (option_map (standing_of moment) o) (λ s. s.next ≡ Some due.second)
      own None at = absurd (false≢true at)
      own (Some w) at = own_next w.next at

      after_next : (l : ℕ) (n : Next) → ((s : ℤ) → is_next_at s n ≡ true → (due.second ≤ℤ s) × (s ≡ due.second → due.id ≤ l))
          → IfSome (second_of n) (λ j. (due.second ≤ℤ j) × (j ≡ due.second → due.id ≤ l))
      after_next l (Run j) first = first j (is_itself j)
      after_next l Over first = tt
      after_next l (Stopped stop) first = tt

      after_all : (l : ℕ) (o : Option (Waiting J T)) → ((s : ℤ) → is_awaited_at s o ≡ true → (due.second ≤ℤ s) × (s ≡ due.second → due.id ≤ l))
          → IfSome (option_map (standing_of moment) o) (WaitsAfter due.id due.second l)
      after_all l None first = tt
      after_all l (Some w) first = after_next l w.next first
  awaits_first None none = λ l. subst (λ o. IfSome o (λ s. s.next ≡ None)) (sym (is l)) (none_in (jobs l) (λ s. none s l))
    where
      none_next : (n : Next) → ((s : ℤ) → is_next_at s n ≡ false) → second_of n ≡ None
      none_next (Run j) none = absurd (false≢true (sym (none j) ∙ is_itself j))
      none_next Over none = refl
      none_next (Stopped stop) none = refl

      none_in : (o : Option (Waiting J T)) → ((s : ℤ) → is_awaited_at s o ≡ false) → IfSome (option_map (standing_of moment) o) (λ s. s.next ≡ None)
      none_in None none = tt
      none_in (Some w) none = none_next w.next none

module _ {J : Type 0} (h : Held J) (now : ℤ) where
  -- where the first comes no later, one is due
  pub awaits_due : (due : Turn) → AwaitsFirst h (Some due) → due.second ≤ℤ now → IsSomeDue h now
  awaits_due due first le = (due.id, by (h.jobs due.id) first.0)
    where
      by : (o : Option (Standing J)) → IsSomeAnd o (λ s. s.next ≡ Some due.second) → IsSomeAnd o (λ s. IsSomeAnd s.next (λ j. j ≤ℤ now))
      by None h = h
      by (Some s) h = subst (λ o. IsSomeAnd o (λ j. j ≤ℤ now)) (sym h) le
