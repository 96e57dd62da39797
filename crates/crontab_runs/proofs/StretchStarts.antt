-- What cron starts in a stretch of a clock.
use Rattle.std.proofs.Common.{◌≡◌, ◌⊎◌, inl, inr, ◌∙◌, sym, subst, ap, refl, arith, Bool, true, false, ◌<◌, ℤ, pos, ◌+ℤ◌, ◌-ℤ◌, ◌*ℤ◌, ◌<ℤ◌, ◌≤ℤ◌, List, [], ◌∷◌, length}
use Rattle.std.proofs.lemmas.Int.{ints, by_lt_z}
use Rattle.croner_base.specs.Zone.{Zone}
use Rattle.croner.proofs.zone.Walks.{true_or_false}
use Rattle.crontab_runs.specs.Starts.{minute_of, due_after, most_changed, CronJob, AreNamed, Turns, IsGreatestBefore, StartsFor, StartsTimes, Starts}
use Rattle.crontab_runs.specs.Private.Stretches.{IsStretch}
use Rattle.crontab_runs.specs.Private.Parts.{IsMinuteStart}
use Rattle.crontab_runs.proofs.DueMinutes.{minute_bounds, minute_is, minute_rises, minute_next, due_late, due_past, due_past_starred}
use Rattle.crontab_runs.proofs.NamedMinutes.{one_named}

-- there is one greatest minute
pub one_greatest : (z : Zone) (i r s : ℤ) → IsGreatestBefore z i r → IsGreatestBefore z i s → r ≡ s
one_greatest z i r s a b =
    let (j, before, at) = a.shown in
    let (k, past, is) = b.shown in
    omega (arith, ints, a.greatest k past, b.greatest j before, at, is)

-- a list that isn't empty has a named minute
pub some_named : (names : ℤ → Type 0) (after upto : ℤ) (minutes : List ℤ) → AreNamed names after upto minutes → 0 < length minutes → (k : ℤ) × (after <ℤ k) × (k ≤ℤ upto) × names k
some_named names after upto [] all h = absurd (omega arith)
some_named names after upto (k ∷ ks) all h = let first = all.named 0 k (omega arith) in (k, first.0, first.1, first.2)

module _ (z : Zone) (begin end o before : ℤ) (s : IsStretch z begin end o before) where
  -- up to the stretch the minute of the second before it is the greatest
  pub greatest_at_begin : IsGreatestBefore z begin (minute_of before)
  greatest_at_begin = record {
    shown = (begin -ℤ pos 1, omega (arith, ints), ap minute_of s.last);
    greatest = λ j lt. minute_rises (z.reads j) before (s.past j lt);
  }

  -- after it the clock shows another minute where one begins
  pub turn_inside : (i : ℤ) → begin <ℤ i → i <ℤ end → Turns z i → i +ℤ o ≡ minute_of (z.reads i) *ℤ pos 60
  turn_inside i low high turns =
      let here = s.steady i (omega (arith, ints)) high in
      let there = s.steady (i -ℤ pos 1) (omega (arith, ints)) (omega (arith, ints)) in
      let next : i -ℤ pos 1 +ℤ o +ℤ pos 1 ≡ i +ℤ o = omega (arith, ints) in
      elim (minute_next (i -ℤ pos 1 +ℤ o)) [
        | inl same ↦ absurd (turns (ap minute_of (here ∙ sym next) ∙ same ∙ ap minute_of (sym there)))
        | inr begins ↦ sym next ∙ begins.0 ∙ ap (λ (w : ℤ). minute_of w *ℤ pos 60) (next ∙ sym here)
      ]

  module _ (i m : ℤ) (low : begin <ℤ i) (high : i <ℤ end) (shown : i +ℤ o ≡ m *ℤ pos 60) where
    here : z.reads i ≡ i +ℤ o
    here = s.steady i (omega (arith, ints)) high

    there : z.reads (i -ℤ pos 1) ≡ i -ℤ pos 1 +ℤ o
    there = s.steady (i -ℤ pos 1) (omega (arith, ints)) (omega (arith, ints))

    minute_here : minute_of (z.reads i) ≡ m
    minute_here = minute_is (z.reads i) m (omega (arith, ints, here, shown)) (omega (arith, ints, here, shown))

    minute_there : minute_of (z.reads (i -ℤ pos 1)) ≡ m -ℤ pos 1
    minute_there = minute_is (z.reads (i -ℤ pos 1)) (m -ℤ pos 1) (omega (arith, ints, there, shown)) (omega (arith, ints, there, shown))

    turns_here : Turns z i
    turns_here = λ same. omega (arith, ints, same, minute_here, minute_there)

    -- up to i no minute of the stretch is greater than the one before
    shown_inside : (j : ℤ) → begin ≤ℤ j → j <ℤ i → minute_of (z.reads j) ≤ℤ (m -ℤ pos 1)
    shown_inside j from lt = omega (arith, ints, minute_bounds (z.reads j), s.steady j from (omega (arith, ints)), shown)

    fresh_greatest : minute_of before <ℤ m → IsGreatestBefore z i (m -ℤ pos 1)
    fresh_greatest fresh = record {
      shown = (i -ℤ pos 1, omega (arith, ints), minute_there);
      greatest = λ j lt. by_lt_z j begin (λ less. omega (arith, ints, minute_rises (z.reads j) before (s.past j less))) (λ more. shown_inside j more lt);
    }

    again_greatest : m ≤ℤ minute_of before → IsGreatestBefore z i (minute_of before)
    again_greatest again = record {
      shown = (begin -ℤ pos 1, omega (arith, ints), ap minute_of s.last);
      greatest = λ j lt. by_lt_z j begin (λ less. minute_rises (z.reads j) before (s.past j less)) (λ more. omega (arith, ints, shown_inside j more lt));
    }

    -- the clock was put back by less than three hours
    near : m ≤ℤ minute_of before → (minute_of before +ℤ pos 1) ≤ℤ (m +ℤ pos most_changed)
    near again = omega (arith, ints, s.back, minute_bounds before, shown)

    due_fresh : (starred : Bool) → due_after starred (m -ℤ pos 1) m ≡ m -ℤ pos 1
    due_fresh starred = due_late starred (m -ℤ pos 1) m (omega (arith, ints)) (omega (arith, ints))

    -- after the greatest minute a starred job is due for the minute, and no other
    due_again : (starred : Bool) → m ≤ℤ minute_of before → starred ≡ true → due_after starred (minute_of before) m ≡ m -ℤ pos 1
    due_again starred again is = subst (λ (b : Bool). due_after b (minute_of before) m ≡ m -ℤ pos 1) (sym is) (due_past_starred (minute_of before) m again (near again))

    due_waits : (starred : Bool) → m ≤ℤ minute_of before → starred ≡ false → due_after starred (minute_of before) m ≡ m
    due_waits starred again is = subst (λ (b : Bool). due_after b (minute_of before) m ≡ m) (sym is) (due_past (minute_of before) m again (near again))

    starts_alone : (job : CronJob) (r : ℤ) → job.names m → IsGreatestBefore z i r → due_after job.starred r m ≡ m -ℤ pos 1 → StartsTimes job z i 1
    starts_alone job r named greatest due = (
      m ∷ [],
      record {
        turns = turns_here;
        before = r;
        greatest = greatest;
        due =
            subst (λ (x : ℤ). AreNamed job.names (due_after job.starred r x) x (m ∷ [])) (sym minute_here)
            (subst (λ (x : ℤ). AreNamed job.names x m (m ∷ [])) (sym due) (one_named job.names m named));
      },
      refl,
    )

    -- cron starts a job for the minute alone
    pub minute_starts : (job : CronJob) → job.names m → (job.starred ≡ true) ⊎ (minute_of before <ℤ m) → StartsTimes job z i 1
    minute_starts job named fresh = by_lt_z (minute_of before) m
        (λ new. starts_alone job (m -ℤ pos 1) named (fresh_greatest new) (due_fresh job.starred))
        (λ again. elim fresh [
          | inl starred ↦ starts_alone job (minute_of before) named (again_greatest again) (due_again job.starred again starred)
          | inr new ↦ absurd (omega (arith, ints))
        ])

    -- what is started is started for a minute after the one from which the job is due
    due_named : (job : CronJob) (r due : ℤ) → IsGreatestBefore z i r → due_after job.starred r m ≡ due → Starts job z i → (k : ℤ) × (due <ℤ k) × (k ≤ℤ m) × job.names k
    due_named job r due greatest e (n, some, (minutes, starts, count)) =
        let same : starts.before ≡ r = one_greatest z i starts.before r starts.greatest greatest in
        let at : due_after job.starred starts.before (minute_of (z.reads i)) ≡ due = ap (λ (x : ℤ). due_after job.starred x (minute_of (z.reads i))) same ∙ ap (due_after job.starred r) minute_here ∙ e in
        let (k, low, high, named) = some_named job.names _ _ minutes starts.due (omega (arith, some, count)) in
        (k, omega (arith, ints, at, low), omega (arith, ints, minute_here, high), named)

    named_at : (job : CronJob) (k : ℤ) → (m -ℤ pos 1) <ℤ k → k ≤ℤ m → job.names k → job.names m
    named_at job k low high named = let same : k ≡ m = omega (arith, ints) in subst job.names same named

    -- and that is what it starts
    pub starts_minute : (job : CronJob) → Starts job z i → job.names m × ((job.starred ≡ true) ⊎ (minute_of before <ℤ m))
    starts_minute job starts = by_lt_z (minute_of before) m
        (λ new. let (k, low, high, named) = due_named job (m -ℤ pos 1) (m -ℤ pos 1) (fresh_greatest new) (due_fresh job.starred) starts in (named_at job k low high named, inr new))
        (λ again. elim (true_or_false job.starred) [
          | inl starred ↦
              let (k, low, high, named) = due_named job (minute_of before) (m -ℤ pos 1) (again_greatest again) (due_again job.starred again starred) starts in
              (named_at job k low high named, inl starred)
          | inr starless ↦
              let (k, low, high, named) = due_named job (minute_of before) m (again_greatest again) (due_waits job.starred again starless) starts in
              absurd (omega (arith, ints, low, high))
        ])

  -- the starts after the first second are those of whole minutes
  pub starts_inside : (job : CronJob) (i : ℤ) → begin <ℤ i → i <ℤ end → Starts job z i → (m : ℤ) × IsMinuteStart job o before i m
  starts_inside job i low high starts =
      let (n, some, (minutes, for, count)) = starts in
      let m = minute_of (z.reads i) in
      let shown = turn_inside i low high for.turns in
      let is = starts_minute i m low high shown job starts in
      (m, record { shown = shown; named = is.0; fresh = is.1 })

  pub minute_start : (job : CronJob) (i m : ℤ) → begin <ℤ i → i <ℤ end → IsMinuteStart job o before i m → StartsTimes job z i 1
  minute_start job i m low high is = minute_starts i m low high is.shown job is.named is.fresh

  -- at the first second cron starts what is due up to the minute that is shown there
  pub starts_at_begin : (job : CronJob) (minutes : List ℤ) → (minute_of (begin +ℤ o) ≡ minute_of before → ⊥)
      → AreNamed job.names (due_after job.starred (minute_of before) (minute_of (begin +ℤ o))) (minute_of (begin +ℤ o)) minutes → StartsFor job z begin minutes
  starts_at_begin job minutes other due =
      let here : minute_of (z.reads begin) ≡ minute_of (begin +ℤ o) = ap minute_of (s.steady begin (omega (arith, ints)) s.order) in
      record {
        turns = λ same. other (sym here ∙ same ∙ ap minute_of s.last);
        before = minute_of before;
        greatest = greatest_at_begin;
        due = subst (λ (x : ℤ). AreNamed job.names (due_after job.starred (minute_of before) x) x minutes) (sym here) due;
      }

  pub begin_starts : (job : CronJob) (minutes : List ℤ) → StartsFor job z begin minutes
      → (minute_of (begin +ℤ o) ≡ minute_of before → ⊥)
      × AreNamed job.names (due_after job.starred (minute_of before) (minute_of (begin +ℤ o))) (minute_of (begin +ℤ o)) minutes
  begin_starts job minutes starts =
      let here : minute_of (z.reads begin) ≡ minute_of (begin +ℤ o) = ap minute_of (s.steady begin (omega (arith, ints)) s.order) in
      let same : starts.before ≡ minute_of before = one_greatest z begin starts.before (minute_of before) starts.greatest greatest_at_begin in (
        λ stays. starts.turns (here ∙ stays ∙ sym (ap minute_of s.last)),
        subst (λ (x : ℤ). AreNamed job.names (due_after job.starred (minute_of before) x) x minutes) here
            (subst (λ (r : ℤ). AreNamed job.names (due_after job.starred r (minute_of (z.reads begin))) (minute_of (z.reads begin)) minutes) same starts.due),
      )
