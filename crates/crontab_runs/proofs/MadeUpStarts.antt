-- For which skipped minutes cron starts a job: at the first second of a stretch alone.
use Rattle.std.proofs.Common.{◌≡◌, ◌∙◌, sym, subst, ap, arith, Bool, true, false, ℤ, pos, ◌+ℤ◌, ◌-ℤ◌, ◌<ℤ◌, ◌≤ℤ◌, if◌then◌else◌, Option, Some, None, MatchOption}
use Rattle.std.proofs.lemmas.Int.{ints}
use Rattle.croner_base.specs.Zone.{Zone}
use Rattle.crontab_runs.specs.MadeUp.{MakesUpFor, MakesUpFrom, MakesUpForNone}
use Rattle.crontab_runs.specs.Starts.{minute_of, is_from_to, due_after, most_late, CronJob}
use Rattle.crontab_runs.specs.Private.Named.{NoneNamedBetween, IsFirstNamedBetween}
use Rattle.crontab_runs.specs.Private.Stretches.{IsStretch}
use Rattle.crontab_runs.proofs.DueMinutes.{minute_is}
use Rattle.crontab_runs.proofs.StretchStarts.{one_greatest, greatest_at_begin, turn_inside}

either_from : (b : Bool) (x y v : ℤ) → v ≤ℤ x → v ≤ℤ y → v ≤ℤ (if b then x else y)
either_from true x y v h k = h
either_from false x y v h k = k

-- where the minute before was shown, none before the shown one is due
due_from : (starred : Bool) (r m : ℤ) → (m -ℤ pos 1) ≤ℤ r → (m -ℤ pos 1) ≤ℤ due_after starred r m
due_from starred r m h =
    let one : (m -ℤ pos 1) ≤ℤ (m -ℤ pos 1) = omega (arith, ints) in
    let own : (m -ℤ pos 1) ≤ℤ m = omega (arith, ints) in
    either_from (is_from_to (pos 1) (pos most_late) (m -ℤ r)) r _ (m -ℤ pos 1) h
    (either_from _ _ _ (m -ℤ pos 1) (either_from starred (m -ℤ pos 1) r (m -ℤ pos 1) one h)
    (either_from _ _ _ (m -ℤ pos 1) (either_from starred (m -ℤ pos 1) m (m -ℤ pos 1) one own) one))

module _ (z : Zone) (begin end o before : ℤ) (s : IsStretch z begin end o before) (job : CronJob) where
  abbrev due : ℤ
  due = due_after job.starred (minute_of before) (minute_of (begin +ℤ o))

  here : minute_of (z.reads begin) ≡ minute_of (begin +ℤ o)
  here = ap minute_of (s.steady begin (omega (arith, ints)) s.order)

  -- after the first second it starts a job for the shown minute alone
  pub none_inside : (i : ℤ) → begin <ℤ i → i <ℤ end → MakesUpForNone job z i
  none_inside i low high k makes =
      let m : ℤ = minute_of (z.reads i) in
      let shown = turn_inside z begin end o before s i low high makes.turns in
      let there = s.steady (i -ℤ pos 1) (omega (arith, ints, low)) (omega (arith, ints, high)) in
      let minute : minute_of (z.reads (i -ℤ pos 1)) ≡ m -ℤ pos 1 =
      minute_is (z.reads (i -ℤ pos 1)) (m -ℤ pos 1) (omega (arith, ints, there, shown)) (omega (arith, ints, there, shown)) in
      let greatest = makes.greatest.greatest (i -ℤ pos 1) (omega (arith, ints)) in
      let from = due_from job.starred makes.before m (omega (arith, ints, greatest, minute)) in
      omega (arith, ints, from, makes.due, makes.earlier)

  -- where the clock goes on within a minute it starts nothing
  pub none_within_minute : minute_of (begin +ℤ o) ≡ minute_of before → MakesUpForNone job z begin
  none_within_minute same k makes = makes.turns (here ∙ same ∙ sym (ap minute_of s.last))

  -- what it makes up for at the first second lies after the minute from which the job is due, and is named
  between : (k : ℤ) → MakesUpFor job z begin k → (due <ℤ k) × (k <ℤ minute_of (begin +ℤ o)) × job.names k
  between k makes =
      let same : makes.before ≡ minute_of before = one_greatest z begin makes.before (minute_of before) makes.greatest (greatest_at_begin z begin end o before s) in
      let is : due_after job.starred makes.before (minute_of (z.reads begin)) ≡ due =
      ap (λ (x : ℤ). due_after job.starred x (minute_of (z.reads begin))) same ∙ ap (due_after job.starred (minute_of before)) here in
      (subst (λ (x : ℤ). x <ℤ k) is makes.due, subst (λ (x : ℤ). k <ℤ x) here makes.earlier, makes.named)

  pub none_at_begin : NoneNamedBetween job.names due (minute_of (begin +ℤ o)) → MakesUpForNone job z begin
  none_at_begin none k makes = let (low, high, named) = between k makes in none k low high named

  pub first_at_begin : (w : ℤ) → (minute_of (begin +ℤ o) ≡ minute_of before → ⊥) → IsFirstNamedBetween job.names due (minute_of (begin +ℤ o)) w → MakesUpFrom job z begin w
  first_at_begin w other first = record {
    begins = first.begins;
    makes = record {
      turns = λ same. other (sym here ∙ same ∙ ap minute_of s.last);
      before = minute_of before;
      greatest = greatest_at_begin z begin end o before s;
      due = subst (λ (x : ℤ). due_after job.starred (minute_of before) x <ℤ minute_of w) (sym here) first.later;
      earlier = subst (λ (x : ℤ). minute_of w <ℤ x) (sym here) first.ahead;
      named = first.named;
    };
    first = λ j makes. let (low, high, named) = between j makes in first.first j low named;
  }

  pub found_at_begin : (r : Option ℤ) → (minute_of (begin +ℤ o) ≡ minute_of before → ⊥)
      → MatchOption r (NoneNamedBetween job.names due (minute_of (begin +ℤ o))) (IsFirstNamedBetween job.names due (minute_of (begin +ℤ o)))
      → MatchOption r (MakesUpForNone job z begin) (MakesUpFrom job z begin)
  found_at_begin None other none = none_at_begin none
  found_at_begin (Some w) other first = first_at_begin w other first
