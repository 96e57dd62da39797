use Rattle.std.proofs.Common.{◌≡◌, ◌+◌, ◌<◌, true, None, is_some, ap, sym, ◌∙◌, arith, subst, below_more}
use Rattle.std.proofs.lemmas.Result.{err_from_is_err_and}
use Rattle.croner_base.specs.Civil.{weekday_index}
use Rattle.croner_pattern.specs.Meaning.{meaning_of}
use Rattle.croner_pattern.specs.Questions.{date_answer, are_answered}
use Rattle.croner_pattern.specs.Schedule.{is_day_matching, IsDayMask}
use Rattle.croner_pattern.specs.Shapes.{has_field_shapes}
use Rattle.croner_pattern.proofs.questions.FieldShapes.{none-some}
use Rattle.croner_pattern.proofs.questions.ScheduledAnswers.{IsDayOfMonth, date_is}
use Rattle.croner_pattern.proofs.questions.DayAnswers.{date_answered}
use Rattle.croner_pattern.proofs.days.DayMasks.{MaskUpTo, mask-hit, mask-miss, all-answered, one-lacks}
use Rattle.croner_pattern.proofs.pattern.CronPattern.day_mask.Goals as goal
use Rattle.croner_pattern.proofs.pattern.CronPattern.day_mask.Goals.{then-branch, else-branch}

-- with the shapes of a pattern each day is answered
pub returns-then-has_field_shapes-clause-asked : goal.returns-then-has_field_shapes-clause-asked
returns-then-has_field_shapes-clause-asked c =
    let m = meaning_of c.args.self.now in
    let len = c.args.month_length in
    let first = weekday_index c.args.first in
    let small : first < 7 = subst (λ n. n < 7) c.num_days_from_sunday-first_index.ensures.value c.num_days_from_sunday-first_index.ensures.bound in
    let shapes : has_field_shapes m ≡ true = sym c.has_field_shapes.ensures ∙ c.if-has_field_shapes.true in
    all-answered (date_answer m len first) len (λ place low.
    let k : IsDayOfMonth len first (place + 1) = record { shortest = c.requires.0; longest = c.requires.1; weekday = small; low = omega arith; high = omega arith } in
    ap is_some (date_answered m len first (place + 1) shapes k))

pub returns-then-has_field_shapes-clause-value : goal.returns-then-has_field_shapes-clause-value
returns-then-has_field_shapes-clause-value c =
    subst (λ first. IsDayMask (meaning_of c.args.self.now) c.args.month_length first c.days_of_month.result) c.num_days_from_sunday-first_index.ensures.value c.days_of_month.ensures

pub returns-in_err-fits-clause-asked : goal.returns-in_err-fits-clause-asked
returns-in_err-fits-clause-asked c =
    let m = meaning_of c.args.self.now in
    let len = c.args.month_length in
    let p = err_from_is_err_and c.from_residual.result c.from_residual.ensures.1 in
    let none : date_answer m len (weekday_index c.args.first) (c.loop-place.place + 1) ≡ None =
    subst (λ f. date_answer m len f (c.loop-place.place + 1) ≡ None) c.num_days_from_sunday-first_index.ensures.value c.in_err-fits.ensures.0 in
    rw (p.1, p.2)
    (one-lacks (date_answer m len (weekday_index c.args.first)) len c.loop-place.place (omega arith) none, c.in_err-fits.ensures.1)

pub returns-in_err-fits-clause-shaped : goal.returns-in_err-fits-clause-shaped
returns-in_err-fits-clause-shaped c h =
    let day = c.loop-place.place + 1 in
    let k : IsDayOfMonth c.args.month_length c.num_days_from_sunday-first_index.result day = record { shortest = c.requires.0; longest = c.requires.1; weekday = c.num_days_from_sunday-first_index.ensures.bound; low = omega arith; high = omega arith } in
    absurd (none-some _ (sym c.in_err-fits.ensures.0 ∙ date_answered (meaning_of c.args.self.now) c.args.month_length c.num_days_from_sunday-first_index.result day h k))

pub loop-place-preserved : goal.loop-place-preserved
loop-place-preserved c =
    let m = meaning_of c.args.self.now in
    let len = c.args.month_length in
    let first = c.num_days_from_sunday-first_index.result in
    let place = c.loop-place.place in
    let small : place < 32 = omega arith in
    let k : IsDayOfMonth len first (place + 1) = record { shortest = c.requires.0; longest = c.requires.1; weekday = c.num_days_from_sunday-first_index.ensures.bound; low = omega arith; high = omega arith } in
    let fits = is_day_matching m len first in
    let is : c.in_ok-fits.field-0 ≡ fits (place + 1) = date_is m len first (place + 1) c.in_ok-fits.field-0 k c.in_ok-fits.ensures in
    record {
      built = elim c.if-branch.branch [
        | then-branch w ↦ subst (λ n. MaskUpTo fits (place + 1) n) (sym w.mask-is) (mask-hit fits place c.loop-place.mask small (sym is ∙ w.if-branch.true) c.loop-place.invariant.built)
        | else-branch w ↦ subst (λ n. MaskUpTo fits (place + 1) n) (sym w.mask-is) (mask-miss fits place c.loop-place.mask (sym is ∙ w.if-branch.false) c.loop-place.invariant.built)
      ];
      answered = below_more _ _ c.loop-place.invariant.answered (ap is_some c.in_ok-fits.ensures);
    }

pub returns-clause-asked : goal.returns-clause-asked
returns-clause-asked c =
    let m = meaning_of c.args.self.now in
    let len = c.args.month_length in
    subst (λ f. are_answered m len f ≡ true) c.num_days_from_sunday-first_index.ensures.value
    (all-answered (date_answer m len c.num_days_from_sunday-first_index.result) len (λ p low. c.loop-place.invariant.answered p (omega arith)))

pub returns-clause-value : goal.returns-clause-value
returns-clause-value c =
    let m = meaning_of c.args.self.now in
    let len = c.args.month_length in
    let all : c.loop-place.place ≡ len = omega arith in
    subst (λ f. MaskUpTo (is_day_matching m len f) len c.loop-place.mask) c.num_days_from_sunday-first_index.ensures.value
    (subst (λ n. MaskUpTo (is_day_matching m len c.num_days_from_sunday-first_index.result) n c.loop-place.mask) all c.loop-place.invariant.built)
