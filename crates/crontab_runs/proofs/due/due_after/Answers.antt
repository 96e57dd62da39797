use Rattle.std.proofs.Common.{◌≡◌, sym, refl, ◌∙◌, arith, pos, neg_ℤ, ◌+ℤ◌, ◌-ℤ◌, ◌≤ℤ◌, ◌<ℤ◌, ℤ, w64, to_z, of_z, FitsSigned}
use Rattle.std.proofs.lemmas.Int.{ints, to_z-of_z}
use Rattle.crontab_runs.specs.Starts.{far_minute}
use Rattle.crontab_runs.proofs.DueMinutes.{due_late, due_over_starred, due_over_starless, due_again_starred, due_again_starless, due_beyond}
use Rattle.crontab_runs.proofs.due.due_after.Goals as goal

difference : (m r : ℤ) → neg_ℤ (pos far_minute) ≤ℤ m → m ≤ℤ pos far_minute → neg_ℤ (pos far_minute) ≤ℤ r → r ≤ℤ pos far_minute
    → to_z w64 (of_z w64 (to_z w64 (of_z w64 m) -ℤ to_z w64 (of_z w64 r))) ≡ m -ℤ r
difference m r a b c d =
    let minute : FitsSigned w64 m = omega (arith, ints) in
    let shown : FitsSigned w64 r = omega (arith, ints) in
    let less : FitsSigned w64 (m -ℤ r) = omega (arith, ints) in
    simp to_z-of_z refl

one_less : (m : ℤ) → neg_ℤ (pos far_minute) ≤ℤ m → m ≤ℤ pos far_minute → to_z w64 (of_z w64 (to_z w64 (of_z w64 m) -ℤ pos 1)) ≡ m -ℤ pos 1
one_less m a b =
    let minute : FitsSigned w64 m = omega (arith, ints) in
    let less : FitsSigned w64 (m -ℤ pos 1) = omega (arith, ints) in
    simp to_z-of_z refl

pub returns-then-late : goal.returns-then-late
returns-then-late c =
    let r = c.requires in
    let d = difference c.args.minute c.args.shown r.low r.high r.shown_low r.shown_high in
    let a : (c.args.minute +ℤ pos 180) ≤ℤ c.args.shown = grind (arith, ints, d, c.if-late.true) in
    one_less c.args.minute r.low r.high ∙ sym (due_beyond c.args.is_starred c.args.shown c.args.minute (λ _. a) (λ on. omega (arith, ints, on, a)))

pub returns-then-is_starred : goal.returns-then-is_starred
returns-then-is_starred c =
    let r = c.requires in
    let d = difference c.args.minute c.args.shown r.low r.high r.shown_low r.shown_high in
    let a : c.args.shown <ℤ (c.args.minute +ℤ pos 180) = grind (arith, ints, d, c.if-late.false) in
    let b : c.args.minute ≤ℤ c.args.shown = grind (arith, ints, d, c.if-late-le0.true) in
    one_less c.args.minute r.low r.high ∙ sym (due_again_starred c.args.is_starred c.args.shown c.args.minute c.if-is_starred.true b (omega (arith, ints)))

pub returns-else-is_starred : goal.returns-else-is_starred
returns-else-is_starred c =
    let r = c.requires in
    let d = difference c.args.minute c.args.shown r.low r.high r.shown_low r.shown_high in
    let a : c.args.shown <ℤ (c.args.minute +ℤ pos 180) = grind (arith, ints, d, c.if-late.false) in
    let b : c.args.minute ≤ℤ c.args.shown = grind (arith, ints, d, c.if-late-le0.true) in
    to_z-of_z w64 c.args.minute c.ranges.minute ∙ sym (due_again_starless c.args.is_starred c.args.shown c.args.minute c.if-is_starred.false b (omega (arith, ints)))

pub returns-then-late-le-MOST_LATE : goal.returns-then-late-le-MOST_LATE
returns-then-late-le-MOST_LATE c =
    let r = c.requires in
    let d = difference c.args.minute c.args.shown r.low r.high r.shown_low r.shown_high in
    let a : c.args.shown <ℤ c.args.minute = grind (arith, ints, d, c.if-late-le0.false) in
    let b : c.args.minute ≤ℤ (c.args.shown +ℤ pos 5) = grind (arith, ints, d, c.if-late-le-MOST_LATE.true) in
    to_z-of_z w64 c.args.shown c.ranges.shown ∙ sym (due_late c.args.is_starred c.args.shown c.args.minute (omega (arith, ints)) b)

pub returns-then-is_starred-2 : goal.returns-then-is_starred-2
returns-then-is_starred-2 c =
    let r = c.requires in
    let d = difference c.args.minute c.args.shown r.low r.high r.shown_low r.shown_high in
    let a : (c.args.shown +ℤ pos 5) <ℤ c.args.minute = grind (arith, ints, d, c.if-late-le-MOST_LATE.false) in
    let b : c.args.minute ≤ℤ (c.args.shown +ℤ pos 180) = grind (arith, ints, d, c.if-late-le-MOST_CHANGED.true) in
    one_less c.args.minute r.low r.high ∙ sym (due_over_starred c.args.is_starred c.args.shown c.args.minute c.if-is_starred-2.true (omega (arith, ints)) b)

pub returns-else-is_starred-2 : goal.returns-else-is_starred-2
returns-else-is_starred-2 c =
    let r = c.requires in
    let d = difference c.args.minute c.args.shown r.low r.high r.shown_low r.shown_high in
    let a : (c.args.shown +ℤ pos 5) <ℤ c.args.minute = grind (arith, ints, d, c.if-late-le-MOST_LATE.false) in
    let b : c.args.minute ≤ℤ (c.args.shown +ℤ pos 180) = grind (arith, ints, d, c.if-late-le-MOST_CHANGED.true) in
    to_z-of_z w64 c.args.shown c.ranges.shown ∙ sym (due_over_starless c.args.is_starred c.args.shown c.args.minute c.if-is_starred-2.false (omega (arith, ints)) b)

pub returns : goal.returns
returns c =
    let r = c.requires in
    let d = difference c.args.minute c.args.shown r.low r.high r.shown_low r.shown_high in
    let a : (c.args.shown +ℤ pos 180) <ℤ c.args.minute = grind (arith, ints, d, c.if-late-le-MOST_CHANGED.false) in
    one_less c.args.minute r.low r.high ∙ sym (due_beyond c.args.is_starred c.args.shown c.args.minute (λ back. omega (arith, ints, back, a)) (λ _. a))
