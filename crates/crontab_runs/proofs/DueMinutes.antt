-- Minutes of wall seconds, and the tests of the rule.
use Rattle.std.proofs.Common.{◌≡◌, ◌+◌, ◌⊎◌, inl, inr, true, false, Bool, refl, arith, ◌∙◌, ℤ, pos, negsuc, ◌+ℤ◌, ◌-ℤ◌, ◌*ℤ◌, ◌<ℤ◌, ◌≤ℤ◌, int_le, if◌then◌else◌}
use Rattle.std.proofs.lemmas.Int.{ints, by_lt_z}
use Rattle.croner_base.proofs.tables.TableTests.{both_parts, le_of, between_test, between_false}
use Rattle.crontab_runs.specs.Starts.{minute_of, is_from_to, due_after, most_late, most_changed}

-- the seconds of a minute
pub minute_bounds : (w : ℤ) → ((minute_of w *ℤ pos 60) ≤ℤ w) × (w <ℤ (minute_of w *ℤ pos 60 +ℤ pos 60))
minute_bounds (pos a) = (omega (arith, ints), omega (arith, ints))
minute_bounds (negsuc a) = (omega (arith, ints), omega (arith, ints))

-- and no other minute has them
pub minute_is : (w k : ℤ) → (k *ℤ pos 60) ≤ℤ w → w <ℤ (k *ℤ pos 60 +ℤ pos 60) → minute_of w ≡ k
minute_is w k low high = omega (arith, ints, minute_bounds w)

pub minute_rises : (v w : ℤ) → v ≤ℤ w → minute_of v ≤ℤ minute_of w
minute_rises v w h = omega (arith, ints, minute_bounds v, minute_bounds w)

-- the next second lies in the same minute or begins the next one
pub minute_next : (w : ℤ) → (minute_of (w +ℤ pos 1) ≡ minute_of w) ⊎ ((w +ℤ pos 1 ≡ minute_of (w +ℤ pos 1) *ℤ pos 60) × (minute_of (w +ℤ pos 1) ≡ minute_of w +ℤ pos 1))
minute_next w =
    let a = minute_bounds w in
    let b = minute_bounds (w +ℤ pos 1) in
    by_lt_z (minute_of w) (minute_of (w +ℤ pos 1)) (λ lt. inr (omega (arith, ints, a, b), omega (arith, ints, a, b))) (λ le. inl (omega (arith, ints, a, b)))

-- ---- the rule, by how far a minute lies from the greatest that was shown

pub due_late : (starred : Bool) (r m : ℤ) → (r +ℤ pos 1) ≤ℤ m → m ≤ℤ (r +ℤ pos most_late) → due_after starred r m ≡ r
due_late starred r m low high = let t = between_test (pos 1) (pos most_late) (m -ℤ r) (omega (arith, ints)) (omega (arith, ints)) in rw t refl

pub due_past_starred : (r m : ℤ) → m ≤ℤ r → (r +ℤ pos 1) ≤ℤ (m +ℤ pos most_changed) → due_after true r m ≡ m -ℤ pos 1
due_past_starred r m low high =
    let a = between_false (pos 1) (pos most_late) (m -ℤ r) (λ h k. omega (arith, ints)) in
    let b = between_false (pos (most_late + 1)) (pos most_changed) (m -ℤ r) (λ h k. omega (arith, ints)) in
    let c = between_test (pos 1 -ℤ pos most_changed) (pos 0) (m -ℤ r) (omega (arith, ints)) (omega (arith, ints)) in
    rw (a, b, c) refl

pub due_past : (r m : ℤ) → m ≤ℤ r → (r +ℤ pos 1) ≤ℤ (m +ℤ pos most_changed) → due_after false r m ≡ m
due_past r m low high =
    let a = between_false (pos 1) (pos most_late) (m -ℤ r) (λ h k. omega (arith, ints)) in
    let b = between_false (pos (most_late + 1)) (pos most_changed) (m -ℤ r) (λ h k. omega (arith, ints)) in
    let c = between_test (pos 1 -ℤ pos most_changed) (pos 0) (m -ℤ r) (omega (arith, ints)) (omega (arith, ints)) in
    rw (a, b, c) refl

-- by more than 5 minutes, and up to 180
due_over : (starred : Bool) (r m : ℤ) → (r +ℤ pos (most_late + 1)) ≤ℤ m → m ≤ℤ (r +ℤ pos most_changed) → due_after starred r m ≡ (if starred then m -ℤ pos 1 else r)
due_over starred r m low high =
    let a = between_false (pos 1) (pos most_late) (m -ℤ r) (λ h k. omega (arith, ints)) in
    let b = between_test (pos (most_late + 1)) (pos most_changed) (m -ℤ r) (omega (arith, ints)) (omega (arith, ints)) in
    rw (a, b) refl

pub due_over_starred : (starred : Bool) (r m : ℤ) → starred ≡ true → (r +ℤ pos (most_late + 1)) ≤ℤ m → m ≤ℤ (r +ℤ pos most_changed) → due_after starred r m ≡ m -ℤ pos 1
due_over_starred starred r m is low high = due_over starred r m low high ∙ rw is refl

pub due_over_starless : (starred : Bool) (r m : ℤ) → starred ≡ false → (r +ℤ pos (most_late + 1)) ≤ℤ m → m ≤ℤ (r +ℤ pos most_changed) → due_after starred r m ≡ r
due_over_starless starred r m is low high = due_over starred r m low high ∙ rw is refl

-- by more than that, either way
pub due_beyond : (starred : Bool) (r m : ℤ) → (m ≤ℤ r → (m +ℤ pos most_changed) ≤ℤ r) → (r <ℤ m → (r +ℤ pos most_changed) <ℤ m) → due_after starred r m ≡ m -ℤ pos 1
due_beyond starred r m back on =
    let a = between_false (pos 1) (pos most_late) (m -ℤ r) (λ h k. omega (arith, ints, on (omega (arith, ints)))) in
    let b = between_false (pos (most_late + 1)) (pos most_changed) (m -ℤ r) (λ h k. omega (arith, ints, on (omega (arith, ints)))) in
    let d = between_false (pos 1 -ℤ pos most_changed) (pos 0) (m -ℤ r) (λ h k. omega (arith, ints, back (omega (arith, ints)))) in
    rw (a, b, d) refl

pub due_again_starred : (starred : Bool) (r m : ℤ) → starred ≡ true → m ≤ℤ r → (r +ℤ pos 1) ≤ℤ (m +ℤ pos most_changed) → due_after starred r m ≡ m -ℤ pos 1
due_again_starred starred r m is low high = rw is (due_past_starred r m low high)

pub due_again_starless : (starred : Bool) (r m : ℤ) → starred ≡ false → m ≤ℤ r → (r +ℤ pos 1) ≤ℤ (m +ℤ pos most_changed) → due_after starred r m ≡ m
due_again_starless starred r m is low high = rw is (due_past r m low high)

from_to : (first last d : ℤ) → is_from_to first last d ≡ true → (first ≤ℤ d) × (d ≤ℤ last)
from_to first last d h = let both = both_parts (int_le first d) (int_le d last) h in (le_of first d both.0, le_of d last both.1)

either_up_to : (b : Bool) (x y m : ℤ) → (b ≡ true → x ≤ℤ m) → (b ≡ false → y ≤ℤ m) → (if b then x else y) ≤ℤ m
either_up_to true x y m h k = h refl
either_up_to false x y m h k = k refl

-- what is due lies up to the minute that is shown
pub due_order : (starred : Bool) (r m : ℤ) → due_after starred r m ≤ℤ m
due_order starred r m =
    let at : (m -ℤ pos 1) ≤ℤ m = omega (arith, ints) in
    either_up_to (is_from_to (pos 1) (pos most_late) (m -ℤ r)) r _ m (λ t. let d = from_to (pos 1) (pos most_late) (m -ℤ r) t in omega (arith, ints, d))
    (λ _. either_up_to _ _ _ m
    (λ t. either_up_to starred (m -ℤ pos 1) r m (λ _. at) (λ _. let d = from_to (pos (most_late + 1)) (pos most_changed) (m -ℤ r) t in omega (arith, ints, d)))
    (λ _. either_up_to _ _ _ m (λ _. either_up_to starred (m -ℤ pos 1) m m (λ _. at) (λ _. omega (arith, ints))) (λ _. at)))

either_near : (b : Bool) (x y m : ℤ) → (b ≡ true → m ≤ℤ (x +ℤ pos most_changed)) → (b ≡ false → m ≤ℤ (y +ℤ pos most_changed)) → m ≤ℤ ((if b then x else y) +ℤ pos most_changed)
either_near true x y m h k = h refl
either_near false x y m h k = k refl

-- and no more minutes before it than cron makes up for
pub due_near : (starred : Bool) (r m : ℤ) → m ≤ℤ (due_after starred r m +ℤ pos most_changed)
due_near starred r m =
    let one : m ≤ℤ (m -ℤ pos 1 +ℤ pos most_changed) = omega (arith, ints) in
    let own : m ≤ℤ (m +ℤ pos most_changed) = omega (arith, ints) in
    either_near (is_from_to (pos 1) (pos most_late) (m -ℤ r)) r _ m (λ t. let d = from_to (pos 1) (pos most_late) (m -ℤ r) t in omega (arith, ints, d))
    (λ _. either_near _ _ _ m
    (λ t. either_near starred (m -ℤ pos 1) r m (λ _. one) (λ _. let d = from_to (pos (most_late + 1)) (pos most_changed) (m -ℤ r) t in omega (arith, ints, d)))
    (λ _. either_near (is_from_to (pos 1 -ℤ pos most_changed) (pos 0) (m -ℤ r)) (if starred then m -ℤ pos 1 else m) (m -ℤ pos 1) m (λ _. either_near starred (m -ℤ pos 1) m m (λ _. one) (λ _. own)) (λ _. one)))
