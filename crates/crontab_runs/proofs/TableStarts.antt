-- What the definition says on the clock of a table, as values that can be computed.
use Rattle.std.proofs.Common.{nat_eq, ◌*◌, ◌≡◌, inl, inr, ◌∙◌, subst, ap, refl, arith, Bool, true, false, ℕ, zero, suc, ℤ, pos, ◌+ℤ◌, ◌-ℤ◌, ◌<ℤ◌, ◌≤ℤ◌, int_lt, if◌then◌else◌, unsigned_abs, List, [], ◌∷◌, ◌++◌, length}
use Rattle.std.proofs.lemmas.Int.{ints, by_lt_z, int_max_is}
use Rattle.std.specs.Int.{int_max}
use Rattle.std.specs.Ordering.{int_eq}
use Rattle.std.specs.Cmp.{signed_Decides}
use Rattle.croner_base.specs.Table.{are_changes, is_apart, is_calm_table}
use Rattle.croner_base.specs.TableZone.{clock, clock_reads}
use Rattle.croner_base.specs.Limits.{apart_limit}
use Rattle.croner_base.proofs.tables.TableCheck.{first_change, calm_parts}
use Rattle.croner_base.proofs.tables.TableReadings.{passed, ahead}
use Rattle.croner_base.proofs.tables.TableTests.{lt_of, lt_tells}
use Rattle.crontab_runs.specs.Starts.{minute_of, due_after, CronJob, AreNamed, IsGreatestBefore, StartsFor}
use Rattle.crontab_runs.proofs.DueMinutes.{minute_rises, due_order}
use Rattle.crontab_runs.proofs.NamedMinutes.{none_named, one_more, none_more}

-- the greatest minute that the clock has shown before i: at the last second before a change, or at the last second before i
abbrev pub greatest_minute : ℤ → List (ℤ × ℤ) → ℤ → ℤ
greatest_minute offset [] i = minute_of (i -ℤ pos 1 +ℤ offset)
greatest_minute offset (c ∷ cs) i =
    if int_lt c.0 i then int_max (minute_of (c.0 -ℤ pos 1 +ℤ offset)) (greatest_minute c.1 cs i) else minute_of (i -ℤ pos 1 +ℤ offset)

-- the named ones of so many minutes after one
abbrev pub named_after : (ℤ → Bool) → ℤ → ℕ → List ℤ
named_after names after zero = []
named_after names after (suc n) = if names (after +ℤ pos (suc n)) then named_after names after n ++ (after +ℤ pos (suc n)) ∷ [] else named_after names after n

-- those that are started when the clock shows m, and has shown r
abbrev pub started : (ℤ → Bool) → Bool → ℤ → ℤ → List ℤ
started names starred r m = named_after names (due_after starred r m) (unsigned_abs (m -ℤ due_after starred r m))

-- those that are started at i
abbrev pub started_at : (ℤ → Bool) → Bool → ℤ → List (ℤ × ℤ) → ℤ → List ℤ
started_at names starred offset cs i =
    if int_eq (minute_of (clock_reads offset cs i)) (minute_of (clock_reads offset cs (i -ℤ pos 1))) then []
    else started names starred (greatest_minute offset cs i) (minute_of (clock_reads offset cs i))

named_is : (names : ℤ → Bool) (after : ℤ) (n : ℕ) (upto : ℤ) → upto ≡ after +ℤ pos n → AreNamed (λ k. names k ≡ true) after upto (named_after names after n)
named_is names after zero upto e = let same : after ≡ upto = omega (arith, ints) in subst (λ (u : ℤ). AreNamed (λ k. names k ≡ true) after u []) same (none_named (λ k. names k ≡ true) after)
named_is names after (suc n) upto e =
    let k : ℤ = after +ℤ pos (suc n) in
    let all = named_is names after n (after +ℤ pos n) refl in
    let same : k ≡ upto = omega (arith, ints) in
    let next : k ≡ after +ℤ pos n +ℤ pos 1 = omega (arith, ints) in
    subst (λ (u : ℤ). AreNamed (λ x. names x ≡ true) after u (named_after names after (suc n))) same
    (elim (names k) as (λ b. names k ≡ b → AreNamed (λ x. names x ≡ true) after k (if b then named_after names after n ++ k ∷ [] else named_after names after n)) [
      | true ↦ λ t. one_more (λ x. names x ≡ true) after (after +ℤ pos n) k (named_after names after n) (omega (arith, ints)) next t all
      | false ↦ λ t. none_more (λ x. names x ≡ true) after (after +ℤ pos n) k (named_after names after n) next (λ u. cc) all
    ] refl)

started_is : (names : ℤ → Bool) (starred : Bool) (r m : ℤ) → AreNamed (λ k. names k ≡ true) (due_after starred r m) m (started names starred r m)
started_is names starred r m =
    let le = due_order starred r m in
    named_is names (due_after starred r m) (unsigned_abs (m -ℤ due_after starred r m)) m (omega (arith, ints, le))

-- no minute before i is greater, and one of them, from an instant on, is as great
record IsGreatestFrom (reads : ℤ → ℤ) (low i r : ℤ) : Type 0 where
  pub shown : (j : ℤ) × (low ≤ℤ j) × (j <ℤ i) × (minute_of (reads j) ≡ r)
  pub greatest : (j : ℤ) → j <ℤ i → minute_of (reads j) ≤ℤ r

-- an instant lies before all changes
abbrev IsBelow : ℤ → List (ℤ × ℤ) → Type 0
IsBelow low [] = Unit {0}
IsBelow low (c ∷ cs) = low <ℤ c.0

below_next : (c : ℤ × ℤ) (cs : List (ℤ × ℤ)) → is_apart c cs ≡ true → IsBelow c.0 cs
below_next c [] h = tt
below_next c (d ∷ ds) h = omega (arith, ints, lt_of (c.0 +ℤ pos apart_limit) d.0 h)

some_below : (cs : List (ℤ × ℤ)) (i : ℤ) → (low : ℤ) × (low <ℤ i) × IsBelow low cs
some_below [] i = (i -ℤ pos 1, omega (arith, ints), tt)
some_below (c ∷ cs) i = by_lt_z c.0 i (λ lt. (c.0 -ℤ pos 1, omega (arith, ints), omega (arith, ints))) (λ le. (i -ℤ pos 1, omega (arith, ints), omega (arith, ints)))

-- where the clock goes straight on up to i
greatest_straight : (reads : ℤ → ℤ) (o low i : ℤ) → low <ℤ i → ((j : ℤ) → j <ℤ i → reads j ≡ j +ℤ o) → IsGreatestFrom reads low i (minute_of (i -ℤ pos 1 +ℤ o))
greatest_straight reads o low i lt line = record {
  shown = (i -ℤ pos 1, omega (arith, ints), omega (arith, ints), ap minute_of (line (i -ℤ pos 1) (omega (arith, ints))));
  greatest = λ j h. minute_rises (reads j) (i -ℤ pos 1 +ℤ o) (omega (arith, ints, line j h));
}

-- where it changes before i
greatest_over : (reads later : ℤ → ℤ) (o d low i r : ℤ) → low <ℤ d → ((j : ℤ) → j <ℤ d → reads j ≡ j +ℤ o) → ((j : ℤ) → d ≤ℤ j → reads j ≡ later j) → d <ℤ i
    → IsGreatestFrom later d i r → IsGreatestFrom reads low i (int_max (minute_of (d -ℤ pos 1 +ℤ o)) r)
greatest_over reads later o d low i r below before after lt rest = record {
  shown = by_lt_z r (minute_of (d -ℤ pos 1 +ℤ o))
      (λ less. (d -ℤ pos 1, omega (arith, ints), omega (arith, ints), ap minute_of (before (d -ℤ pos 1) (omega (arith, ints))) ∙ omega (arith, ints, int_max_is (minute_of (d -ℤ pos 1 +ℤ o)) r)))
      (λ more. let (j, on, up, is) = rest.shown in
      (j, omega (arith, ints), up, ap minute_of (after j on) ∙ is ∙ omega (arith, ints, int_max_is (minute_of (d -ℤ pos 1 +ℤ o)) r)));
  greatest = λ j h. by_lt_z j d
      (λ less. omega (arith, ints, int_max_is (minute_of (d -ℤ pos 1 +ℤ o)) r, minute_rises (reads j) (d -ℤ pos 1 +ℤ o) (omega (arith, ints, before j less))))
      (λ more. omega (arith, ints, int_max_is (minute_of (d -ℤ pos 1 +ℤ o)) r, rest.greatest j h, ap minute_of (after j more)));
}

greatest_from : (o : ℤ) (cs : List (ℤ × ℤ)) (low i : ℤ) → are_changes o cs ≡ true → low <ℤ i → IsBelow low cs → IsGreatestFrom (clock_reads o cs) low i (greatest_minute o cs i)
greatest_from o [] low i h lt below = greatest_straight (clock_reads o []) o low i lt (λ j k. refl)
greatest_from o (c ∷ cs) low i h lt below = elim (lt_tells c.0 i) [
  | inl over ↦
      let f = first_change o c cs h in
      rw over.0 (greatest_over (clock_reads o (c ∷ cs)) (clock_reads c.1 cs) o c.0 low i (greatest_minute c.1 cs i) below
      (λ j k. ap (λ (x : ℤ). j +ℤ x) (ahead o c cs j k)) (λ j k. ap (λ (x : ℤ). j +ℤ x) (passed o c cs j k)) over.1
      (greatest_from c.1 cs c.0 i f.rest over.1 (below_next c cs f.apart)))
  | inr not_yet ↦
      rw not_yet.0 (greatest_straight (clock_reads o (c ∷ cs)) o low i lt (λ j k. ap (λ (x : ℤ). j +ℤ x) (ahead o c cs j (omega (arith, ints, not_yet.1)))))
]

greatest_is : (o : ℤ) (cs : List (ℤ × ℤ)) (i : ℤ) → is_calm_table o cs ≡ true → IsGreatestBefore (clock o cs) i (greatest_minute o cs i)
unfolding clock
greatest_is o cs i h =
    let (low, lt, below) = some_below cs i in
    let g = greatest_from o cs low i (calm_parts o cs h).changes lt below in
    record { shown = (g.shown.0, g.shown.2, g.shown.3); greatest = g.greatest }

-- so many minutes on from one: the instants at which a job is started, and how many times
abbrev pub listed : (ℤ → Bool) → Bool → ℤ → List (ℤ × ℤ) → ℤ → ℕ → List (ℤ × ℕ)
listed names starred offset cs first zero = []
listed names starred offset cs first (suc n) =
    let i : ℤ = first +ℤ pos (60 * n) in
    let count = length (started_at names starred offset cs i) in
    if nat_eq count 0 then listed names starred offset cs first n else listed names starred offset cs first n ++ (i, count) ∷ []

-- the job whose minutes pass a test
abbrev pub job_by : (ℤ → Bool) → Bool → CronJob
job_by names starred = record { names = λ k. names k ≡ true; starred = starred }

-- on the clock of a table cron starts a job for these minutes at i, where the clock shows another minute than a second before
pub table_starts : (names : ℤ → Bool) (starred : Bool) (o : ℤ) (cs : List (ℤ × ℤ)) (i : ℤ) → is_calm_table o cs ≡ true
    → int_eq (minute_of (clock_reads o cs i)) (minute_of (clock_reads o cs (i -ℤ pos 1))) ≡ false → StartsFor (job_by names starred) (clock o cs) i (started_at names starred o cs i)
unfolding clock
table_starts names starred o cs i h other = record {
  turns = λ same. let t = (signed_Decides (minute_of (clock_reads o cs i)) (minute_of (clock_reads o cs (i -ℤ pos 1)))).1 same in cc;
  before = greatest_minute o cs i;
  greatest = greatest_is o cs i h;
  due = rw other (started_is names starred (greatest_minute o cs i) (minute_of (clock_reads o cs i)));
}

-- and for none where it shows the same
pub table_stays : (job : CronJob) (o : ℤ) (cs : List (ℤ × ℤ)) (i : ℤ) (minutes : List ℤ)
    → int_eq (minute_of (clock_reads o cs i)) (minute_of (clock_reads o cs (i -ℤ pos 1))) ≡ true → StartsFor job (clock o cs) i minutes → ⊥
unfolding clock
table_stays job o cs i minutes same starts = starts.turns ((signed_Decides (minute_of (clock_reads o cs i)) (minute_of (clock_reads o cs (i -ℤ pos 1)))).0 same)
