-- What the questions answer is what the schedule says, by counting.
use Rattle.std.proofs.Common.{◌≡◌, ℕ, zero, suc, ◌+◌, ◌-◌, ◌<◌, ◌≤◌, ◌⊎◌, Bool, true, false, not, ◌&&◌, ◌||◌, eqb, nat_lt, List, [], ◌∷◌, map, Option, Some, None, if◌then◌else◌, refl, ap, sym, ◌∙◌, arith, inl, inr}
use Rattle.std.specs.List.{list_any, range_with_len}
use Rattle.std.proofs.lemmas.Bool.{false≢true}
use Rattle.std.proofs.lemmas.Bool.Decides.{nat_tests}
use Rattle.croner_base.specs.Field.{Field, can_ask, is_marked}
use Rattle.croner_pattern.specs.Days.{weekday_of, occurrence, is_last_weekday, is_last_day, is_last_working, is_nearest, resolved_day}
use Rattle.croner_pattern.specs.Meaning.{Meaning}
use Rattle.croner_pattern.specs.Questions.{asked, and_test, first_yes, first_target, last_target, near_answer, near_answers, is_named_last, last_answer, day_answer, weekday_answer, both_answers, date_answer}
use Rattle.croner_pattern.specs.Schedule.{is_named, is_plain, names_last_day, names_last_working_day, bit_of_nth, is_near_target, is_day_side, is_weekday_side, are_joined, is_day_matching}
use Rattle.croner_pattern.proofs.days.DayTable.{nearest_is, resolved_near}
use Rattle.croner_pattern.proofs.questions.FieldShapes.{some-same, none-some}
use Rattle.croner_pattern.proofs.days.JoinedTests.{and_false, or_false}

-- a kind of month, and a day of it
pub record IsDayOfMonth (len first day : ℕ) : Type 0 where
  pub shortest : 28 ≤ len
  pub longest : len ≤ 31
  pub weekday : first < 7
  pub low : 1 ≤ day
  pub high : day ≤ len

clash : {P : Type 0} (b : Bool) → b ≡ true → b ≡ false → P
clash b hit miss = absurd (false≢true (sym miss ∙ hit))

le-cases : (a x : ℕ) → a ≤ x → (a < x) ⊎ (a ≡ x)
le-cases a x h = elim (nat_lt a x) as (λ b. nat_lt a x ≡ b → (a < x) ⊎ (a ≡ x)) [
  | true ↦ λ lt. inl (grind (arith, nat_tests))
  | false ↦ λ ge. inr (grind (arith, nat_tests))
] refl

past : (p : ℕ → Bool) (a x : ℕ) → a ≤ x → p a ≡ false → p x ≡ true → a + 1 ≤ x
past p a x low miss hit = elim (le-cases a x low) [
  | inl lt ↦ omega arith
  | inr e ↦ clash (p x) hit (ap p (sym e) ∙ miss)
]

-- one of the numbers of a range passes, or none
pub any-true : (p : ℕ → Bool) (a n x : ℕ) → a ≤ x → x < a + n → p x ≡ true → list_any p (range_with_len a n) ≡ true
any-true p a zero x low high h = absurd (omega arith)
any-true p a (suc n) x low high h =
    elim (p a) as (λ b. p a ≡ b → (b || list_any p (range_with_len (a + 1) n)) ≡ true) [
      | true ↦ λ _. refl
      | false ↦ λ miss. any-true p (a + 1) n x (past p a x low miss h) (omega arith) h
    ] refl

pub any-false : (p : ℕ → Bool) (a n : ℕ) → ((x : ℕ) → a ≤ x → x < a + n → p x ≡ false) → list_any p (range_with_len a n) ≡ false
any-false p a zero h = refl
any-false p a (suc n) h =
    rw (h a (omega arith) (omega arith)) (any-false p (a + 1) n (λ x low high. h x (omega arith) (omega arith)))

-- a first yes is the yes of one question, and a no is that of each
record AnswersYes (q : ℕ → Option Bool) (a n : ℕ) : Type 0 where
  value : ℕ
  low : a ≤ value
  high : value < a + n
  hit : q value ≡ Some true

first-some : (q : Option Bool) (more : List (Option Bool)) (b : Bool) → first_yes (q ∷ more) ≡ Some b → (q ≡ Some true) × (b ≡ true) ⊎ (q ≡ Some false) × (first_yes more ≡ Some b)
first-some None more b h = absurd (none-some b h)
first-some (Some true) more b h = inl (refl, sym (some-same true b h))
first-some (Some false) more b h = inr (refl, h)

yes-at : (q : ℕ → Option Bool) (a n : ℕ) → first_yes (map q (range_with_len a n)) ≡ Some true → AnswersYes q a n
yes-at q a zero h = clash true refl (sym (some-same false true h))
yes-at q a (suc n) h = elim (first-some (q a) (map q (range_with_len (a + 1) n)) true h) [
  | inl hit ↦ record { value = a; low = omega arith; high = omega arith; hit = hit.0 }
  | inr rest ↦ let r = yes-at q (a + 1) n rest.1 in record { value = r.value; low = omega (arith, r.low); high = omega (arith, r.high); hit = r.hit }
]

no-at : (q : ℕ → Option Bool) (a n : ℕ) → first_yes (map q (range_with_len a n)) ≡ Some false → (x : ℕ) → a ≤ x → x < a + n → q x ≡ Some false
no-at q a zero h x low high = absurd (omega arith)
no-at q a (suc n) h x low high = elim (first-some (q a) (map q (range_with_len (a + 1) n)) false h) [
  | inl hit ↦ clash true refl (sym hit.1)
  | inr rest ↦ elim (le-cases a x low) [
    | inl lt ↦ no-at q (a + 1) n rest.1 x (omega arith) (omega arith)
    | inr e ↦ ap q (sym e) ∙ rest.0
  ]
]

-- an answer is membership
named-of : (bits : ℕ) (f : Field) (v : ℕ) (b : Bool) → asked bits f v ≡ Some b → is_named bits f v ≡ b
named-of bits f v b h =
    elim (can_ask f.shape v bits) as (λ x. (if x then Some (is_marked bits f v) else None) ≡ Some b → (x && is_marked bits f v) ≡ b) [
      | true ↦ λ e. some-same (is_marked bits f v) b e
      | false ↦ λ e. absurd (none-some b e)
    ] h

tested-of : (bits : ℕ) (f : Field) (v : ℕ) (test b : Bool) → and_test test (asked bits f v) ≡ Some b → (is_named bits f v && test) ≡ b
tested-of bits f v test b h =
    elim (can_ask f.shape v bits) as (λ x. and_test test (if x then Some (is_marked bits f v) else None) ≡ Some b → ((x && is_marked bits f v) && test) ≡ b) [
      | true ↦ λ e. some-same (is_marked bits f v && test) b e
      | false ↦ λ e. absurd (none-some b e)
    ] h

apart : (day goal len target : ℕ) → (target < first_target day) ⊎ (last_target len day < target) → goal ≤ target + 2 → target ≤ goal + 2 → 1 ≤ target → target ≤ len → 1 ≤ day → day ≤ len → eqb day goal ≡ false
apart day goal len target (inl h) a b c d e f = grind (arith, nat_tests)
apart day goal len target (inr h) a b c d e f = grind (arith, nat_tests)

-- a target that is far from the day doesn't go there
far : (len first target day : ℕ) → IsDayOfMonth len first day → 1 ≤ target → target ≤ len → (target < first_target day) ⊎ (last_target len day < target) → is_nearest len first target day ≡ false
far len first target day k low high off =
    let near = resolved_near len (weekday_of first target) target k.shortest low high in
    nearest_is len first target day k.shortest k.longest k.weekday low high k.low k.high
    ∙ apart day (resolved_day len (weekday_of first target) target) len target off near.0 near.1 low high k.low k.high

abbrev is_target : Field → ℕ → ℕ → ℕ → ℕ → Bool
is_target days len first day target = is_named 128 days target && is_nearest len first target day

pub first_low : (day value : ℕ) → first_target day ≤ value → 1 ≤ value
first_low day value h = grind (arith, nat_tests)

pub last_high : (len day value : ℕ) → day ≤ len → first_target day ≤ value → value < first_target day + ((last_target len day + 1) - first_target day) → value < 1 + len
last_high len day value d low h = grind (arith, nat_tests)

place : (low high x : ℕ) → ((low ≤ x) × (x ≤ high)) ⊎ ((x < low) ⊎ (high < x))
place low high x = elim (nat_lt x low) as (λ b. nat_lt x low ≡ b → ((low ≤ x) × (x ≤ high)) ⊎ ((x < low) ⊎ (high < x))) [
  | true ↦ λ lt. inr (inl (grind (arith, nat_tests)))
  | false ↦ λ ge. elim (nat_lt high x) as (λ b. nat_lt high x ≡ b → ((low ≤ x) × (x ≤ high)) ⊎ ((x < low) ⊎ (high < x))) [
    | true ↦ λ lt. inr (inr (grind (arith, nat_tests)))
    | false ↦ λ le. inl ((grind (arith, nat_tests), grind (arith, nat_tests)))
  ] refl
] refl

misses : (days : Field) (len first day : ℕ) → IsDayOfMonth len first day → near_answers days len first day ≡ Some false → (x : ℕ) → 1 ≤ x → x < 1 + len → is_target days len first day x ≡ false
misses days len first day k h x low high = elim (place (first_target day) (last_target len day) x) [
  | inl inside ↦ tested-of 128 days x (is_nearest len first x day) false (no-at (near_answer days len first day) (first_target day) ((last_target len day + 1) - first_target day) h x inside.0 (omega (arith, inside.0, inside.1)))
  | inr outside ↦ rw (far len first x day k low (omega arith) outside) (and_false (is_named 128 days x))
]

pub near_is : (days : Field) (len first day : ℕ) (b : Bool) → IsDayOfMonth len first day → near_answers days len first day ≡ Some b → b ≡ is_near_target days len first day
near_is days len first day true k h =
    let at = yes-at (near_answer days len first day) (first_target day) ((last_target len day + 1) - first_target day) h in
    let low : 1 ≤ at.value = first_low day at.value at.low in
    let high : at.value < 1 + len = last_high len day at.value k.high at.low at.high in
    sym (any-true (is_target days len first day) 1 len at.value low high (tested-of 128 days at.value (is_nearest len first at.value day) true at.hit))
near_is days len first day false k h =
    sym (any-false (is_target days len first day) 1 len (λ x low high. misses days len first day k h x low high))

-- three questions in turn say yes where one of them does
three : (a b c : Option Bool) (x y z : Bool) (r : Bool) → ((v : Bool) → a ≡ Some v → x ≡ v) → ((v : Bool) → b ≡ Some v → y ≡ v) → ((v : Bool) → c ≡ Some v → z ≡ v) → first_yes (a ∷ b ∷ c ∷ []) ≡ Some r → r ≡ (x || (y || z))
three None b c x y z r fa fb fc h = absurd (none-some r h)
three (Some true) b c x y z r fa fb fc h = rw (fa true refl) (sym (some-same true r h))
three (Some false) None c x y z r fa fb fc h = absurd (none-some r h)
three (Some false) (Some true) c x y z r fa fb fc h = rw (fa false refl, fb true refl) (sym (some-same true r h))
three (Some false) (Some false) None x y z r fa fb fc h = absurd (none-some r h)
three (Some false) (Some false) (Some true) x y z r fa fb fc h = rw (fa false refl, fb false refl, fc true refl) (sym (some-same true r h))
three (Some false) (Some false) (Some false) x y z r fa fb fc h = rw (fa false refl, fb false refl, fc false refl) (sym (some-same false r h))

or_assoc : (a b c d : Bool) → (a || ((b || c) || d)) ≡ (a || (b || (c || d)))
or_assoc true b c d = refl
or_assoc false true c d = refl
or_assoc false false c d = refl

or_swap : (a b c : Bool) → (a || (b || c)) ≡ (c || (a || b))
or_swap true true true = refl
or_swap true true false = refl
or_swap true false true = refl
or_swap true false false = refl
or_swap false true true = refl
or_swap false true false = refl
or_swap false false true = refl
or_swap false false false = refl

pub day_is : (days : Field) (len first day : ℕ) (r : Bool) → IsDayOfMonth len first day → day_answer days len first day ≡ Some r → r ≡ is_day_side days len first day
day_is days len first day r k h =
    three (asked 1 days day) (Some (is_named_last days len first day)) (near_answers days len first day) (is_plain days day) (is_named_last days len first day) (is_near_target days len first day) r
    (λ v e. named-of 1 days day v e) (λ v e. some-same _ _ e) (λ v e. sym (near_is days len first day v k e)) h
    ∙ or_assoc (is_plain days day) (names_last_day days && is_last_day len day) (names_last_working_day days && is_last_working len first day) (is_near_target days len first day)

pub weekday_is : (weekdays : Field) (len first day : ℕ) (r : Bool) → weekday_answer weekdays len first day ≡ Some r → r ≡ is_weekday_side weekdays len first day
weekday_is weekdays len first day r h =
    let w = weekday_of first day in
    let nth = bit_of_nth (occurrence first day) in
    three (asked nth weekdays w) (last_answer weekdays len first day) (asked 1 weekdays w) (is_named nth weekdays w) (is_named 64 weekdays w && is_last_weekday len first day) (is_plain weekdays w) r
    (λ v e. named-of nth weekdays w v e) (λ v e. tested-of 64 weekdays w (is_last_weekday len first day) v e) (λ v e. named-of 1 weekdays w v e) h
    ∙ or_swap (is_named nth weekdays w) (is_named 64 weekdays w && is_last_weekday len first day) (is_plain weekdays w)

both : (join : Bool → Bool → Bool) (a b : Option Bool) (x y r : Bool) → ((v : Bool) → a ≡ Some v → v ≡ x) → ((v : Bool) → b ≡ Some v → v ≡ y) → both_answers join a b ≡ Some r → r ≡ join x y
both join None b x y r fa fb h = absurd (none-some r h)
both join (Some d) None x y r fa fb h = absurd (none-some r h)
both join (Some d) (Some w) x y r fa fb h = rw (sym (fa d refl), sym (fb w refl)) (sym (some-same (join d w) r h))

pub date_is : (m : Meaning) (len first day : ℕ) (r : Bool) → IsDayOfMonth len first day → date_answer m len first day ≡ Some r → r ≡ is_day_matching m len first day
date_is m len first day r k h =
    both (are_joined m.star_day m.star_weekday m.and) (day_answer m.days len first day) (weekday_answer m.days_of_week len first day) (is_day_side m.days len first day) (is_weekday_side m.days_of_week len first day) r
    (λ v e. day_is m.days len first day v k e) (λ v e. weekday_is m.days_of_week len first day v e) h

-- where `LW` isn't named, the last day alone is
pub last_alone : (last also b working : Bool) → last ≡ true → also ≡ false → b ≡ (((last && not also) && b) || ((last && also) && working))
last_alone last also b working l n = rw (l, n) (sym (or_false b))
