-- Tables over the 28 kinds of month.
use Rattle.std.proofs.Common.{◌≡◌, ℕ, zero, suc, ◌+◌, ◌-◌, ◌/◌, ◌<◌, ◌≤◌, Bool, true, false, not, ◌&&◌, eqb, ltb, refl, arith, sym, inl, inr, subst, ◌^◌, if◌then◌else◌, ◌==◌}
use Rattle.std.proofs.lemmas.Bool.Decides.{nat_tests}
use Rattle.std.proofs.lemmas.Bool.{and_parts, cases_eq, eqb-true}
use Rattle.croner_pattern.specs.Days.{weekday_of, is_nearest, is_last_weekday, is_last_day, is_last_working, occurrence, resolved_day}

-- each number of a range passes
abbrev pub all_from : ℕ → ℕ → (ℕ → Bool) → Bool
all_from a zero p = true
all_from a (suc n) p = p a && all_from (a + 1) n p

pub all_from-at : (a n : ℕ) (p : ℕ → Bool) (x : ℕ) → all_from a n p ≡ true → a ≤ x → x < a + n → p x ≡ true
all_from-at a zero p x h low high = absurd (omega arith)
all_from-at a (suc n) p x h low high =
    let both = and_parts (p a) (all_from (a + 1) n p) h in
    elim (cases_eq a x) [
      | inl e ↦ subst (λ y. p y ≡ true) e both.0
      | inr ne ↦ all_from-at (a + 1) n p x both.1 (omega arith) (omega arith)
    ]

abbrev pub same : Bool → Bool → Bool
same true b = b
same false b = not b

pub same-true : (a b : Bool) → same a b ≡ true → a ≡ b
same-true true true h = refl
same-true true false h = sym h
same-true false true h = h
same-true false false h = refl

abbrev nearest_agrees : ℕ → ℕ → ℕ → ℕ → Bool
nearest_agrees len first target day = same (is_nearest len first target day) (eqb day (resolved_day len (weekday_of first target) target))

nearest_table : all_from 28 4 (λ len. all_from 0 7 (λ first. all_from 1 len (λ target. all_from 1 len (nearest_agrees len first target)))) ≡ true
nearest_table = refl

pub nearest_is : (len first target day : ℕ) → 28 ≤ len → len ≤ 31 → first < 7 → 1 ≤ target → target ≤ len → 1 ≤ day → day ≤ len → is_nearest len first target day ≡ eqb day (resolved_day len (weekday_of first target) target)
nearest_is len first target day a b c d e f g =
    same-true _ _
    (all_from-at 1 len (nearest_agrees len first target) day
    (all_from-at 1 len (λ target. all_from 1 len (nearest_agrees len first target)) target
    (all_from-at 0 7 (λ first. all_from 1 len (λ target. all_from 1 len (nearest_agrees len first target))) first
    (all_from-at 28 4 (λ len. all_from 0 7 (λ first. all_from 1 len (λ target. all_from 1 len (nearest_agrees len first target)))) len nearest_table a (omega arith))
    (omega arith) (omega arith)) d (omega arith)) f (omega arith))

occurrence_table : all_from 1 31 (λ day. all_from 0 7 (λ first. eqb ((day - 1) / 7 + 1) (occurrence first day))) ≡ true
occurrence_table = refl

pub occurrence_is : (first day : ℕ) → first < 7 → 1 ≤ day → day ≤ 31 → (day - 1) / 7 + 1 ≡ occurrence first day
occurrence_is first day a b c =
    eqb-true _ _
    (all_from-at 0 7 (λ first. eqb ((day - 1) / 7 + 1) (occurrence first day)) first
    (all_from-at 1 31 (λ day. all_from 0 7 (λ first. eqb ((day - 1) / 7 + 1) (occurrence first day))) day occurrence_table b (omega arith)) (omega arith) (omega arith))

last_table : all_from 28 4 (λ len. all_from 1 len (λ day. all_from 0 7 (λ first. same (ltb len (day + 7)) (is_last_weekday len first day)))) ≡ true
last_table = refl

pub last_is : (len first day : ℕ) → 28 ≤ len → len ≤ 31 → 1 ≤ day → day ≤ len → first < 7 → ltb len (day + 7) ≡ is_last_weekday len first day
last_is len first day a b c d e =
    same-true _ _
    (all_from-at 0 7 (λ first. same (ltb len (day + 7)) (is_last_weekday len first day)) first
    (all_from-at 1 len (λ day. all_from 0 7 (λ first. same (ltb len (day + 7)) (is_last_weekday len first day))) day
    (all_from-at 28 4 (λ len. all_from 1 len (λ day. all_from 0 7 (λ first. same (ltb len (day + 7)) (is_last_weekday len first day)))) len last_table a (omega arith)) c (omega arith)) (omega arith) (omega arith))

-- the place of a day among the like weekdays, as a bit
pub nth_is : (first day k : ℕ) → first < 7 → 1 ≤ day → day ≤ 31 → (day - 1) / 7 ≡ k → 2 ^ (k + 1) ≡ 2 ^ (occurrence first day)
nth_is first day k a b c e = rw (sym (occurrence_is first day a b c), e) refl

-- the last Monday-to-Friday day of a month whose last day has this weekday
abbrev pub last_working_day : ℕ → ℕ → ℕ
last_working_day len weekday = if weekday == 6 then (len - 1) else (if weekday == 0 then (len - 2) else len)

abbrev working_agrees : ℕ → ℕ → ℕ → Bool
working_agrees len first day = same (eqb day (last_working_day len (weekday_of first len))) (is_last_working len first day)

working_table : all_from 28 4 (λ len. all_from 0 7 (λ first. all_from 1 len (working_agrees len first))) ≡ true
working_table = refl

pub working_is : (len first day : ℕ) → 28 ≤ len → len ≤ 31 → first < 7 → 1 ≤ day → day ≤ len → eqb day (last_working_day len (weekday_of first len)) ≡ is_last_working len first day
working_is len first day a b c d e =
    same-true _ _
    (all_from-at 1 len (working_agrees len first) day
    (all_from-at 0 7 (λ first. all_from 1 len (working_agrees len first)) first
    (all_from-at 28 4 (λ len. all_from 0 7 (λ first. all_from 1 len (working_agrees len first))) len working_table a (omega arith))
    (omega arith) (omega arith)) d (omega arith))

-- the day that a target goes to is at most two days off
pub resolved_near : (len w target : ℕ) → 28 ≤ len → 1 ≤ target → target ≤ len → (resolved_day len w target ≤ target + 2) × (target ≤ resolved_day len w target + 2)
resolved_near len w target a b c = (grind (arith, nat_tests), grind (arith, nat_tests))

-- no later day in the month: the day is its length
last_day_table : all_from 28 4 (λ len. all_from 1 len (λ day. same (eqb day len) (is_last_day len day))) ≡ true
last_day_table = refl

pub last_day_is : (len day : ℕ) → 28 ≤ len → len ≤ 31 → 1 ≤ day → day ≤ len → eqb day len ≡ is_last_day len day
last_day_is len day a b c d =
    same-true _ _
    (all_from-at 1 len (λ day. same (eqb day len) (is_last_day len day)) day
    (all_from-at 28 4 (λ len. all_from 1 len (λ day. same (eqb day len) (is_last_day len day))) len last_day_table a (omega arith)) c (omega arith))
