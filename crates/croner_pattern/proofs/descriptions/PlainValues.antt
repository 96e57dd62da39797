-- Tests of a field by counting and by its first value.
use Rattle.std.proofs.Common.{◌≡◌, ℕ, zero, suc, ◌+◌, ◌-◌, ◌<◌, ◌≤◌, Bool, true, false, not, cond, ◌&&◌, eqb, leb, List, [], length, get_or, refl, ap, sym, ◌∙◌, arith, inl, inr}
use Rattle.std.specs.List.{filter, list_all, range_with_len}
use Rattle.std.proofs.lemmas.Bool.{and_parts, cases_Bool, cases_eq}
use Rattle.std.proofs.lemmas.Bool.Decides.{nat_tests}
use Rattle.std.proofs.lemmas.List.{get_or_past}
use Rattle.croner_base.specs.Field.{Field, has_all, has_any, is_in_bounds, is_marked, room, values_between}
use Rattle.croner_base.specs.Marks.{IsWellFormed, HasNoPlainFrom, IsLeastPlainValue}
use Rattle.croner_pattern.specs.Schedule.{is_plain}
use Rattle.croner_pattern.specs.Description.{plain_values, first_value, begins_with}

-- values from a place on don't begin with an earlier one
later : (p : ℕ → Bool) (n a value : ℕ) → value < a → begins_with value (filter p (range_with_len a n)) ≡ false
later p zero a value h = refl
later p (suc n) a value h =
    elim (cases_Bool (p a)) [
      | inl hit ↦ let other : eqb a value ≡ false = grind (arith, nat_tests) in rw (hit, other) refl
      | inr miss ↦ rw miss (later p n (a + 1) value (omega arith))
    ]

same : (a : ℕ) → eqb a a ≡ true
same a = grind (arith, nat_tests)

at_least : (p : ℕ → Bool) (n a : ℕ) → begins_with a (filter p (range_with_len a (suc n))) ≡ p a
at_least p n a =
    elim (cases_Bool (p a)) [
      | inl hit ↦ let e = same a in rw (hit, e) refl
      | inr miss ↦ rw miss (later p n (a + 1) a (omega arith))
    ]

-- the first value of a list that is empty where the modifiers aren't supported
where_supported : (b : Bool) (xs : List ℕ) (value : ℕ) (q : Bool) → (b ≡ true → begins_with value xs ≡ q) → (b ≡ false → q ≡ false) → begins_with value (cond b xs []) ≡ q
where_supported true xs value q e h = e refl
where_supported false xs value q e h = sym (h refl)

unsupported : (a b c d : Bool) → b ≡ false → (((a && b) && c) && d) ≡ false
unsupported true b c d h = rw h refl
unsupported false b c d h = refl

-- where a field has a greatest value above 0, a plain value is a marked one
plain-marked : (f : Field) (value : ℕ) → f.shape.min ≤ value → value ≤ f.shape.max → has_all f.shape.supported 1 ≡ true → eqb f.shape.max 0 ≡ false → is_plain f value ≡ is_marked 1 f value
plain-marked f value low high given some =
    let a : leb f.shape.min value ≡ true = grind (arith, nat_tests) in
    let b : leb value f.shape.max ≡ true = grind (arith, nat_tests) in
    rw (a, b, given, some) refl

-- and one whose greatest value is 0 has no mark
no_mark : (f : Field) → IsWellFormed f → f.shape.max ≡ 0 → (value : ℕ) → is_marked 1 f value ≡ false
no_mark f w h value =
    let none : length f.marks ≡ 0 = w.room ∙ ap room h in
    let past : get_or f.marks value 0 ≡ 0 = get_or_past f.marks value 0 (omega (arith, none)) in
    ap (λ sum. has_any sum 1) past

barred : (a b c d : Bool) → c ≡ true → (((a && b) && not c) && d) ≡ false
barred true true c d h = rw h refl
barred true false c d h = refl
barred false b c d h = refl

no_plain : (f : Field) → f.shape.max ≡ 0 → (value : ℕ) → is_plain f value ≡ false
no_plain f h value = barred (is_in_bounds f.shape value) (has_all f.shape.supported 1) (eqb f.shape.max 0) (is_marked 1 f value) (ap (λ n. eqb n 0) h)

-- the same in each case
pub plain_is_marked : (f : Field) (value : ℕ) → IsWellFormed f → f.shape.min ≤ value → value ≤ f.shape.max → has_all f.shape.supported 1 ≡ true → is_plain f value ≡ is_marked 1 f value
plain_is_marked f value w low high given =
    elim (cases_eq f.shape.max 0) [
      | inl none ↦ no_plain f none value ∙ sym (no_mark f w none value)
      | inr some ↦ plain-marked f value low high given (grind (arith, nat_tests, some))
    ]

not_plain : (f : Field) (value : ℕ) → has_all f.shape.supported 1 ≡ false → is_plain f value ≡ false
not_plain f value lacking = unsupported (is_in_bounds f.shape value) (has_all f.shape.supported 1) (not (eqb f.shape.max 0)) (is_marked 1 f value) lacking

-- the range of a field begins with its least value
range_begins : (a b : ℕ) → a ≤ b → values_between a b ≡ range_with_len a (suc (b - a))
range_begins a b h = let n : (b + 1) - a ≡ suc (b - a) = omega arith in rw n refl

-- the first plain value is the least value where that is plain
pub begins_at_least : (f : Field) → IsWellFormed f → is_plain f f.shape.min ≡ begins_with f.shape.min (plain_values f)
begins_at_least f w =
    let o = w.ordered in
    sym (where_supported (has_all f.shape.supported 1) (filter (is_marked 1 f) (values_between f.shape.min f.shape.max)) f.shape.min (is_plain f f.shape.min)
    (λ given.
    ap (λ xs. begins_with f.shape.min (filter (is_marked 1 f) xs)) (range_begins f.shape.min f.shape.max o)
    ∙ at_least (is_marked 1 f) (f.shape.max - f.shape.min) f.shape.min
    ∙ sym (plain_is_marked f f.shape.min w (omega arith) o given))
    (λ lacking. not_plain f f.shape.min lacking))

-- a field whose greatest value is 0 begins with none
pub begins_with_none : (f : Field) → IsWellFormed f → f.shape.max ≡ 0 → begins_with f.shape.min (plain_values f) ≡ false
begins_with_none f w h = sym (begins_at_least f w) ∙ no_plain f h f.shape.min

-- and one whose least value is above 0 doesn't begin with 0
pub not_with_zero : (f : Field) → 0 < f.shape.min → begins_with 0 (plain_values f) ≡ false
not_with_zero f h =
    elim (cases_Bool (has_all f.shape.supported 1)) [
      | inl given ↦ rw given (later (is_marked 1 f) ((f.shape.max + 1) - f.shape.min) f.shape.min 0 h)
      | inr lacking ↦ rw lacking refl
    ]

-- each value passes where as many pass as there are
kept_at_most : (p : ℕ → Bool) (n a : ℕ) → length (filter p (range_with_len a n)) ≤ n
kept_at_most p zero a = omega arith
kept_at_most p (suc n) a =
    let h = kept_at_most p n (a + 1) in
    elim (cases_Bool (p a)) [
      | inl hit ↦ rw hit (omega (arith, h))
      | inr miss ↦ rw miss (omega (arith, h))
    ]

one_more : (k n : ℕ) → eqb (suc k) (suc n) ≡ eqb k n
one_more k n = grind (arith, nat_tests)

pub all_kept : (p q : ℕ → Bool) (n a : ℕ) → ((value : ℕ) → a ≤ value → value < a + n → q value ≡ p value)
    → eqb (length (filter p (range_with_len a n))) n ≡ list_all q (range_with_len a n)
all_kept p q zero a same_as = refl
all_kept p q (suc n) a same_as =
    let here = same_as a (omega arith) (omega arith) in
    let more = all_kept p q n (a + 1) (λ value low high. same_as value (omega (arith, low)) (omega (arith, high))) in
    elim (cases_Bool (p a)) [
      | inl hit ↦ let kept : q a ≡ true = here ∙ hit in rw (hit, kept) (one_more (length (filter p (range_with_len (a + 1) n))) n ∙ more)
      | inr miss ↦
          let left : q a ≡ false = here ∙ miss in
          let few = kept_at_most p n (a + 1) in
          rw (miss, left) (grind (arith, nat_tests, few))
    ]

-- each value of a field is plain where as many are marked as it may hold
pub all_by_count : (f : Field) → IsWellFormed f → eqb (length (plain_values f)) ((f.shape.max - f.shape.min) + 1) ≡ list_all (is_plain f) (values_between f.shape.min f.shape.max)
all_by_count f w =
    let o = w.ordered in
    let n : (f.shape.max - f.shape.min) + 1 ≡ (f.shape.max + 1) - f.shape.min = omega (arith, o) in
    elim (cases_Bool (has_all f.shape.supported 1)) [
      | inl given ↦
          rw (given, n) (all_kept (is_marked 1 f) (is_plain f) ((f.shape.max + 1) - f.shape.min) f.shape.min
          (λ value low high. plain_is_marked f value w low (omega (arith, high, o)) given))
      | inr lacking ↦
          let other : eqb 0 ((f.shape.max - f.shape.min) + 1) ≡ false = grind (arith, nat_tests) in
          let none = not_plain f f.shape.min lacking in
          rw (lacking, other) (sym (ap (list_all (is_plain f)) (range_begins f.shape.min f.shape.max o) ∙ rw none refl))
    ]

-- the first of the values that pass, and none
first_kept : (p : ℕ → Bool) (n a v : ℕ) → a ≤ v → v < a + n → p v ≡ true → ((x : ℕ) → a ≤ x → x < v → p x ≡ false) → get_or (filter p (range_with_len a n)) 0 0 ≡ v
first_kept p zero a v low high hit before = absurd (omega arith)
first_kept p (suc n) a v low high hit before =
    elim (cases_eq a v) [
      | inl e ↦ let here : p a ≡ true = ap p e ∙ hit in rw here e
      | inr ne ↦
          let here : p a ≡ false = before a (omega arith) (omega arith) in
          rw here (first_kept p n (a + 1) v (omega arith) (omega arith) hit (λ x from to. before x (omega arith) to))
    ]

none_kept : (p : ℕ → Bool) (n a : ℕ) → ((x : ℕ) → a ≤ x → x < a + n → p x ≡ false) → get_or (filter p (range_with_len a n)) 0 0 ≡ 0
none_kept p zero a h = refl
none_kept p (suc n) a h = let here = h a (omega arith) (omega arith) in rw here (none_kept p n (a + 1) (λ x low high. h x (omega arith) (omega arith)))

pub first_is : (f : Field) (v : ℕ) → eqb f.shape.max 0 ≡ false → IsLeastPlainValue f 0 v → first_value f ≡ v
first_is f v some l =
    let able = and_parts ((is_in_bounds f.shape v && has_all f.shape.supported 1) && not (eqb f.shape.max 0)) (is_marked 1 f v) l.plain in
    let held = and_parts (is_in_bounds f.shape v && has_all f.shape.supported 1) (not (eqb f.shape.max 0)) able.0 in
    let bounds = and_parts (is_in_bounds f.shape v) (has_all f.shape.supported 1) held.0 in
    let ends = and_parts (leb f.shape.min v) (leb v f.shape.max) bounds.0 in
    let given = bounds.1 in
    let low : f.shape.min ≤ v = (let h = ends.0 in grind (arith, nat_tests)) in
    let high : v ≤ f.shape.max = (let h = ends.1 in grind (arith, nat_tests)) in
    rw given (first_kept (is_marked 1 f) ((f.shape.max + 1) - f.shape.min) f.shape.min v low (omega arith) able.1
    (λ x from to.
    elim (cases_Bool (is_marked 1 f x)) [
      | inl hit ↦ absurd (let less = l.first x (omega arith) (plain-marked f x from (omega arith) given some ∙ hit) in omega arith)
      | inr miss ↦ miss
    ]))

pub first_of_none : (f : Field) → eqb f.shape.max 0 ≡ false → HasNoPlainFrom f 0 → first_value f ≡ 0
first_of_none f some h =
    elim (cases_Bool (has_all f.shape.supported 1)) [
      | inl given ↦ rw given (none_kept (is_marked 1 f) ((f.shape.max + 1) - f.shape.min) f.shape.min (λ x low high. sym (plain-marked f x low (omega arith) given some) ∙ h x (omega arith)))
      | inr lacking ↦ rw lacking refl
    ]

-- a field whose greatest value is 0 has none
pub first_of_zero : (f : Field) → IsWellFormed f → f.shape.max ≡ 0 → first_value f ≡ 0
first_of_zero f w h =
    elim (cases_Bool (has_all f.shape.supported 1)) [
      | inl given ↦ rw given (none_kept (is_marked 1 f) ((f.shape.max + 1) - f.shape.min) f.shape.min (λ x _ _. no_mark f w h x))
      | inr lacking ↦ rw lacking refl
    ]
