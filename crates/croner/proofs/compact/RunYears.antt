-- The years of one run.
use Rattle.std.proofs.Common.{◌≡◌, ℕ, ◌+◌, ◌-◌, ◌<◌, ◌≤◌, Bool, true, false, ◌&&◌, nat_le, max, min, Option, Some, None, if◌then◌else◌, length, refl, ap, sym, ◌∙◌, arith, inl, inr, ℤ, pos, int_le, unsigned_abs}
use Rattle.std.specs.Int.{IsInRange}
use Rattle.std.proofs.lemmas.Bool.{and_parts, cases_Bool, cases_lt, false≢true}
use Rattle.std.proofs.lemmas.Bool.Decides.{nat_tests}
use Rattle.jiff_core.proofs.SignedLemmas.{signed_arith}
use Rattle.croner_base.specs.declared.time.Direction.TheVariants.{Forward, Backward}
use Rattle.croner_base.specs.Field.{Field, has_all, has_any, can_ask, is_marked, marked_values}
use Rattle.croner_base.specs.Marks.{HasNoPlainFrom, HasNoPlainTo, IsLeastPlainValue, IsGreatestPlainValue}
use Rattle.croner_pattern.specs.Questions.{IsNearestMember}
use Rattle.croner_pattern.specs.Meaning.{Meaning}
use Rattle.croner_pattern.specs.Schedule.{is_plain, is_year_matching}
use Rattle.croner_pattern.specs.Shapes.{is_like, year_shape}
use Rattle.croner_pattern.proofs.questions.FieldShapes.{like_shape, can_ask-alike}
use Rattle.croner.specs.compact.WordFields.{field_of, run_sum}
use Rattle.croner.specs.compact.YearRuns.{IsRun, IsOneRun}
use Rattle.croner.proofs.compact.RunCounts.{passing, between, each_passes, all_pass, none_pass}
use Rattle.croner.proofs.compact.WordMarks.{asked_room, marks_at}

-- a year that can be asked for
year_asked : (y : ℕ) → can_ask year_shape y 1 ≡ (nat_le 1 y && nat_le y 5000)
year_asked y = elim (cases_Bool (nat_le 1 y && nat_le y 5000)) [ inl e ↦ rw e refl | inr e ↦ rw e refl ]

within : (a b y : ℕ) → (nat_le a y && nat_le y b) ≡ true → IsInRange a b y
within a b y h = grind (arith, nat_tests)

inside : (a b y : ℕ) → a ≤ y → y ≤ b → (nat_le a y && nat_le y b) ≡ true
inside a b y low high = grind (arith, nat_tests)

run_any : (b : Bool) → has_any (if b then 1 else 0) 1 ≡ b
run_any true = refl
run_any false = refl

-- the years of a run
pub run_plain : (first last y : ℕ) → is_plain (field_of year_shape false (run_sum first last)) y ≡ ((nat_le 1 y && nat_le y 5000) && (nat_le first y && nat_le y last))
run_plain first last y = elim (cases_Bool (nat_le 1 y && nat_le y 5000)) [
  | inl e ↦
      let asks : can_ask year_shape y 1 ≡ true = year_asked y ∙ e in
      let marked : is_marked 1 (field_of year_shape false (run_sum first last)) y ≡ (nat_le first y && nat_le y last) =
      marks_at year_shape false (run_sum first last) 1 y (asked_room year_shape y 1 asks) ∙ run_any (nat_le first y && nat_le y last) in
      (λ i. year_asked y i && marked i)
  | inr e ↦ let asks : can_ask year_shape y 1 ≡ false = year_asked y ∙ e in rw (asks, e) refl
]

pub run_names : (first last y : ℕ) → IsInRange 1 5000 y → (nat_le first y && nat_le y last) ≡ is_plain (field_of year_shape false (run_sum first last)) y
run_names first last y h = let in_years = inside 1 5000 y h.0 h.1 in sym (run_plain first last y ∙ rw in_years refl)

-- a year of a run lies in it
run_within : (first last y : ℕ) → is_plain (field_of year_shape false (run_sum first last)) y ≡ true → IsInRange first last y
run_within first last y h =
    within first last y ((and_parts (nat_le 1 y && nat_le y 5000) (nat_le first y && nat_le y last) (sym (run_plain first last y) ∙ h)).1)

-- and a year in the run is one of it
run_has : (first last y : ℕ) → 1 ≤ first → last ≤ 5000 → IsInRange first last y → is_plain (field_of year_shape false (run_sum first last)) y ≡ true
run_has first last y low high h =
    let a = inside 1 5000 y (omega (arith, low, h.0)) (omega (arith, high, h.1)) in
    let b = inside first last y h.0 h.1 in
    run_plain first last y ∙ rw (a, b) refl

-- the nearest year of a run
abbrev in_run : ℕ → ℕ → ℕ → Option ℕ
in_run first last n = if nat_le first n && nat_le n last then Some n else None

pub run_forward : (first last y : ℕ) → 1 ≤ first → last ≤ 5000 → IsNearestMember Forward (field_of year_shape false (run_sum first last)) y (in_run first last (max y first))
run_forward first last y low high = elim (cases_Bool (nat_le first (max y first) && nat_le (max y first) last)) [
  | inl e ↦ rw e (record {
    on = omega (arith, signed_arith);
    is = run_has first last (max y first) low high (within first last (max y first) e);
    first = λ v on p. let h = run_within first last v p in omega (arith, signed_arith, on, h.0);
  })
  | inr e ↦ rw e (λ v on p.
      let h = run_within first last v p in
      false≢true (sym e ∙ inside first last (max y first) (omega arith) (omega (arith, signed_arith, on, h.0, h.1))))
]

pub run_backward : (first last y : ℕ) → 1 ≤ first → last ≤ 5000 → IsNearestMember Backward (field_of year_shape false (run_sum first last)) y (in_run first last (min y last))
run_backward first last y low high = elim (cases_Bool (nat_le first (min y last) && nat_le (min y last) last)) [
  | inl e ↦ rw e (record {
    on = omega (arith, signed_arith);
    is = run_has first last (min y last) low high (within first last (min y last) e);
    first = λ v on p. let h = run_within first last v p in omega (arith, signed_arith, on, h.1);
  })
  | inr e ↦ rw e (λ v on p.
      let h = run_within first last v p in
      false≢true (sym e ∙ inside first last (min y last) (omega (arith, signed_arith, on, h.0, h.1)) (omega arith)))
]

-- ---- from a field to its run

-- a year that a field names lies in the years of a pattern
named_year : (f : Field) (y : ℕ) → is_like f.shape year_shape ≡ true → is_plain f y ≡ true → IsInRange 1 5000 y
named_year f y h p =
    let asks = (and_parts (can_ask f.shape y 1) (is_marked 1 f y) p).0 in
    within 1 5000 y (sym (year_asked y) ∙ sym (can_ask-alike f.shape year_shape y 1 (like_shape f.shape year_shape h)) ∙ asks)

pub named_between : (f : Field) (first last y : ℕ) → is_like f.shape year_shape ≡ true → IsLeastPlainValue f 1 first → IsGreatestPlainValue f 5000 last → is_plain f y ≡ true → IsInRange first last y
named_between f first last y h least greatest p =
    let r = named_year f y h p in
    (least.first y r.0 p, greatest.last y r.1 p)

pub none_from : (f : Field) (y : ℕ) → is_like f.shape year_shape ≡ true → HasNoPlainFrom f 1 → is_plain f y ≡ true → ⊥
none_from f y h none p = let r = named_year f y h p in false≢true (sym (none y r.0) ∙ p)

pub none_to : (f : Field) (y : ℕ) → is_like f.shape year_shape ≡ true → HasNoPlainTo f 5000 → is_plain f y ≡ true → ⊥
none_to f y h none p = let r = named_year f y h p in false≢true (sym (none y r.1) ∙ p)

-- a field whose years are a run names the years of the run
pub same_run : (f : Field) (first last : ℕ) → is_like f.shape year_shape ≡ true → 1 ≤ first → last ≤ 5000
    → IsRun f first last → (y : ℕ) → is_plain (field_of year_shape false (run_sum first last)) y ≡ is_plain f y
same_run f first last h low high is y = elim (cases_Bool (is_plain f y)) [
  | inl e ↦ run_has first last y low high ((is y).0 e) ∙ sym e
  | inr e ↦ elim (cases_Bool (is_plain (field_of year_shape false (run_sum first last)) y)) [
    | inl r ↦ absurd (false≢true (sym e ∙ (is y).1 (run_within first last y r)))
    | inr r ↦ r ∙ sym e
  ]
]

-- ---- whether the years of a field are a run, by their number

-- a year that a pattern can name is named where it is marked
marked_year : (f : Field) (y : ℕ) → is_like f.shape year_shape ≡ true → IsInRange 1 5000 y → is_plain f y ≡ is_marked 1 f y
marked_year f y h r =
    let asks : can_ask f.shape y 1 ≡ true = can_ask-alike f.shape year_shape y 1 (like_shape f.shape year_shape h) ∙ year_asked y ∙ inside 1 5000 y r.0 r.1 in
    rw asks refl

-- as many values are listed as are marked from 1 to the greatest
counted_to : (f : Field) (top : ℕ) → f.shape.min ≡ 1 → f.shape.max ≡ top → has_all f.shape.supported 1 ≡ true
    → length (marked_values 1 f) ≡ passing (is_marked 1 f) 1 top
counted_to f top least greatest given =
    let size : (top + 1) - 1 ≡ top = omega arith in
    rw (given, least, greatest, size) refl

years_counted : (f : Field) → is_like f.shape year_shape ≡ true → length (marked_values 1 f) ≡ passing (is_marked 1 f) 1 5000
years_counted f h =
    let shape = like_shape f.shape year_shape h in
    counted_to f 5000 shape.min shape.max (ap (λ n. has_all n 1) shape.supported)

module _ (f : Field) (first last : ℕ) (h : is_like f.shape year_shape ≡ true) (low : 1 ≤ first) (high : last ≤ 5000)
    (within_run : (y : ℕ) → is_plain f y ≡ true → IsInRange first last y) where
  counted : first ≤ last → length (marked_values 1 f) ≡ passing (is_marked 1 f) first ((last + 1) - first)
  counted order =
      years_counted f h
      ∙ between (is_marked 1 f) first last 5000 low order high (λ v from upto marked. within_run v (marked_year f v h (from, upto) ∙ marked))

  -- where as many are named as the run has, the years are the run
  pub run_by_count : length (marked_values 1 f) ≡ (last + 1) - first → IsRun f first last
  run_by_count count y = (
    within_run y,
    λ r.
        let order : first ≤ last = omega (arith, r.0, r.1) in
        let full = sym (counted order) ∙ count in
        marked_year f y h (omega (arith, low, r.0), omega (arith, high, r.1))
        ∙ each_passes (is_marked 1 f) ((last + 1) - first) first full y r.0 (omega (arith, r.1, order)),
  )

  -- and where not, they are none
  pub no_run_by_count : (first ≤ last → (is_plain f first ≡ true) × (is_plain f last ≡ true)) → ¬ (length (marked_values 1 f) ≡ (last + 1) - first)
      → IsOneRun f → ⊥
  no_run_by_count ends apart one = elim (cases_lt last first) [
    | inl none ↦
        let size : (last + 1) - first ≡ 0 = omega (arith, none) in
        let out : (y : ℕ) → 1 ≤ y → y < 1 + 5000 → is_marked 1 f y ≡ false =
        λ y from upto. elim (cases_Bool (is_marked 1 f y)) [
          | inl marked ↦ let r = within_run y (marked_year f y h (from, omega (arith, upto)) ∙ marked) in absurd (omega (arith, none, r.0, r.1))
          | inr left ↦ left
        ] in
        apart (years_counted f h ∙ none_pass (is_marked 1 f) 5000 1 out ∙ sym size)
    | inr order ↦
        let named = ends order in
        let begin = (one.1.1 first).0 named.0 in
        let end = (one.1.1 last).0 named.1 in
        let all : (y : ℕ) → first ≤ y → y < first + ((last + 1) - first) → is_marked 1 f y ≡ true =
        λ y from upto.
        let upto_last : y ≤ last = omega (arith, upto, order) in
        sym (marked_year f y h (omega (arith, low, from), omega (arith, high, upto_last)))
        ∙ (one.1.1 y).1 (omega (arith, begin.0, from), omega (arith, end.1, upto_last)) in
        apart (counted order ∙ all_pass (is_marked 1 f) ((last + 1) - first) first all)
  ]

-- ---- years by their numbers

inside_int : (a b : ℕ) → a ≤ b → int_le (pos a) (pos b) ≡ true
inside_int a b h = grind (arith, nat_tests, signed_arith)

pub matching_inside : (m : Meaning) (n : ℕ) → IsInRange 1 5000 n → is_year_matching m (pos n) ≡ is_plain m.years n
matching_inside m n h =
    let low : int_le (pos 1) (pos n) ≡ true = inside_int 1 n h.0 in
    let high : int_le (pos n) (pos 5000) ≡ true = inside_int n 5000 h.1 in
    (λ i. (low i && high i) && is_plain m.years n)

pub matching_outside : (m : Meaning) (y : ℤ) → (int_le (pos 1) y && int_le y (pos 5000)) ≡ false → is_year_matching m y ≡ false
matching_outside m y h = (λ i. h i && is_plain m.years (unsigned_abs y))
