-- Jobs that are equal differ in their texts at most, and what does not look at the text is the same of both.
use Rattle.std.proofs.Common.{◌≡◌, ◌↔◌, ℤ, Bool, true, false, IsTrue, refl, ap, sym, ◌∙◌, subst}
use Rattle.std.proofs.lemmas.Bool.{false≢true}
use Rattle.std.specs.declared.cmp.Ordering.TheVariants.{Equal}
use Rattle.std.specs.Cmp.{tied_itself}
use Rattle.std.specs.Ordering.{is_eq, eq_by_cmp}
use Rattle.croner_base.specs.Field.{Field}
use Rattle.croner_base.specs.Order.{field_cmp}
use Rattle.croner_base.specs.Written.{tie, nat_tie, bool_tie, list_tie}
use Rattle.croner_pattern.specs.Meaning.{Meaning}
use Rattle.croner_pattern.specs.Order.{meaning_cmp, meaning_cmp_total}
use Rattle.croner_pattern.specs.Schedule.{IsScheduled, DateMatches}
use Rattle.croner.specs.laws.Equality.{AreSameButTexts}

-- fields that compare as equal are the same
field_tie : (x y : Field) → is_eq (field_cmp x y) ≡ true → x ≡ y
field_tie x y h =
    let t8 = tie _ _ h in
    let t7 = tie _ _ t8.0 in
    let t6 = tie _ _ t7.0 in
    let t5 = tie _ _ t6.0 in
    let t4 = tie _ _ t5.0 in
    let t3 = tie _ _ t4.0 in
    let t2 = tie _ _ t3.0 in
    let t1 = tie _ _ t2.0 in
    let marks = list_tie x.marks y.marks t1.0 in
    let min = nat_tie x.shape.min y.shape.min t1.1 in
    let max = nat_tie x.shape.max y.shape.max t2.1 in
    let step = nat_tie x.step y.step t3.1 in
    let wildcard = bool_tie x.wildcard y.wildcard t4.1 in
    let supported = nat_tie x.shape.supported y.shape.supported t5.1 in
    let enabled = nat_tie x.enabled y.enabled t6.1 in
    let offset = nat_tie x.shape.offset y.shape.offset t7.1 in
    let sloppy = bool_tie x.shape.sloppy y.shape.sloppy t8.1 in
    λ i. record {
      shape = record { min = min i; max = max i; supported = supported i; offset = offset i; sloppy = sloppy i };
      marks = marks i;
      enabled = enabled i;
      step = step i;
      wildcard = wildcard i;
    }

pub same_but_texts : (m n : Meaning) → eq_by_cmp meaning_cmp m n ≡ true → AreSameButTexts m n
same_but_texts m n h =
    let t9 = tie _ _ h in
    let t8 = tie _ _ t9.0 in
    let t7 = tie _ _ t8.0 in
    let t6 = tie _ _ t7.0 in
    let t5 = tie _ _ t6.0 in
    let t4 = tie _ _ t5.0 in
    let t3 = tie _ _ t4.0 in
    let t2 = tie _ _ t3.0 in
    let t1 = tie _ _ t2.0 in
    let seconds = sym (field_tie m.seconds n.seconds t1.0) in
    let minutes = sym (field_tie m.minutes n.minutes t1.1) in
    let hours = sym (field_tie m.hours n.hours t2.1) in
    let days = sym (field_tie m.days n.days t3.1) in
    let months = sym (field_tie m.months n.months t4.1) in
    let weekdays = sym (field_tie m.days_of_week n.days_of_week t5.1) in
    let years = sym (field_tie m.years n.years t6.1) in
    let star_day = sym (bool_tie m.star_day n.star_day t7.1) in
    let star_weekday = sym (bool_tie m.star_weekday n.star_weekday t8.1) in
    let both = sym (bool_tie m.and n.and t9.1) in
    λ i. record {
      seconds = seconds i;
      minutes = minutes i;
      hours = hours i;
      days = days i;
      months = months i;
      days_of_week = weekdays i;
      years = years i;
      star_day = star_day i;
      star_weekday = star_weekday i;
      and = both i;
      text = n.text;
    }

pub equal_but_texts : (m n : Meaning) → AreSameButTexts m n → eq_by_cmp meaning_cmp m n ≡ true
equal_but_texts m n h =
    let level : meaning_cmp m m ≡ Equal = tied_itself meaning_cmp_total m in
    ap (λ x. is_eq (meaning_cmp m x)) h ∙ ap is_eq level

-- ---- what does not look at the text

same_without_text : (P : Meaning → Type 0) (m n : Meaning) → AreSameButTexts m n → (P m ↔ P (record m { text = n.text })) → P m ↔ P n
same_without_text P m n h same = (λ s. subst P (sym h) (same.0 s), λ s. same.1 (subst P h s))

pub same_schedule : (m n : Meaning) (w : ℤ) → AreSameButTexts m n → IsScheduled m w ↔ IsScheduled n w
same_schedule m n w h = same_without_text (λ x. IsScheduled x w) m n h (
  λ s. record { shown = s.shown; shows = s.shows; matches = s.matches },
  λ s. record { shown = s.shown; shows = s.shows; matches = s.matches },
)

pub same_dates : (m n : Meaning) (w : ℤ) → AreSameButTexts m n → DateMatches m w ↔ DateMatches n w
same_dates m n w h = same_without_text (λ x. DateMatches x w) m n h (
  λ s. record { shown = s.shown; shows = s.shows; matches = s.matches },
  λ s. record { shown = s.shown; shows = s.shows; matches = s.matches },
)

-- ---- what `==` answers

pub answers_same : (m n : Meaning) (r : Bool) → r ≡ eq_by_cmp meaning_cmp m n → IsTrue r ↔ AreSameButTexts m n
answers_same m n true e = (λ _. same_but_texts m n (sym e), λ _. refl)
answers_same m n false e = (λ h. absurd (false≢true h), λ h. e ∙ equal_but_texts m n h)
