-- Fields with the shape of their place answer each question about a value of the place.
use Rattle.std.proofs.Common.{◌≡◌, ℕ, ◌≤◌, true, false, ◌&&◌, ◌||◌, nat_eq, nat_le, Option, Some, None, Result, Ok, Err, refl, ap, sym, ◌∙◌, arith}
use Rattle.std.proofs.lemmas.Bool.{and_parts, eqb-true}
use Rattle.std.proofs.lemmas.Bool.Decides.{nat_tests}
use Rattle.croner_base.specs.declared.errors.CronError.{CronError}
use Rattle.croner_base.specs.Answers.{Finds}
use Rattle.croner_base.specs.Field.{Shape, Field, can_ask, has_all, is_marked}
use Rattle.croner_pattern.specs.Meaning.{Meaning}
use Rattle.croner_pattern.specs.Schedule.{is_named}
use Rattle.croner_pattern.specs.Shapes.{is_like, has_field_shapes, sixty_shape, hour_shape, day_shape, month_shape, weekday_shape, year_shape}

-- like shapes answer alike
pub record HasLikeShape (a b : Shape) : Type 0 where
  pub min : a.min ≡ b.min
  pub max : a.max ≡ b.max
  pub supported : a.supported ≡ b.supported

pub like_shape : (a b : Shape) → is_like a b ≡ true → HasLikeShape a b
like_shape a b h =
    let p = and_parts (nat_eq a.min b.min) _ h in
    let q = and_parts (nat_eq a.max b.max) _ p.1 in
    let r = and_parts (nat_eq a.supported b.supported) _ q.1 in
    record { min = eqb-true _ _ p.0; max = eqb-true _ _ q.0; supported = eqb-true _ _ r.0 }

pub can_ask-alike : (a b : Shape) (value bits : ℕ) → HasLikeShape a b → can_ask a value bits ≡ can_ask b value bits
can_ask-alike a b value bits h =
    let low = h.min in
    let high = h.max in
    let bits_are = h.supported in
    rw (low, high, bits_are) refl

-- the shapes of a pattern's fields
pub record HasFieldShapes (m : Meaning) : Type 0 where
  pub seconds : HasLikeShape m.seconds.shape sixty_shape
  pub minutes : HasLikeShape m.minutes.shape sixty_shape
  pub hours : HasLikeShape m.hours.shape hour_shape
  pub days : HasLikeShape m.days.shape day_shape
  pub months : HasLikeShape m.months.shape month_shape
  pub weekdays : HasLikeShape m.days_of_week.shape (weekday_shape 0)
  pub years : HasLikeShape m.years.shape year_shape

pub either_weekday : (s : Shape) → (is_like s (weekday_shape 0) || is_like s (weekday_shape 1)) ≡ true → HasLikeShape s (weekday_shape 0)
either_weekday s h =
    elim (is_like s (weekday_shape 0)) as (λ b. is_like s (weekday_shape 0) ≡ b → (b || is_like s (weekday_shape 1)) ≡ true → HasLikeShape s (weekday_shape 0)) [
      | true ↦ λ e _. like_shape s (weekday_shape 0) e
      | false ↦ λ _ g. let a = like_shape s (weekday_shape 1) g in record { min = a.min; max = a.max; supported = a.supported }
    ] refl h

pub field_shapes : (m : Meaning) → has_field_shapes m ≡ true → HasFieldShapes m
field_shapes m h =
    let p1 = and_parts (is_like m.seconds.shape sixty_shape) _ h in
    let p2 = and_parts (is_like m.minutes.shape sixty_shape) _ p1.1 in
    let p3 = and_parts (is_like m.hours.shape hour_shape) _ p2.1 in
    let p4 = and_parts (is_like m.days.shape day_shape) _ p3.1 in
    let p5 = and_parts (is_like m.months.shape month_shape) _ p4.1 in
    let p6 = and_parts (is_like m.days_of_week.shape (weekday_shape 0) || is_like m.days_of_week.shape (weekday_shape 1)) _ p5.1 in
    record {
      seconds = like_shape _ _ p1.0;
      minutes = like_shape _ _ p2.0;
      hours = like_shape _ _ p3.0;
      days = like_shape _ _ p4.0;
      months = like_shape _ _ p5.0;
      weekdays = either_weekday _ p6.0;
      years = like_shape _ _ p6.1;
    }

-- within the bounds each question is answered
pub in_bounds : (low high v : ℕ) → low ≤ v → v ≤ high → (nat_le low v && nat_le v high) ≡ true
in_bounds low high v a b = grind (arith, nat_tests)

pub asks_sixty : (s : Shape) (v : ℕ) → HasLikeShape s sixty_shape → v ≤ 59 → can_ask s v 1 ≡ true
asks_sixty s v h b = can_ask-alike s sixty_shape v 1 h ∙ rw (in_bounds 0 59 v (omega arith) b) refl

pub asks_hour : (s : Shape) (v : ℕ) → HasLikeShape s hour_shape → v ≤ 23 → can_ask s v 1 ≡ true
asks_hour s v h b = can_ask-alike s hour_shape v 1 h ∙ rw (in_bounds 0 23 v (omega arith) b) refl

pub asks_month : (s : Shape) (v : ℕ) → HasLikeShape s month_shape → 1 ≤ v → v ≤ 12 → can_ask s v 1 ≡ true
asks_month s v h a b = can_ask-alike s month_shape v 1 h ∙ rw (in_bounds 1 12 v a b) refl

pub asks_day : (s : Shape) (v bits : ℕ) → HasLikeShape s day_shape → has_all 193 bits ≡ true → 1 ≤ v → v ≤ 31 → can_ask s v bits ≡ true
asks_day s v bits h has a b = can_ask-alike s day_shape v bits h ∙ rw (in_bounds 1 31 v a b, has) refl

pub asks_weekday : (s : Shape) (v bits : ℕ) → HasLikeShape s (weekday_shape 0) → has_all 127 bits ≡ true → v ≤ 7 → can_ask s v bits ≡ true
asks_weekday s v bits h has b = can_ask-alike s (weekday_shape 0) v bits h ∙ rw (in_bounds 0 7 v (omega arith) b, has) refl

pub marked_named : (bits : ℕ) (f : Field) (v : ℕ) → can_ask f.shape v bits ≡ true → is_marked bits f v ≡ is_named bits f v
marked_named bits f v h = rw h refl

pub some-same : {X : Type 0} (x y : X) → Some x ≡ Some y → x ≡ y
some-same x y e = cc

pub none-some : {X : Type 0} (x : X) → None ≡ Some x → ⊥
none-some x e = cc

pub Finds-some : {X : Type 0} (x : X) (found : Option X) (result : Result X CronError) → found ≡ Some x → Finds (λ y. y) found result → result ≡ Ok x
Finds-some x found (Ok y) e h = ap Ok (some-same y x (sym h ∙ e))
Finds-some x found (Err y) e h = absurd (none-some x (sym h.0 ∙ e))
