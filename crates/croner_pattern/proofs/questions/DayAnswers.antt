-- With the shapes of a pattern each question about a day is answered, and the answer is the schedule's.
use Rattle.std.proofs.Common.{◌≡◌, ℕ, zero, suc, ◌+◌, ◌-◌, ◌/◌, ◌^◌, ◌<◌, ◌≤◌, Bool, true, false, List, [], ◌∷◌, map, Option, Some, None, Result, Ok, Err, IfOk, refl, ap, sym, ◌∙◌, arith, subst}
use Rattle.std.specs.List.{range_with_len}
use Rattle.croner_base.specs.declared.errors.CronError.{CronError}
use Rattle.croner_base.specs.Answers.{Finds}
use Rattle.croner_base.specs.Field.{Field, can_ask, is_marked, has_all}
use Rattle.croner_pattern.specs.Days.{weekday_of, occurrence, is_last_weekday, is_nearest}
use Rattle.croner_pattern.specs.Meaning.{Meaning}
use Rattle.croner_pattern.specs.Questions.{asked, and_test, first_yes, first_target, last_target, near_answer, near_answers, is_named_last, last_answer, day_answer, weekday_answer, both_answers, date_answer}
use Rattle.croner_pattern.specs.Schedule.{bit_of_nth, is_near_target, are_joined, is_day_matching}
use Rattle.croner_pattern.specs.Shapes.{has_field_shapes, day_shape, weekday_shape}
use Rattle.croner_pattern.proofs.days.DayTable.{occurrence_is}
use Rattle.croner_pattern.proofs.questions.FieldShapes.{HasLikeShape, HasFieldShapes, field_shapes, asks_day, asks_weekday}
use Rattle.croner_pattern.proofs.questions.ScheduledAnswers.{IsDayOfMonth, near_is, date_is, first_low, last_high}

-- the question has an answer
pub record IsAnswered (q : Option Bool) : Type 0 where
  pub value : Bool
  pub is : q ≡ Some value

answered-asked : (bits : ℕ) (f : Field) (v : ℕ) → can_ask f.shape v bits ≡ true → IsAnswered (asked bits f v)
answered-asked bits f v h = record { value = is_marked bits f v; is = rw h refl }

answered-tested : (test : Bool) (q : Option Bool) → IsAnswered q → IsAnswered (and_test test q)
answered-tested test q k = rw k.is (record { value = _; is = refl })

answered-next : (q : Option Bool) (more : List (Option Bool)) → IsAnswered q → IsAnswered (first_yes more) → IsAnswered (first_yes (q ∷ more))
answered-next None more k rest = record { value = k.value; is = k.is }
answered-next (Some true) more k rest = record { value = true; is = refl }
answered-next (Some false) more k rest = rest

answered-range : (q : ℕ → Option Bool) (a n : ℕ) → ((x : ℕ) → a ≤ x → x < a + n → IsAnswered (q x)) → IsAnswered (first_yes (map q (range_with_len a n)))
answered-range q a zero h = record { value = false; is = refl }
answered-range q a (suc n) h =
    answered-next (q a) (map q (range_with_len (a + 1) n)) (h a (omega arith) (omega arith)) (answered-range q (a + 1) n (λ x low high. h x (omega arith) (omega arith)))

answered-both : (join : Bool → Bool → Bool) (a b : Option Bool) → IsAnswered a → IsAnswered b → IsAnswered (both_answers join a b)
answered-both join None b k l = record { value = k.value; is = k.is }
answered-both join (Some d) None k l = record { value = l.value; is = l.is }
answered-both join (Some d) (Some w) k l = record { value = join d w; is = refl }

answered-near : (days : Field) (len first day : ℕ) → HasLikeShape days.shape day_shape → IsDayOfMonth len first day → IsAnswered (near_answers days len first day)
answered-near days len first day s k =
    answered-range (near_answer days len first day) (first_target day) ((last_target len day + 1) - first_target day)
    (λ x low high.
    let from : 1 ≤ x = first_low day x low in
    let to : x < 1 + len = last_high len day x k.high low high in
    answered-tested (is_nearest len first x day) (asked 128 days x) (answered-asked 128 days x (asks_day days.shape x 128 s refl from (omega (arith, k.longest)))))

answered-day : (days : Field) (len first day : ℕ) → HasLikeShape days.shape day_shape → IsDayOfMonth len first day → IsAnswered (day_answer days len first day)
answered-day days len first day s k =
    answered-next (asked 1 days day) _ (answered-asked 1 days day (asks_day days.shape day 1 s refl k.low (omega (arith, k.high, k.longest))))
    (answered-next (Some (is_named_last days len first day)) _ (record { value = is_named_last days len first day; is = refl })
    (answered-next (near_answers days len first day) [] (answered-near days len first day s k) (record { value = false; is = refl })))

-- the nth bits are supported
nth_supported : (n : ℕ) → n < 5 → has_all 127 (2 ^ (n + 1)) ≡ true
nth_supported zero h = refl
nth_supported (suc zero) h = refl
nth_supported (suc (suc zero)) h = refl
nth_supported (suc (suc (suc zero))) h = refl
nth_supported (suc (suc (suc (suc zero)))) h = refl
nth_supported (suc (suc (suc (suc (suc n))))) h = absurd (omega arith)

pub nth_of_day : (first day : ℕ) → first < 7 → 1 ≤ day → day ≤ 31 → has_all 127 (bit_of_nth (occurrence first day)) ≡ true
nth_of_day first day a b c = rw (sym (occurrence_is first day a b c)) (nth_supported ((day - 1) / 7) (omega arith))

answered-weekday : (weekdays : Field) (len first day : ℕ) → HasLikeShape weekdays.shape (weekday_shape 0) → IsDayOfMonth len first day → IsAnswered (weekday_answer weekdays len first day)
answered-weekday weekdays len first day s k =
    let w = weekday_of first day in
    let small : w ≤ 7 = omega arith in
    let nth = bit_of_nth (occurrence first day) in
    answered-next (asked nth weekdays w) _ (answered-asked nth weekdays w (asks_weekday weekdays.shape w nth s (nth_of_day first day k.weekday k.low (omega (arith, k.high, k.longest))) small))
    (answered-next (last_answer weekdays len first day) _ (answered-tested (is_last_weekday len first day) (asked 64 weekdays w) (answered-asked 64 weekdays w (asks_weekday weekdays.shape w 64 s refl small)))
    (answered-next (asked 1 weekdays w) [] (answered-asked 1 weekdays w (asks_weekday weekdays.shape w 1 s refl small)) (record { value = false; is = refl })))

answered-date : (m : Meaning) (len first day : ℕ) → HasFieldShapes m → IsDayOfMonth len first day → IsAnswered (date_answer m len first day)
answered-date m len first day s k =
    answered-both (are_joined m.star_day m.star_weekday m.and) _ _ (answered-day m.days len first day s.days k) (answered-weekday m.days_of_week len first day s.weekdays k)

-- so the answers are those of the schedule
pub near_answered : (m : Meaning) (len first day : ℕ) → has_field_shapes m ≡ true → IsDayOfMonth len first day → near_answers m.days len first day ≡ Some (is_near_target m.days len first day)
near_answered m len first day h k =
    let s = field_shapes m h in
    let a = answered-near m.days len first day s.days k in
    a.is ∙ ap Some (near_is m.days len first day a.value k a.is)

pub date_answered : (m : Meaning) (len first day : ℕ) → has_field_shapes m ≡ true → IsDayOfMonth len first day → date_answer m len first day ≡ Some (is_day_matching m len first day)
date_answered m len first day h k =
    let s = field_shapes m h in
    let a = answered-date m len first day s k in
    a.is ∙ ap Some (date_is m len first day a.value k a.is)

-- a value that is answered is the schedule's
pub Finds-value : (found : Option Bool) (result : Result Bool CronError) (x : Bool) → ((b : Bool) → found ≡ Some b → b ≡ x) → Finds (λ held. held) found result → IfOk result (λ held. held ≡ x)
Finds-value found (Ok b) x means h = means b h
Finds-value found (Err e) x means h = tt

-- the answer for a month's length and first weekday that are those
pub Finds-moved : (m : Meaning) (day : ℕ) (result : Result Bool CronError) (l len f first : ℕ) → l ≡ len → f ≡ first → Finds (λ held. held) (date_answer m l f day) result → Finds (λ held. held) (date_answer m len first day) result
Finds-moved m day result l len f first el ef h =
    subst (λ n. Finds (λ (held : Bool). held) (date_answer m n first day) result) el
    (subst (λ n. Finds (λ (held : Bool). held) (date_answer m l n day) result) ef h)
