-- The grids of months, one after the other.
use Rattle.std.proofs.Common.{◌≡◌, ◌∙◌, ℕ, ℤ, pos, ◌+◌, ◌+ℤ◌, Bool, false, true, ◌||◌, List, [], ◌∷◌, ◌++◌, append_assoc, refl, sym, ap, subst, string_bytes}
use Rattle.std.specs.List.{list_any}
use Rattle.std.proofs.lemmas.List.{length-append}
use Rattle.std.proofs.lemmas.List.Folds.{list_any-append}
use Rattle.std.proofs.lemmas.List.Sums.{fold_push}
use Rattle.cronplan.specs.declared.job_dates.DateRange.{DateRange}
use Rattle.cronplan.proofs.DayCells.{each_more}
use Rattle.cronplan_forms.specs.declared.month.Daily.{Daily}
use Rattle.cronplan_forms.specs.declared.month.Month.{Month}
use Rattle.cronplan_forms.specs.declared.month.MonthDay.{MonthDay}
use Rattle.cronplan_forms.specs.declared.month.Titled.{Titled}
use Rattle.cronplan_forms.specs.declared.month.of_plan.Grids.{Grids}
use Rattle.cronplan_forms.specs.Apart.{set_apart}
use Rattle.cronplan_forms.specs.Months.{daily_text, grids_text, has_marks, mark_text, month_text, months_text}
use Rattle.cronplan_forms.specs.PlanMonths.{AreMonths, IsMonth, IsMonthDay}
use Rattle.cronplan_forms.specs.Private.DatedTitles.{HaveSameDates}
use Rattle.cronplan_forms.specs.Private.Grids.{AddsMonth, HasMonths}

nothing_more : (b : Bool) → (b || false) ≡ b
nothing_more true = refl
nothing_more false = refl

any_push : {X : Type 0} (p : X → Bool) (xs : List X) (x : X) → list_any p (xs ++ x ∷ []) ≡ (list_any p xs || p x)
any_push p xs x = list_any-append p xs (x ∷ []) ∙ ap (λ (b : Bool). list_any p xs || b) (nothing_more (p x))

-- a month more
pub months_more : (dates : DateRange) (titles : List Titled) (first : ℤ) (n : ℕ) (month : ℤ) (old new : Grids) → HasMonths dates titles first n old → AddsMonth dates titles month old new
    → month ≡ first +ℤ pos n → HasMonths dates titles first (n + 1) new
months_more dates titles first n month old new h a at = record {
  months = h.months ++ a.shown ∷ [];
  are_months = record {
    count_is = length-append h.months (a.shown ∷ []) ∙ ap (λ (k : ℕ). k + 1) h.are_months.count_is;
    each = each_more (λ (k : ℕ) (m : Month). IsMonth dates titles (first +ℤ pos k) m) h.months (h.months ++ a.shown ∷ []) a.shown refl h.are_months.each
        (subst (λ (i : ℤ). IsMonth dates titles i a.shown) (at ∙ ap (λ (k : ℕ). first +ℤ pos k) (sym h.are_months.count_is)) a.is_month);
  };
  text_is = a.text_is ∙ ap (λ (bs : List ℕ). set_apart bs (month_text a.shown)) h.text_is ∙ sym (fold_push (λ (text : List ℕ) (m : Month). set_apart text (month_text m)) [] h.months a.shown);
  mark_is = a.mark_is ∙ ap (λ (b : Bool). b || has_marks a.shown) h.mark_is ∙ sym (any_push has_marks h.months a.shown);
}

-- the same where titles stand in another order
moved_day : (dates : DateRange) (titles sorted : List Titled) → HaveSameDates titles sorted → (date : ℤ) (d : MonthDay) → IsMonthDay dates sorted date d → IsMonthDay dates titles date d
moved_day dates titles sorted same date d h = record { titles_are = h.titles_are ∙ same date; in_plan = h.in_plan }

pub moved : (dates : DateRange) (titles sorted : List Titled) → HaveSameDates titles sorted → (first : ℤ) (n : ℕ) (months : List Month) → AreMonths dates sorted first n months
    → AreMonths dates titles first n months
moved dates titles sorted same first n months h = record {
  count_is = h.count_is;
  each = λ k m inside. let one = h.each k m inside in record {
    name_is = one.name_is;
    weekday_is = one.weekday_is;
    days_are = record { count_is = one.days_are.count_is; each = λ j d within. moved_day dates titles sorted same _ _ (one.days_are.each j d within) };
  };
}

-- a day on its date
pub day_at : (dates : DateRange) (titles : List Titled) (i j : ℤ) (d : MonthDay) → IsMonthDay dates titles i d → i ≡ j → IsMonthDay dates titles j d
day_at dates titles i j d h e = subst (λ (date : ℤ). IsMonthDay dates titles date d) e h

-- what stands below the grids
pub below : (months : List Month) (daily xs : List Daily) (grids : Grids) (marked all : List ℕ) → string_bytes grids.text ≡ grids_text months → grids.is_marked ≡ list_any has_marks months
    → marked ≡ string_bytes grids.text ++ mark_text grids.is_marked → all ≡ marked ++ daily_text xs → xs ≡ daily → all ≡ months_text months daily
below months daily xs grids marked all text mark with_mark is same =
    is ∙ ap (λ (bs : List ℕ). bs ++ daily_text xs) with_mark ∙ append_assoc (string_bytes grids.text) (mark_text grids.is_marked) (daily_text xs)
    ∙ ap (λ (bs : List ℕ). bs ++ (mark_text grids.is_marked ++ daily_text xs)) text ∙ ap (λ (b : Bool). grids_text months ++ (mark_text b ++ daily_text xs)) mark
    ∙ ap (λ (ds : List Daily). grids_text months ++ (mark_text (list_any has_marks months) ++ daily_text ds)) same
