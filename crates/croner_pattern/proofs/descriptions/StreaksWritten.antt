-- Runs of consecutive values: where one ends, what a list of them covers, and how one is written.
use Rattle.std.proofs.Common.{◌≡◌, ℕ, suc, ◌+◌, ◌-◌, ◌<◌, ◌≤◌, Bool, true, false, eqb, leb, List, [], ◌∷◌, ◌++◌, length, drop, get_or, map, refl, ap, sym, subst, ◌∙◌, append_assoc, arith, inl, inr}
use Rattle.std.specs.Prelude.{decimal}
use Rattle.std.specs.List.{flat_map}
use Rattle.std.proofs.lemmas.Bool.{cases_Bool, cases_lt, eqb-true}
use Rattle.std.proofs.lemmas.Bool.Decides.{nat_tests}
use Rattle.std.proofs.lemmas.List.{at_drop_more, at_drop_all, append-nil, map-append}
use Rattle.std.proofs.lemmas.Grind.{flat_map-append}
use Rattle.croner_base.specs.Field.{values_between}
use Rattle.croner_pattern.specs.Lists.{Streak, with_value, streaks_of, Item, number, items_of, item_text, number_items, covered}
use Rattle.croner_pattern.specs.Private.Lists.{is_empty, separator, from_place, StreakWritten}

-- the streaks, the first of which begins at another value
abbrev pub begun_at : ℕ → List Streak → List Streak
begun_at value [] = []
begun_at value (streak ∷ more) = record { first = value; last = streak.last } ∷ more

-- the streaks begin at a value
pub record BeginsStreak (value : ℕ) (streaks : List Streak) : Type 0 where
  pub last : ℕ
  pub more : List Streak
  pub ordered : value ≤ last
  pub is : streaks ≡ record { first = value; last = last } ∷ more

with_begun : (value next : ℕ) (streaks : List Streak) → BeginsStreak next streaks → BeginsStreak value (with_value value streaks)
with_begun value next streaks b =
    elim (cases_Bool (eqb next (value + 1))) [
      | inl hit ↦ record { last = b.last; more = b.more; ordered = let e = eqb-true next (value + 1) hit in let o = b.ordered in omega (arith, e, o); is = ap (with_value value) b.is ∙ rw hit refl }
      | inr miss ↦ record { last = value; more = record { first = next; last = b.last } ∷ b.more; ordered = omega arith; is = ap (with_value value) b.is ∙ rw miss refl }
    ]

pub begins : (value : ℕ) (more : List ℕ) → BeginsStreak value (streaks_of (value ∷ more))
begins value [] = record { last = value; more = []; ordered = omega arith; is = refl }
begins value (next ∷ more) = with_begun value next (streaks_of (next ∷ more)) (begins next more)

at_next : {Y : Type 0} (F : List ℕ → Y) (values : List ℕ) (i : ℕ) → i < length values → F (drop i values) ≡ F (get_or values i 0 ∷ drop (i + 1) values)
at_next F values i h = at_drop_more F values i 0 h

begins_at : (values : List ℕ) (i : ℕ) → i < length values → BeginsStreak (get_or values i 0) (streaks_of (drop i values))
begins_at values i h =
    let P : List Streak → Type 0 = λ streaks. BeginsStreak (get_or values i 0) streaks in
    subst P (sym (at_next streaks_of values i h)) (begins (get_or values i 0) (drop (i + 1) values))

-- a streak has an item
items_some : (first last : ℕ) → first ≤ last → (rest : List Item) → is_empty (map item_text (items_of (record { first = first; last = last }) ++ rest)) ≡ false
items_some first last h rest =
    elim (cases_Bool (leb (first + 2) last)) [
      | inl far ↦ rw far refl
      | inr near ↦
          let n : (last + 1) - first ≡ suc (last - first) = omega arith in
          rw (near, n) refl
    ]

-- no item is left after the last value, and some are after each other one
pub items_left : (values : List ℕ) (end : ℕ) → end < length values
    → is_empty (map item_text (flat_map items_of (streaks_of (drop (end + 1) values)))) ≡ eqb (end + 1) (length values)
items_left values end h =
    elim (cases_lt (end + 1) (length values)) [
      | inl within ↦
          let other : eqb (end + 1) (length values) ≡ false = grind (arith, nat_tests) in
          let b = begins_at values (end + 1) within in
          rw other (ap (λ streaks. is_empty (map item_text (flat_map items_of streaks))) b.is ∙ items_some (get_or values (end + 1) 0) b.last b.ordered (flat_map items_of b.more))
      | inr past ↦
          let same : eqb (end + 1) (length values) ≡ true = grind (arith, nat_tests) in
          rw same (at_drop_all (λ l. is_empty (map item_text (flat_map items_of (streaks_of l)))) values (end + 1) past)
    ]

-- one streak more is written
pub streak_more : (and : List ℕ) (place next : ℕ) (is_last : Bool) (first last : ℕ) (old new whole : List ℕ) (streaks more : List Streak) → streaks ≡ record { first = first; last = last } ∷ more
    → is_empty (map item_text (flat_map items_of more)) ≡ is_last
    → StreakWritten and place is_last first last old new next
    → old ++ from_place (separator and) place (map item_text (flat_map items_of streaks)) ≡ whole
    → new ++ from_place (separator and) next (map item_text (flat_map items_of more)) ≡ whole
streak_more and place next is_last first last old new whole streaks more e l w h =
    w.written (map item_text (flat_map items_of more)) l
    ∙ ap (λ items. old ++ from_place (separator and) place items) (sym (map-append item_text (items_of (record { first = first; last = last })) (flat_map items_of more)))
    ∙ ap (λ r. old ++ from_place (separator and) place (map item_text (flat_map items_of r))) (sym e)
    ∙ h

pub streaks_begun : (and text : List ℕ) (values : List ℕ) (whole : List ℕ) → text ≡ [] → whole ≡ from_place (separator and) 0 (map item_text (number_items values))
    → text ++ from_place (separator and) 0 (map item_text (flat_map items_of (streaks_of (drop 0 values)))) ≡ whole
streaks_begun and text values whole e w = rw e (sym w)

-- two values in a row are two numbers
pub two_written : (and : List ℕ) (place : ℕ) (is_last : Bool) (first last : ℕ) (old new : List ℕ) → last ≡ first + 1
    → new ≡ (old ++ (separator and place false ++ decimal first)) ++ (separator and (place + 1) is_last ++ decimal last)
    → StreakWritten and place is_last first last old new (place + 2)
two_written and place is_last first last old new e n = record {
  counted = omega (arith, e);
  written = λ rest l.
      let near : leb (first + 2) last ≡ false = grind (arith, nat_tests, e) in
      let two : (last + 1) - first ≡ 2 = omega (arith, e) in
      let on : place + 1 + 1 ≡ place + 2 = omega arith in
      rw (n, near, two) (rw (on, l, e) (simp append_assoc refl));
}

-- the values of a streak are those of its items, and the streaks cover the values
covered_numbers : (values : List ℕ) → flat_map covered (map number values) ≡ values
covered_numbers [] = refl
covered_numbers (value ∷ more) = ap (λ l. value ∷ l) (covered_numbers more)

covered_items : (streak : Streak) → flat_map covered (items_of streak) ≡ values_between streak.first streak.last
covered_items streak =
    elim (cases_Bool (leb (streak.first + 2) streak.last)) [
      | inl far ↦ rw far (append-nil (values_between streak.first streak.last))
      | inr near ↦ rw near (covered_numbers (values_between streak.first streak.last))
    ]

covered_streaks : (streaks : List Streak) → flat_map covered (flat_map items_of streaks) ≡ flat_map (λ streak. values_between streak.first streak.last) streaks
covered_streaks [] = refl
covered_streaks (streak ∷ more) =
    flat_map-append covered (items_of streak) (flat_map items_of more)
    ∙ ap (λ l. l ++ flat_map covered (flat_map items_of more)) (covered_items streak)
    ∙ ap (λ l. values_between streak.first streak.last ++ l) (covered_streaks more)

-- a value before the streaks is covered first
covered_one : (value : ℕ) → values_between value value ≡ value ∷ []
covered_one value = let n : (value + 1) - value ≡ 1 = omega arith in rw n refl

covered_more : (value last : ℕ) → value ≤ last → values_between value last ≡ value ∷ values_between (value + 1) last
covered_more value last h = let n : (last + 1) - value ≡ suc ((last + 1) - (value + 1)) = omega arith in rw n refl

covered_with : (value next : ℕ) (streaks : List Streak) → BeginsStreak next streaks
    → flat_map (λ streak. values_between streak.first streak.last) (with_value value streaks) ≡ value ∷ flat_map (λ streak. values_between streak.first streak.last) streaks
covered_with value next streaks b =
    let cover : List Streak → List ℕ = flat_map (λ streak. values_between streak.first streak.last) in
    ap (λ r. cover (with_value value r)) b.is
    ∙ elim (cases_Bool (eqb next (value + 1))) [
      | inl hit ↦
          let e = eqb-true next (value + 1) hit in
          let o = b.ordered in
          rw hit (ap (λ l. l ++ cover b.more) (covered_more value b.last (omega (arith, e, o))) ∙ ap (λ n. value ∷ (values_between n b.last ++ cover b.more)) (sym e))
      | inr miss ↦ rw miss (ap (λ l. l ++ (values_between next b.last ++ cover b.more)) (covered_one value))
    ]
    ∙ ap (λ r. value ∷ cover r) (sym b.is)

covered_values : (values : List ℕ) → flat_map (λ streak. values_between streak.first streak.last) (streaks_of values) ≡ values
covered_values [] = refl
covered_values (value ∷ []) = ap (λ l. l ++ []) (covered_one value)
covered_values (value ∷ next ∷ more) =
    covered_with value next (streaks_of (next ∷ more)) (begins next more) ∙ ap (λ l. value ∷ l) (covered_values (next ∷ more))

pub items_cover : (values : List ℕ) → flat_map covered (number_items values) ≡ values
items_cover values = covered_streaks (streaks_of values) ∙ covered_values values
