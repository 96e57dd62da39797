-- Titles in order of their dates, and those of jobs that are there.
use Rattle.std.proofs.Common.{◌≡◌, ◌∙◌, ℕ, ℤ, ◌+◌, ◌<◌, ◌≤◌, ◌≤ℤ◌, Bool, true, false, cond, not, ◌&&◌, List, [], ◌∷◌, ◌++◌, length, get_or, take, drop, filter, int_lt, int_le, refl, sym, ap, subst, arith}
use Rattle.std.specs.Cmp.{IsStrictWeakOrder, int_cmp_total}
use Rattle.std.specs.List.{All}
use Rattle.std.specs.List.Sorted.{IsPartitionPoint, IsPartitionedBy, IsStableByKey, ties}
use Rattle.std.specs.Ordering.{int_cmp, int_eq, is_lt}
use Rattle.std.proofs.lemmas.Int.{ints}
use Rattle.std.proofs.lemmas.List.{take-append-drop, append-nil, get_or-take, get_or-drop, length-take-le, length-drop}
use Rattle.std.proofs.lemmas.List.Elements.{filter-append}
use Rattle.std.proofs.lemmas.List.Sorted.{ranks_by, sorted_far}
use Rattle.std.proofs.lemmas.Option.{slice_get-map, slice_get_past}
use Rattle.std.specs.Prelude.{Option, None, option_map, slice_get}
use Rattle.cronplan.specs.declared.start.JobStart.{JobStart}
use Rattle.cronplan.specs.Counts.{date_of}
use Rattle.cronplan.proofs.AlikeElements.{sorted_from}
use Rattle.cronplan.proofs.FilteredLists.{filter_all, filter_none}
use Rattle.cronplan_forms.specs.declared.job.Job.{Job}
use Rattle.cronplan_forms.specs.declared.month.Titled.{Titled}
use Rattle.cronplan_forms.specs.PlanMonths.{dated, if_there, titled, told_at, told_of}
use Rattle.cronplan_forms.specs.Private.DatedTitles.{AreByDate, HaveSameDates, is_on}

-- ---- what passes a test and stands in front

module _ {X : Type 0} (p : X → Bool) (xs : List X) (n : ℕ) (le : n ≤ length xs) (point : IsPartitionPoint (λ y. p y ≡ true) (λ y. p y ≡ false) xs n) where
  front : All (λ y. p y ≡ true) (take n xs)
  front = λ k d h.
      let below : k < n = omega (arith, h, length-take-le n xs le) in
      subst (λ (y : X). p y ≡ true) (sym (get_or-take n xs k d below)) (point.0 k d (omega arith) below)

  back : All (λ y. p y ≡ false) (drop n xs)
  back = λ k d h. subst (λ (y : X). p y ≡ false) (sym (get_or-drop n xs k d)) (point.1 (n + k) d (omega arith) (omega (arith, h, length-drop n xs)))

  pub first_part : take n xs ≡ filter p xs
  first_part =
      sym (ap (filter p) (sym (take-append-drop n xs)) ∙ filter-append p (take n xs) (drop n xs) ∙ ap (λ (ys : List X). filter p (take n xs) ++ ys) (filter_none p (drop n xs) back)
      ∙ append-nil (filter p (take n xs)) ∙ filter_all p (take n xs) front)

  pub last_part : drop n xs ≡ filter (λ y. not (p y)) xs
  last_part =
      let fails : X → Bool = λ y. not (p y) in
      sym (ap (filter fails) (sym (take-append-drop n xs)) ∙ filter-append fails (take n xs) (drop n xs)
      ∙ ap (λ (ys : List X). ys ++ filter fails (drop n xs)) (filter_none fails (take n xs) (λ k d h. ap not (front k d h)))
      ∙ filter_all fails (drop n xs) (λ k d h. ap not (back k d h)))

-- what passes one test and then another
filter_both : {X : Type 0} (p q r : X → Bool) → ((x : X) → (q x && p x) ≡ r x) → (xs : List X) → filter p (filter q xs) ≡ filter r xs
filter_both p q r same [] = refl
filter_both {X} p q r same (x ∷ xs) = at (q x) (r x) (same x) (filter_both p q r same xs) where
  at : (b c : Bool) → (b && p x) ≡ c → filter p (filter q xs) ≡ filter r xs → filter p (cond b (x ∷ filter q xs) (filter q xs)) ≡ cond c (x ∷ filter r xs) (filter r xs)
  at true c e h = ap (λ (ys : List X). cond (p x) (x ∷ ys) ys) h ∙ ap (λ (d : Bool). cond d (x ∷ filter r xs) (filter r xs)) e
  at false c e h = h ∙ ap (λ (d : Bool). cond d (x ∷ filter r xs) (filter r xs)) e

-- ---- titles in order

abbrev earlier : Titled → Titled → Bool
earlier x y = is_lt (int_cmp x.date y.date)

earlier_weak : IsStrictWeakOrder earlier
earlier_weak = ranks_by int_cmp_total (λ (t : Titled). t.date)

not_less : (a b : ℤ) → is_lt (int_cmp b a) ≡ false → a ≤ℤ b
not_less a b h = grind (arith, ints)

climbs : (xs : List Titled) → AreByDate xs → (i j : ℕ) (d : Titled) → i ≤ j → j < length xs → (get_or xs i d).date ≤ℤ (get_or xs j d).date
climbs xs up i j d le inside = not_less (get_or xs i d).date (get_or xs j d).date (sorted_far earlier earlier_weak xs up i j d le inside)

pub earlier_first : (date : ℤ) (xs : List Titled) → AreByDate xs → IsPartitionedBy (λ t. int_lt t.date date) xs
earlier_first date xs up = λ i j d le inside h. let climb = climbs xs up i j d le inside in grind (arith, ints)

pub upto_first : (date : ℤ) (xs : List Titled) → AreByDate xs → IsPartitionedBy (λ t. int_le t.date date) xs
upto_first date xs up = λ i j d le inside h. let climb = climbs xs up i j d le inside in grind (arith, ints)

pub in_order_from : (xs : List Titled) → AreByDate xs → (n : ℕ) → n ≤ length xs → AreByDate (drop n xs)
in_order_from xs up n le = sorted_from earlier earlier_weak xs up n le

on_it : (a b : ℤ) → (not (int_lt a b) && int_le a b) ≡ int_eq a b
on_it a b = grind (arith, ints)

-- of those that aren't earlier the ones up to a date
pub titles_upto : (date : ℤ) (xs : List Titled) → filter (λ t. int_le t.date date) (filter (λ t. not (int_lt t.date date)) xs) ≡ filter (is_on date) xs
titles_upto date xs = filter_both (λ (t : Titled). int_le t.date date) (λ t. not (int_lt t.date date)) (is_on date) (λ t. on_it t.date date) xs

-- ---- a stable sort

tied_dates : (a b : ℤ) → (not (is_lt (int_cmp a b)) && not (is_lt (int_cmp b a))) ≡ int_eq b a
tied_dates a b = grind (arith, ints)

none : (ys : List Titled) → length ys ≡ 0 → ys ≡ []
none [] e = refl
none (y ∷ ys) e = absurd (omega (arith, e))

pub same_dates : (xs ys : List Titled) → IsStableByKey (λ (t : Titled). t.date) int_cmp xs ys → length ys ≡ length xs → HaveSameDates xs ys
same_dates [] ys stable len = λ date. ap (filter (is_on date)) (none ys len)
same_dates (x ∷ xs) ys stable len = λ date.
    let one : Titled = record x { date = date } in
    let same : (λ (t : Titled). ties earlier one t) ≡ is_on date = λ i t. tied_dates date t.date i in
    sym (ap (λ (p : Titled → Bool). filter p ys) same) ∙ stable one ∙ ap (λ (p : Titled → Bool). filter p (x ∷ xs)) same

-- ---- a job that isn't there

abbrev tell : Job → List ℕ × List ℕ
tell j = (j.title.now, j.words.now)

nothing_at : (jobs : List Job) (k : ℕ) → length jobs ≤ k → slice_get (told_of jobs) k ≡ None
nothing_at jobs k past = slice_get-map tell jobs k ∙ ap (option_map tell) (slice_get_past jobs k past)

pub nothing_told : (jobs : List Job) (k : ℕ) (xs : List (List ℕ × List ℕ)) → length jobs ≤ k → xs ≡ xs ++ told_at (told_of jobs) k
nothing_told jobs k xs past = sym (append-nil xs) ∙ ap (λ (o : Option (List ℕ × List ℕ)). xs ++ if_there o) (sym (nothing_at jobs k past))

pub nothing_titled : (jobs : List Job) (s : JobStart) (xs : List (ℤ × List ℕ)) → length jobs ≤ s.job → xs ≡ xs ++ titled (told_of jobs) s
nothing_titled jobs s xs past = sym (append-nil xs) ∙ ap (λ (o : Option (List ℕ × List ℕ)). xs ++ dated (date_of s.wall) o) (sym (nothing_at jobs s.job past))
