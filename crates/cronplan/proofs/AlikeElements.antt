-- The elements of a sorted list that are alike stand side by side.
use Rattle.std.proofs.Common.{◌≡◌, ◌∙◌, ℕ, ◌+◌, ◌-◌, ◌<◌, ◌≤◌, Bool, true, false, not, cond, List, [], ◌∷◌, ◌++◌, length, get_or, take, drop, filter, slice_get, Some, sym, ap, subst, arith}
use Rattle.std.proofs.lemmas.Bool.{false≢true, false_from_ne_true, true_from_ne_false, and_from, and_left, and_right, not-true, not-false, not_from_true, not_from_false}
use Rattle.std.proofs.lemmas.List.{take-append-drop, append-nil, get_or-take, get_or-drop, length-take-le, length-drop}
use Rattle.std.proofs.lemmas.List.Elements.{All-weaker, All-from_get_or, filter-append}
use Rattle.std.proofs.lemmas.List.Sorted.{sorted_far}
use Rattle.std.specs.Cmp.{IsStrictWeakOrder}
use Rattle.std.specs.List.{All}
use Rattle.std.specs.List.Sorted.{IsSortedBy, IsPartitionedBy, ties}
use Rattle.cronplan.proofs.FilteredLists.{filter_all, filter_none}

module _ {X : Type 0} (lt : X → X → Bool) (weak : IsStrictWeakOrder lt) where
  -- ---- two elements

  pub not_itself : (x : X) → lt x x ≡ false
  not_itself x = false_from_ne_true (lt x x) (λ e. false≢true (sym (weak.one_way x x e) ∙ e))

  tied : (x y : X) → lt x y ≡ false → lt y x ≡ false → ties lt x y ≡ true
  tied x y a b = and_from (not (lt x y)) (not (lt y x)) (not_from_false (lt x y) a) (not_from_false (lt y x) b)

  untied_after : (x y : X) → lt x y ≡ true → ties lt x y ≡ false
  untied_after x y a = and_left (not (lt x y)) (not (lt y x)) (not_from_true (lt x y) a)

  untied_before : (x y : X) → lt y x ≡ true → ties lt x y ≡ false
  untied_before x y b = and_right (not (lt x y)) (not (lt y x)) (not_from_true (lt y x) b)

  -- ---- the elements from a place on

  pub sorted_from : (xs : List X) → IsSortedBy lt xs → (n : ℕ) → n ≤ length xs → IsSortedBy lt (drop n xs)
  sorted_from xs up n le = λ k d low h.
      let one : get_or (drop n xs) k d ≡ get_or xs (n + k) d = get_or-drop n xs k d in
      let next : get_or (drop n xs) (k + 1) d ≡ get_or xs (n + k + 1) d = get_or-drop n xs (k + 1) d ∙ ap (λ i. get_or xs i d) (omega arith) in
      rw (one, next) (up (n + k) d (omega arith) (omega (arith, h, length-drop n xs)))

  -- none of them is less than the first
  pub none_less_from : (xs : List X) → IsSortedBy lt xs → (n : ℕ) (d : X) → n < length xs → All (λ y. lt y (get_or xs n d) ≡ false) (drop n xs)
  none_less_from xs up n d inside =
      All-from_get_or (λ y. lt y (get_or xs n d) ≡ false) (drop n xs) d
      (λ i h. subst (λ (y : X). lt y (get_or xs n d) ≡ false) (sym (get_or-drop n xs i d)) (sorted_far lt weak xs up n (n + i) d (omega arith) (omega (arith, h, length-drop n xs))))

  -- ---- the first of those that are alike

  -- all before an element are less, where the last of them is
  pub all_less_before : (xs : List X) → IsSortedBy lt xs → (k : ℕ) (d : X) → 0 < k → k < length xs → lt (get_or xs (k - 1) d) (get_or xs k d) ≡ true
      → All (λ y. lt y (get_or xs k d) ≡ true) (take k xs)
  all_less_before xs up k d some inside less =
      All-from_get_or (λ y. lt y (get_or xs k d) ≡ true) (take k xs) d
      (λ i h.
      let below : i < k = omega (arith, h, length-take-le k xs (omega arith)) in
      let far : lt (get_or xs (k - 1) d) (get_or xs i d) ≡ false = sorted_far lt weak xs up i (k - 1) d (omega arith) (omega arith) in
      subst (λ (y : X). lt y (get_or xs k d) ≡ true) (sym (get_or-take k xs i d below))
      (true_from_ne_false (lt (get_or xs i d) (get_or xs k d)) (λ e. false≢true (sym (weak.chain (get_or xs (k - 1) d) (get_or xs i d) (get_or xs k d) far e) ∙ less))))

  -- and where it isn't, it is alike
  pub tied_to_last : (xs : List X) → IsSortedBy lt xs → (k : ℕ) (d : X) → 0 < k → k < length xs → lt (get_or xs (k - 1) d) (get_or xs k d) ≡ false
      → ties lt (get_or xs k d) (get_or xs (k - 1) d) ≡ true
  tied_to_last xs up k d some inside not_less =
      tied (get_or xs k d) (get_or xs (k - 1) d) (sorted_far lt weak xs up (k - 1) k d (omega arith) inside) not_less

  -- those before the first of them are none of them
  pub alike_from : (x : X) (xs : List X) (k : ℕ) → All (λ y. lt y x ≡ true) (take k xs) → filter (ties lt x) (drop k xs) ≡ filter (ties lt x) xs
  alike_from x xs k less =
      let p : X → Bool = ties lt x in
      let none : filter p (take k xs) ≡ [] = filter_none p (take k xs) (All-weaker (λ y. lt y x ≡ true) (λ y. p y ≡ false) (λ y h. untied_before x y h) (take k xs) less) in
      sym (ap (filter p) (sym (take-append-drop k xs)) ∙ filter-append p (take k xs) (drop k xs) ∙ ap (λ ys. ys ++ filter p (drop k xs)) none)

  pub first_alike : (x : X) (xs : List X) → slice_get (filter (ties lt x) (x ∷ xs)) 0 ≡ Some x
  first_alike x xs =
      ap (λ (b : Bool). slice_get (cond b (x ∷ filter (ties lt x) xs) (filter (ties lt x) xs)) 0) (tied x x (not_itself x) (not_itself x))

  -- ---- the last of them

  -- where the elements that x isn't less than stand before the others
  pub alike_first : (x : X) (xs : List X) (n : ℕ) → n ≤ length xs → All (λ y. lt y x ≡ false) xs
      → ((k : ℕ) (d : X) → 0 ≤ k → k < n → not (lt x (get_or xs k d)) ≡ true) → ((k : ℕ) (d : X) → n ≤ k → k < length xs → not (lt x (get_or xs k d)) ≡ false)
      → take n xs ≡ filter (ties lt x) xs
  alike_first x xs n le none_less front back =
      let p : X → Bool = ties lt x in
      let yes : All (λ y. p y ≡ true) (take n xs) = λ k d h.
      let below : k < n = omega (arith, h, length-take-le n xs le) in
      subst (λ (y : X). p y ≡ true) (sym (get_or-take n xs k d below))
      (tied x (get_or xs k d) (not-true (lt x (get_or xs k d)) (front k d (omega arith) below)) (none_less k d (omega arith))) in
      let no : All (λ y. p y ≡ false) (drop n xs) = λ k d h.
      subst (λ (y : X). p y ≡ false) (sym (get_or-drop n xs k d))
      (untied_after x (get_or xs (n + k) d) (not-false (lt x (get_or xs (n + k) d)) (back (n + k) d (omega arith) (omega (arith, h, length-drop n xs))))) in
      sym (ap (filter p) (sym (take-append-drop n xs)) ∙ filter-append p (take n xs) (drop n xs) ∙ ap (λ ys. filter p (take n xs) ++ ys) (filter_none p (drop n xs) no)
      ∙ append-nil (filter p (take n xs)) ∙ filter_all p (take n xs) yes)

  -- they do so in a sorted list
  pub stand_first : (x : X) (xs : List X) → IsSortedBy lt xs → IsPartitionedBy (λ y. not (lt x y)) xs
  stand_first x xs up = λ i j d le inside h.
      not_from_false (lt x (get_or xs i d))
      (weak.chain x (get_or xs j d) (get_or xs i d) (not-true (lt x (get_or xs j d)) h) (sorted_far lt weak xs up i j d le inside))
