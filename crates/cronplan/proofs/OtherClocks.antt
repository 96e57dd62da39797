-- A plan on another clock: what stays of its starts.
use Rattle.std.proofs.Common.{◌≡◌, ◌∙◌, ◌≤◌, ◌<◌, ◌+◌, ◌≤ℤ◌, ℕ, ℤ, Bool, true, false, List, [], ◌∷◌, length, map, get_or, cond, is_lt, refl, sym, ap, subst, arith}
use Rattle.std.proofs.lemmas.Int.{ints}
use Rattle.std.proofs.lemmas.List.{length-map, get_or-map}
use Rattle.std.proofs.lemmas.List.Elements.{All-map, All-weaker, All-head, All-tail}
use Rattle.std.proofs.lemmas.List.Sorted.{All-permutation, length_permutation}
use Rattle.std.specs.List.{All}
use Rattle.std.specs.List.Sorted.{IsPermutation, IsSorted}
use Rattle.croner_base.specs.Table.{is_table_second}
use Rattle.croner_base.specs.Zone.{Zone}
use Rattle.cronplan.specs.declared.start.JobStart.{JobStart}
use Rattle.cronplan.specs.OtherClock.{shown_on, all_shown_on}
use Rattle.cronplan.specs.Starts.{start_cmp}

same_second : (z : Zone) (s : JobStart) → (shown_on z s).second ≡ s.second
same_second z s = at (is_table_second s.second) where
  at : (b : Bool) → (cond b (record s { wall = z.reads s.second }) s).second ≡ s.second
  at true = refl
  at false = refl

-- none is earlier
pub shown_within : (z : Zone) (first : ℤ) (starts shown : List JobStart) → IsPermutation (map (shown_on z) starts) shown
    → All (λ (s : JobStart). first ≤ℤ s.second) starts → All (λ (s : JobStart). first ≤ℤ s.second) shown
shown_within z first starts shown same h =
    let P : JobStart → Type 0 = λ s. first ≤ℤ s.second in
    All-permutation P (map (shown_on z) starts) shown same
    (All-map P (shown_on z) starts (All-weaker P (λ s. P (shown_on z s)) (λ s le. subst (λ (i : ℤ). first ≤ℤ i) (sym (same_second z s)) le) starts h))

-- there are as many
pub shown_few : (z : Zone) (most : ℕ) (starts shown : List JobStart) → IsPermutation (map (shown_on z) starts) shown
    → length starts ≤ most → length shown ≤ most
shown_few z most starts shown same le =
    subst (λ (n : ℕ). n ≤ most) (sym (length_permutation (map (shown_on z) starts) shown same ∙ length-map starts (shown_on z))) le

-- ---- in order

-- one that isn't less than another isn't less on another clock
not_less : (z : Zone) (x y : JobStart) → is_lt (start_cmp y x) ≡ false → is_lt (start_cmp (shown_on z y) (shown_on z x)) ≡ false
not_less z x y h = grind (arith, ints)

pub shown_in_order : (z : Zone) (starts : List JobStart) → IsSorted start_cmp starts → IsSorted start_cmp (all_shown_on z starts)
shown_in_order z starts h k d low within =
    let inside : k + 1 < length starts = omega (arith, within, length-map starts (shown_on z)) in
    rw (get_or-map (shown_on z) starts k d d (omega (arith, inside)), get_or-map (shown_on z) starts (k + 1) d d inside)
    (not_less z (get_or starts k d) (get_or starts (k + 1) d) (h k d low inside))

pub shown_as_many : (z : Zone) (starts : List JobStart) → length (all_shown_on z starts) ≡ length starts
shown_as_many z starts = length-map starts (shown_on z)

-- on the plan's own clock they are the same
own : (z : Zone) (s : JobStart) → s.wall ≡ z.reads s.second → shown_on z s ≡ s
own z s e = at (is_table_second s.second) where
  at : (b : Bool) → cond b (record s { wall = z.reads s.second }) s ≡ s
  at true = ap (λ (w : ℤ). record s { wall = w }) (sym e)
  at false = refl

pub all_own : (z : Zone) (starts : List JobStart) → All (λ (s : JobStart). s.wall ≡ z.reads s.second) starts → all_shown_on z starts ≡ starts
all_own z [] h = refl
all_own z (s ∷ ss) h = ap (λ (t : JobStart). t ∷ all_shown_on z ss) (own z s (All-head (λ (t : JobStart). t.wall ≡ z.reads t.second) s ss h))
    ∙ ap (λ (ts : List JobStart). s ∷ ts) (all_own z ss (All-tail (λ (t : JobStart). t.wall ≡ z.reads t.second) s ss h))
