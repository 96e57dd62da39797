-- Changes of a clock, hours and dates, one after the other.
use Rattle.std.proofs.Common.{◌≡◌, ◌∙◌, ℕ, ℤ, pos, negsuc, ◌+◌, ◌<◌, ◌≤ℤ◌, List, [], ◌∷◌, ◌++◌, length, get_or, take, refl, ap, sym, subst, arith, FitsSigned, w64, ◌+ℤ◌, ◌-ℤ◌, Bool, true, false, cond, int_lt, int_le, ◌&&◌, ◌<ℤ◌, unsigned_abs}
use Rattle.std.proofs.lemmas.Int.{ints, clamps, by_lt_z}
use Rattle.std.proofs.lemmas.List.{take_more, append-nil, length-append, get_or_append_left, get_or_at}
use Rattle.std.proofs.lemmas.List.Concat.{flat_map-append}
use Rattle.std.specs.Int.{int_min, int_max}
use Rattle.croner_base.specs.Zone.{Zone}
use Rattle.cronplan.specs.declared.changes.ClockChange.{ClockChange}
use Rattle.cronplan.specs.declared.span.Span.{Span}
use Rattle.cronplan.specs.Changes.{change_at, change_in, changes_in}
use Rattle.cronplan.specs.Counts.{date_of}
use Rattle.cronplan.specs.Days.{dates_between}
use Rattle.cronplan.specs.Private.CountedPlan.{IsDateNumber}

-- one change of a table more
pub changes_more : (z : Zone) (span : Span) (cs : List (ℤ × ℤ)) (i : ℕ) (d : ℤ × ℤ) → i < length cs
    → changes_in z span (take (i + 1) cs) ≡ changes_in z span (take i cs) ++ change_in z span (get_or cs i d).0
changes_more z span cs i d h =
    ap (changes_in z span) (take_more cs i d h) ∙ flat_map-append (λ (c : ℤ × ℤ). change_in z span c.0) (take i cs) (get_or cs i d ∷ [])
    ∙ ap (λ xs. changes_in z span (take i cs) ++ xs) (append-nil (change_in z span (get_or cs i d).0))

-- a change that lies in a span
pub change_there : (z : Zone) (span : Span) (i : ℤ) (c : ClockChange) → span.first ≤ℤ i → i <ℤ span.end → c.second ≡ i → c.before ≡ z.reads (i -ℤ pos 1) → c.shown ≡ z.reads i
    → c ∷ [] ≡ change_in z span i
change_there z span i c le lt second before shown =
    let low : int_le span.first i ≡ true = grind (arith, ints) in
    let high : int_lt i span.end ≡ true = grind (arith, ints) in
    ap (λ (x : ClockChange). x ∷ []) (same c second before shown) ∙ sym (ap (λ (b : Bool). cond (b && int_lt i span.end) (change_at z i ∷ []) []) low ∙ ap (λ (b : Bool). cond b (change_at z i ∷ []) []) high) where
      same : (x : ClockChange) → x.second ≡ i → x.before ≡ z.reads (i -ℤ pos 1) → x.shown ≡ z.reads i → x ≡ change_at z i
      same x e f g = ap (λ (s : ℤ). record { second = s; before = x.before; shown = x.shown }) e
          ∙ ap (λ (b : ℤ). record { second = i; before = b; shown = x.shown }) f ∙ ap (λ (b : ℤ). record { second = i; before = z.reads (i -ℤ pos 1); shown = b }) g

-- dates of wall seconds are numbers of dates, and the least and the greatest of two are
pub date_number : (w : ℤ) → FitsSigned w64 w → IsDateNumber (date_of w)
date_number (pos a) h = record { low = omega (arith, ints); high = omega (arith, ints, h) }
date_number (negsuc a) h = record { low = omega (arith, ints, h); high = omega (arith, ints) }

-- and so are the dates beside them
pub date_after : (w r : ℤ) → FitsSigned w64 w → r ≡ date_of w +ℤ pos 1 → IsDateNumber r
date_after (pos a) r h e = record { low = omega (arith, ints, e); high = omega (arith, ints, h, e) }
date_after (negsuc a) r h e = record { low = omega (arith, ints, h, e); high = omega (arith, ints, e) }

pub date_before : (w r : ℤ) → FitsSigned w64 w → r ≡ date_of w -ℤ pos 1 → IsDateNumber r
date_before (pos a) r h e = record { low = omega (arith, ints, e); high = omega (arith, ints, h, e) }
date_before (negsuc a) r h e = record { low = omega (arith, ints, h, e); high = omega (arith, ints, e) }

pub least_number : (a b r : ℤ) → IsDateNumber a → IsDateNumber b → r ≡ int_min a b → IsDateNumber r
least_number a b r m n e = record { low = omega (arith, ints, clamps, e, m.low, n.low); high = omega (arith, ints, clamps, e, m.high, n.high) }

pub greatest_number : (a b r : ℤ) → IsDateNumber a → IsDateNumber b → r ≡ int_max a b → IsDateNumber r
greatest_number a b r m n e = record { low = omega (arith, ints, clamps, e, m.low, n.low); high = omega (arith, ints, clamps, e, m.high, n.high) }

-- what holds of each element at its place
pub each_more : {X : Type 0} (P : ℕ → X → Type 0) (old new : List X) (x : X) → new ≡ old ++ x ∷ [] → ((k : ℕ) (d : X) → k < length old → P k (get_or old k d))
    → P (length old) x → (k : ℕ) (d : X) → k < length new → P k (get_or new k d)
each_more {X} P old new x e each one k d h =
    let inside : k < length old + 1 = omega (arith, h, ap (λ (xs : List X). length xs) e, length-append old (x ∷ [])) in
    subst (λ (xs : List X). P k (get_or xs k d)) (sym e)
    (by_lt_z (pos k) (pos (length old))
    (λ below. let lt : k < length old = omega (arith, ints, below) in subst (P k) (sym (get_or_append_left old (x ∷ []) d k lt)) (each k d lt))
    (λ late. let same : k ≡ length old = omega (arith, ints, late, inside) in
    subst (λ (n : ℕ). P n (get_or (old ++ x ∷ []) n d)) (sym same) (subst (P (length old)) (sym (get_or_at old x [] d (length old) refl)) one)))

-- so many dates after the first, where there are more, is no later than the last
pub within_dates : (first last : ℤ) (k : ℕ) → k < dates_between first last → (first +ℤ pos k) ≤ℤ last
within_dates first last k = at (int_lt last first) refl where
  at : (b : Bool) → int_lt last first ≡ b → k < cond b 0 (unsigned_abs (last -ℤ first) + 1) → (first +ℤ pos k) ≤ℤ last
  at true e h = absurd (omega (arith, h))
  at false e h = let le : first ≤ℤ last = grind (arith, ints) in omega (arith, ints, le, h)

pub number_within : (first last : ℤ) (k : ℕ) (r : ℤ) → IsDateNumber first → IsDateNumber last → (first +ℤ pos k) ≤ℤ last → r ≡ first +ℤ pos k → IsDateNumber r
number_within first last k r m n le e = record { low = omega (arith, ints, e, m.low); high = omega (arith, ints, e, le, n.high) }
