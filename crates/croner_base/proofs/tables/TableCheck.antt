-- What a calm table says of its changes, and how the check goes through them.
use Rattle.std.proofs.Common.{◌≡◌, sym, subst, suc, Bool, true, false, refl, arith, ◌&&◌, nat_le, ℕ, ◌+◌, ◌<◌, ◌≤◌, ℤ, pos, ◌+ℤ◌, ◌≤ℤ◌, int_le, List, [], ◌∷◌, length, get_or, drop, drop-cons, add-one}
use Rattle.std.proofs.lemmas.Bool.{leb-true}
use Rattle.std.proofs.lemmas.Int.{ints}
use Rattle.jiff_core.proofs.SignedLemmas.{signed_arith}
use Rattle.croner_base.specs.Limits.{apart_limit, most_changes, most_gap_seconds}
use Rattle.croner_base.specs.Table.{first_instant, is_table_second, is_apart, are_changes, is_offset, is_step, met_at, gap_at, met_count, met_gaps, is_calm_table}
use Rattle.croner_base.specs.Private.TableSteps.{Known, known_by, known_after, IsNextChange}
use Rattle.croner_base.specs.declared.time.table.check.Tally.{Tally}
use Rattle.croner_base.proofs.tables.TableTests.{both_parts, not_true, le_of, le_test, instant_bounds, instant_test}

-- what is said of the first of some changes, and of the others
pub record IsFirst (o : ℤ) (c : ℤ × ℤ) (cs : List (ℤ × ℤ)) : Type 0 where
  pub instant_in : is_table_second c.0 ≡ true
  pub offset_in : is_offset c.1 ≡ true
  pub step : is_step o c.1 ≡ true
  pub apart : is_apart c cs ≡ true
  pub rest : are_changes c.1 cs ≡ true

pub first_change : (o : ℤ) (c : ℤ × ℤ) (cs : List (ℤ × ℤ)) → are_changes o (c ∷ cs) ≡ true → IsFirst o c cs
first_change o c cs h =
    let r = both_parts _ _ h in
    let a = both_parts _ _ r.0 in
    let s = both_parts _ _ a.0 in
    let i = both_parts _ _ s.0 in
    record { instant_in = i.0; offset_in = i.1; step = s.1; apart = a.1; rest = r.1 }

-- what a calm table says
pub record IsCalmTable (o : ℤ) (cs : List (ℤ × ℤ)) : Type 0 where
  pub offset_in : is_offset o ≡ true
  pub changes : are_changes o cs ≡ true
  pub few : met_count o cs ≤ most_changes
  pub few_seconds : met_gaps o cs ≤ most_gap_seconds

pub calm_parts : (o : ℤ) (cs : List (ℤ × ℤ)) → is_calm_table o cs ≡ true → IsCalmTable o cs
unfolding is_calm_table
calm_parts o cs h =
    let g = both_parts _ _ h in
    let m = both_parts _ _ g.0 in
    let p = both_parts _ _ m.0 in
    record { offset_in = p.0; changes = p.1; few = leb-true _ _ m.1; few_seconds = leb-true _ _ g.1 }

-- the first change, where there is one, lies at an instant or after it
abbrev is_late : ℤ → List (ℤ × ℤ) → Bool
is_late e [] = true
is_late e (c ∷ cs) = int_le e c.0

-- the changes from some place on keep the rules, with what is known of those before
abbrev pub goes_on : Known → List (ℤ × ℤ) → Bool
goes_on k cs =
    is_late k.earliest cs && are_changes k.offset cs && nat_le (k.met + met_count k.offset cs) most_changes
    && nat_le (k.gap_seconds + met_gaps k.offset cs) most_gap_seconds

implied : (a b : Bool) → (b ≡ true → a ≡ true) → (a && b) ≡ b
implied true b h = refl
implied false true h = h refl
implied false false h = refl

first_late : (o : ℤ) (cs : List (ℤ × ℤ)) → are_changes o cs ≡ true → is_late first_instant cs ≡ true
first_late o [] h = refl
first_late o (c ∷ cs) h = le_test first_instant c.0 (instant_bounds c.0 (first_change o c cs h).instant_in).0

-- all changes of a table, where the first offset is one
pub calm_is : (o : ℤ) (cs : List (ℤ × ℤ)) → is_offset o ≡ true → is_calm_table o cs ≡ goes_on (record { offset = o; earliest = first_instant; met = 0; gap_seconds = 0 }) cs
unfolding is_calm_table
calm_is o cs h =
    let met : 0 + met_count o cs ≡ met_count o cs = omega arith in
    let gaps : 0 + met_gaps o cs ≡ met_gaps o cs = omega arith in
    rw (h, met, gaps, implied (is_late first_instant cs) (are_changes o cs) (first_late o cs))

-- and where it is none
pub not_calm : (o : ℤ) (cs : List (ℤ × ℤ)) → is_offset o ≡ false → is_calm_table o cs ≡ false
unfolding is_calm_table
not_calm o cs h = rw h

next_of : (k : Known) (c : ℤ × ℤ) (cs : List (ℤ × ℤ)) → goes_on k (c ∷ cs) ≡ true → IsNextChange k c
next_of k c cs h =
    let g = both_parts _ _ h in
    let m = both_parts _ _ g.0 in
    let s = both_parts _ _ m.0 in
    let f = first_change k.offset c cs s.1 in
    let few = leb-true _ _ m.1 in
    let few_seconds = leb-true _ _ g.1 in
    record {
      late_enough = le_of _ _ s.0;
      early_enough = (instant_bounds c.0 f.instant_in).1;
      offset_in = f.offset_in;
      step = f.step;
      few = omega (arith, few);
      few_seconds = omega (arith, few_seconds);
    }

apart_is : (c : ℤ × ℤ) (cs : List (ℤ × ℤ)) → is_apart c cs ≡ is_late (c.0 +ℤ pos apart_limit +ℤ pos 1) cs
apart_is c [] = refl
apart_is c (d ∷ ds) = grind (arith, ints)

-- where the next change can't follow, the rules are not kept
pub stop : (k : Known) (cs : List (ℤ × ℤ)) (n : ℕ) → n < length cs → (IsNextChange k (get_or cs n (pos 0, pos 0)) → ⊥) → goes_on k (drop n cs) ≡ false
stop k cs n lt refused =
    rw (drop-cons cs n (pos 0, pos 0) lt) (not_true (goes_on k (get_or cs n (pos 0, pos 0) ∷ drop (suc n) cs)) (λ e. refused (next_of k _ _ e)))

follows : (k : Known) (c : ℤ × ℤ) (cs : List (ℤ × ℤ)) → first_instant ≤ℤ k.earliest → IsNextChange k c → goes_on k (c ∷ cs) ≡ goes_on (known_after k c) cs
follows k c cs low n =
    let late = le_test k.earliest c.0 n.late_enough in
    let instant = instant_test c.0 (omega (arith, signed_arith, low, n.late_enough)) n.early_enough in
    let met : k.met + (met_at k.offset c + met_count c.1 cs) ≡ k.met + met_at k.offset c + met_count c.1 cs = omega arith in
    let gaps : k.gap_seconds + (gap_at k.offset c + met_gaps c.1 cs) ≡ k.gap_seconds + gap_at k.offset c + met_gaps c.1 cs = omega arith in
    rw (late, instant, n.offset_in, n.step, apart_is c cs, met, gaps)

-- where it can, the rest decides
pub go : (k : Known) (cs : List (ℤ × ℤ)) (n : ℕ) (t : Tally) → n < length cs → first_instant ≤ℤ k.earliest → IsNextChange k (get_or cs n (pos 0, pos 0)) → known_by t ≡ known_after k (get_or cs n (pos 0, pos 0)) → goes_on k (drop n cs) ≡ goes_on (known_by t) (drop (n + 1) cs)
go k cs n t lt low next h = subst (λ x. goes_on k (drop n cs) ≡ goes_on x (drop (n + 1) cs)) (sym h) (rw (add-one, drop-cons cs n (pos 0, pos 0) lt) (follows k _ _ low next))
