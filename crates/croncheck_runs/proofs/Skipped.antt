-- How the seconds that the changes of a table skip are added up.
use Rattle.std.proofs.Common.{◌≡◌, ℕ, ◌+◌, ◌<◌, ◌≤◌, refl, arith, ℤ, List, length, get_or, drop}
use Rattle.std.proofs.lemmas.List.{drop_all, drop_more}
use Rattle.croner_base.specs.declared.time.table.ClockTable.{ClockTable}
use Rattle.croner_base.specs.Limits.{most_gap_seconds}
use Rattle.croner_base.specs.Table.{gap_at, met_gaps}
use Rattle.croner_base.proofs.tables.TableCheck.{calm_parts}

-- those of the changes from one on are its own and those of the others
one_more : (o : ℤ) (cs : List (ℤ × ℤ)) (n sum all : ℕ) (d : ℤ × ℤ) → n < length cs → sum + met_gaps o (drop n cs) ≡ all
    → sum + (gap_at o (get_or cs n d) + met_gaps (get_or cs n d).1 (drop (n + 1) cs)) ≡ all
one_more o cs n sum all d inside same = rw (drop_more cs n d inside) at same

-- one change more is added
pub added : (o p : ℤ) (cs : List (ℤ × ℤ)) (n sum more all : ℕ) (d : ℤ × ℤ) → n < length cs → sum + met_gaps o (drop n cs) ≡ all
    → more ≡ sum + gap_at o (get_or cs n d) → p ≡ (get_or cs n d).1 → more + met_gaps p (drop (n + 1) cs) ≡ all
added o p cs n sum more all d inside same more_is p_is =
    let row = one_more o cs n sum all d inside same in
    rw (more_is, p_is) (omega (arith, row))

-- there is room for it
pub room : (t : ClockTable) (o : ℤ) (cs : List (ℤ × ℤ)) (n sum : ℕ) (d : ℤ × ℤ) → n < length cs
    → sum + met_gaps o (drop n cs) ≡ met_gaps t.first_offset t.changes.items → sum + gap_at o (get_or cs n d) ≤ most_gap_seconds
room t o cs n sum d inside same =
    let row = one_more o cs n sum (met_gaps t.first_offset t.changes.items) d inside same in
    let few = (calm_parts t.first_offset t.changes.items t.calm).few_seconds in
    omega (arith, row, few)

-- all are added
pub all_added : (t : ClockTable) (o : ℤ) (cs : List (ℤ × ℤ)) (n sum : ℕ) → length cs ≤ n
    → sum + met_gaps o (drop n cs) ≡ met_gaps t.first_offset t.changes.items → (sum ≡ met_gaps t.first_offset t.changes.items) × (sum ≤ most_gap_seconds)
all_added t o cs n sum end same =
    let few = (calm_parts t.first_offset t.changes.items t.calm).few_seconds in
    let none : met_gaps o (drop n cs) ≡ 0 = rw (drop_all n cs end) refl in
    (omega (arith, same, none), omega (arith, same, none, few))
