-- What a calm window begins with is a calm window.
use Rattle.std.proofs.Common.{◌≡◌, ℕ, zero, suc, ◌+◌, ◌≤◌, true, refl, sym, ap, ◌∙◌, subst, arith, ℤ, pos, ◌+ℤ◌, ◌-ℤ◌, ◌≤ℤ◌, List, [], ◌∷◌, ◌++◌, append_assoc, append-nil, nat_le, unsigned_abs}
use Rattle.std.proofs.lemmas.Bool.{le-leb}
use Rattle.std.proofs.lemmas.Int.{ints}
use Rattle.jiff_tz.specs.declared.timezone.TimeZone.{TimeZone}
use Rattle.croner_base.specs.Limits.{most_changes, most_gap_seconds}
use Rattle.croner_base.specs.Table.{is_apart, are_changes, met_count, met_gaps, is_calm_table}
use Rattle.croner_base.specs.ZoneTable.{IsCalmWindow, ahead_at, change_at, changes_after, window_changes}
use Rattle.croner_base.proofs.tables.TableCheck.{first_change, calm_parts}
use Rattle.croner_base.proofs.zones.ZoneChanges.{changes_more}
use Rattle.croner_base.proofs.zones.ZoneYears.{nonneg_abs}

-- ---- the changes of a longer window begin with those of a shorter one

longer : (f : ℤ → ℤ) (first : ℤ) (n k : ℕ) → (rest : List (ℤ × ℤ)) × (changes_after f first (n + k) ≡ changes_after f first n ++ rest)
longer f first n zero =
    let none : n + 0 ≡ n = omega arith in
    ([], ap (λ m. changes_after f first m) none ∙ sym (append-nil (changes_after f first n)))
longer f first n (suc k) =
    let one : n + suc k ≡ suc (n + k) = omega arith in
    let less = longer f first n k in
    let last : List (ℤ × ℤ) = change_at f (first +ℤ pos (suc (n + k))) in (
      less.0 ++ last,
      ap (λ m. changes_after f first m) one ∙ changes_more f first (n + k) ∙ ap (λ l. l ++ last) less.1 ∙ append_assoc (changes_after f first n) less.0 last,
    )

-- ---- what calm changes begin with is calm

apart_front : (c : ℤ × ℤ) (cs rest : List (ℤ × ℤ)) → is_apart c (cs ++ rest) ≡ true → is_apart c cs ≡ true
apart_front c [] rest h = refl
apart_front c (d ∷ ds) rest h = h

changes_front : (o : ℤ) (cs rest : List (ℤ × ℤ)) → are_changes o (cs ++ rest) ≡ true → are_changes o cs ≡ true
changes_front o [] rest h = refl
changes_front o (c ∷ cs) rest h =
    let f = first_change o c (cs ++ rest) h in
    rw (f.instant_in, f.offset_in, f.step, apart_front c cs rest f.apart, changes_front c.1 cs rest f.rest) refl

count_front : (o : ℤ) (cs rest : List (ℤ × ℤ)) → met_count o cs ≤ met_count o (cs ++ rest)
count_front o [] rest = omega arith
count_front o (c ∷ cs) rest = let more = count_front c.1 cs rest in omega (arith, more)

gaps_front : (o : ℤ) (cs rest : List (ℤ × ℤ)) → met_gaps o cs ≤ met_gaps o (cs ++ rest)
gaps_front o [] rest = omega arith
gaps_front o (c ∷ cs) rest = let more = gaps_front c.1 cs rest in omega (arith, more)

calm_front : (o : ℤ) (cs rest : List (ℤ × ℤ)) → is_calm_table o (cs ++ rest) ≡ true → is_calm_table o cs ≡ true
unfolding is_calm_table
calm_front o cs rest h =
    let p = calm_parts o (cs ++ rest) h in
    let count = count_front o cs rest in
    let gaps = gaps_front o cs rest in
    let few : nat_le (met_count o cs) most_changes ≡ true = le-leb _ _ (omega (arith, count, p.few)) in
    let few_seconds : nat_le (met_gaps o cs) most_gap_seconds ≡ true = le-leb _ _ (omega (arith, gaps, p.few_seconds)) in
    rw (p.offset_in, changes_front o cs rest p.changes, few, few_seconds) refl

-- ---- windows

-- a calm window is calm up to each of its seconds
pub calm_up_to : (tz : TimeZone) (first at last : ℤ) → first ≤ℤ at → at ≤ℤ last → IsCalmWindow tz first last → IsCalmWindow tz first at
calm_up_to tz first at last from to h =
    let n : ℕ = unsigned_abs (at -ℤ first) in
    let k : ℕ = unsigned_abs (last -ℤ at) in
    let na = nonneg_abs (at -ℤ first) (omega (arith, ints, from)) in
    let ka = nonneg_abs (last -ℤ at) (omega (arith, ints, to)) in
    let la = nonneg_abs (last -ℤ first) (omega (arith, ints, from, to)) in
    let all : unsigned_abs (last -ℤ first) ≡ n + k = omega (arith, ints, na, ka, la) in
    let whole = longer (ahead_at tz) first n k in
    let same : window_changes tz first last ≡ window_changes tz first at ++ whole.0 = ap (λ m. changes_after (ahead_at tz) first m) all ∙ whole.1 in
    let calm : is_calm_table (ahead_at tz first) (window_changes tz first at ++ whole.0) ≡ true =
    subst (λ cs. is_calm_table (ahead_at tz first) cs ≡ true) same h.calm in
    record {
      window = record { held_first = h.window.held_first; order = from; held_last = omega (arith, ints, to, h.window.held_last) };
      calm = calm_front (ahead_at tz first) (window_changes tz first at) whole.0 calm;
    }
