-- The stretches of the clock of a table in which it doesn't change: the first goes up to the first change, each other one begins at a
-- change. Private contracts alone cite these definitions.
use Rattle.std.specs.Prelude.{◌≡◌, ℕ, zero, suc, nat_lt, if◌then◌else◌, ℤ, pos, neg_ℤ, ◌+ℤ◌, ◌-ℤ◌, ◌<ℤ◌, ◌≤ℤ◌, List, length, slice_index_or}
use Rattle.croner_base.specs.Limits.{fold_limit}
use Rattle.croner_base.specs.Table.{offset_limit}
use Rattle.croner_base.specs.Private.TableSteps.{offset_past}
use Rattle.croner_base.specs.Zone.{Zone}

-- a number of seconds beyond all instants of a table
abbrev pub far : ℕ
far = 1_000_000_000_000

-- the first second of the stretch after so many changes, and the second after its last
abbrev pub begin_of : List (ℤ × ℤ) → ℕ → ℤ
begin_of cs zero = neg_ℤ (pos far)
begin_of cs (suc n) = (slice_index_or cs n (pos 0, pos 0)).0

abbrev pub end_of : List (ℤ × ℤ) → ℕ → ℤ
end_of cs n = if nat_lt n (length cs) then (slice_index_or cs n (pos 0, pos 0)).0 else pos far

-- the offset in force before it
abbrev pub offset_before : ℤ → List (ℤ × ℤ) → ℕ → ℤ
offset_before offset cs zero = offset
offset_before offset cs (suc n) = offset_past offset cs n

-- a stretch of a zone's clock, from its first second to the one before its end, with its offset and the wall second that is shown before it
pub record IsStretch (z : Zone) (begin end offset before : ℤ) : Type 0 where
  -- in it the clock goes straight on
  pub steady : (i : ℤ) → begin ≤ℤ i → i <ℤ end → z.reads i ≡ i +ℤ offset
  -- what the clock shows at the second before it, and no more at an earlier one
  pub last : z.reads (begin -ℤ pos 1) ≡ before
  pub past : (j : ℤ) → j <ℤ begin → z.reads j ≤ℤ before
  -- what it shows at its first second, and no less at a later one
  pub above : (j : ℤ) → begin ≤ℤ j → (begin +ℤ offset) ≤ℤ z.reads j
  -- the clock isn't put back far there
  pub back : (before +ℤ pos 1) ≤ℤ (begin +ℤ offset +ℤ pos fold_limit)
  pub order : begin <ℤ end
  -- the numbers are small
  pub begin_low : neg_ℤ (pos far) ≤ℤ begin
  pub end_high : end ≤ℤ pos far
  pub offset_low : neg_ℤ (pos offset_limit) ≤ℤ offset
  pub offset_high : offset ≤ℤ pos offset_limit
  pub before_low : (neg_ℤ (pos far) -ℤ pos offset_limit -ℤ pos 1) ≤ℤ before
  pub before_high : before ≤ℤ (pos far +ℤ pos offset_limit)
