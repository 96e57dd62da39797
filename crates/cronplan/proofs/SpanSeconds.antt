-- The seconds of a span.
use Rattle.std.proofs.Common.{◌≡◌, ℤ, pos, true, ◌-ℤ◌, ◌<ℤ◌, ◌≤ℤ◌, arith}
use Rattle.std.specs.Prelude.{IsTrue}
use Rattle.std.proofs.lemmas.Int.{ints, to_z-of_z}
use Rattle.croner_base.specs.Table.{first_instant, last_instant, is_table_second}
use Rattle.cronplan.specs.Spans.{is_span}

pub record Spans (first end : ℤ) : Type 0 where
  pub late : first_instant <ℤ first
  pub order : first ≤ℤ end
  pub early : end ≤ℤ last_instant

pub span_at : (first end : ℤ) → IsTrue (is_span first end) → Spans first end
span_at first end h = record { late = grind (arith, ints); order = grind (arith, ints); early = grind (arith, ints) }

pub at_span : (first end : ℤ) → Spans first end → IsTrue (is_span first end)
at_span first end h = grind (arith, ints)

pub held_before : (first end i : ℤ) → Spans first end → i ≡ first -ℤ pos 1 → IsTrue (is_table_second i)
held_before first end i h e = grind (arith, ints)

pub held_in : (first end i : ℤ) → Spans first end → first ≤ℤ i → i <ℤ end → is_table_second i ≡ true
held_in first end i h from before = grind (arith, ints)

pub ruleset span_ends = (ints, to_z-of_z, span_at)
