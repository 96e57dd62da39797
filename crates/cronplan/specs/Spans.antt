-- Spans of time. Source: this crate's documentation of `Span`.
use Rattle.std.specs.Prelude.{Bool, ◌&&◌, ℤ, int_lt, int_le}
use Rattle.croner_base.specs.Table.{first_instant, last_instant}

-- it ends no earlier than it begins; each second of it, the one before it and its end are seconds on the clock of a table
abbrev pub is_span : ℤ → ℤ → Bool
is_span first end = int_lt first_instant first && int_le first end && int_le end last_instant
