-- The changes of a clock in words. Source: this crate's documentation.
use Rattle.std.specs.Prelude.{ℕ, ◌==◌, ◌-ℤ◌, int_lt, unsigned_abs, List, length, ◌++◌, codes, if◌then◌else◌}
use Rattle.std.specs.List.{flat_map}
use Rattle.cronplan_page.specs.declared.pieces.Piece.TheVariants as pieces
use Rattle.cronplan_page.specs.declared.timed.TimedChange.{TimedChange}
use Rattle.cronplan_page.specs.Markup.{list_of}
use Rattle.cronplan_page.specs.Pieces.{piece_text}
use Rattle.cronplan_page.specs.Words.{duration_text, clock_text}

-- by how many seconds the clock is put forward or back
abbrev pub seconds_moved : TimedChange → ℕ
seconds_moved c = unsigned_abs (c.before.ahead.seconds -ℤ c.shown.ahead.seconds)

-- what becomes of so much of the clock: it is skipped where the clock is put forward
abbrev pub fate_text : TimedChange → List ℕ
fate_text c = if int_lt c.before.ahead.seconds c.shown.ahead.seconds then codes " is skipped" else codes " is shown twice"

-- a change in words: what the clock shows the second before, and what it skips or repeats
unfoldable pub change_words : TimedChange → List ℕ
change_words c = codes "follows " ++ (clock_text c.before ++ (codes ": " ++ (duration_text (seconds_moved c) ++ fate_text c)))

-- a change
unfoldable pub change_line : TimedChange → List ℕ
change_line c =
    piece_text pieces.Item
    ++ (clock_text c.shown ++ (piece_text pieces.ItemRest ++ (change_words c ++ piece_text pieces.ItemEnd)))

-- some changes
unfoldable pub change_lines : List TimedChange → List ℕ
change_lines changes = flat_map change_line changes

-- their list
unfoldable pub changes_text : List TimedChange → List ℕ
changes_text changes = list_of (length changes == 0) pieces.NoChange (change_lines changes)
