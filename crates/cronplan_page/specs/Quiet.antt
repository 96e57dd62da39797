-- The longest windows in which nothing starts. Source: this crate's documentation.
use Rattle.std.specs.Prelude.{ℕ, ◌==◌, List, length, ◌++◌, codes, [], if◌then◌else◌}
use Rattle.std.specs.List.{flat_map}
use Rattle.cronplan.specs.declared.windows.Window.{Window}
use Rattle.cronplan.specs.Windows.{seconds_in}
use Rattle.cronplan_forms.specs.declared.timed.TimedWindow.{TimedWindow}
use Rattle.cronplan_forms.specs.Answers.{is_at_edge}
use Rattle.cronplan_page.specs.declared.pieces.Piece.TheVariants as pieces
use Rattle.cronplan_page.specs.Markup.{list_of}
use Rattle.cronplan_page.specs.Pieces.{piece_text}
use Rattle.cronplan_page.specs.Words.{between_text, duration_text}

-- a window may be longer that ends or begins with the span
abbrev pub longer_text : Window → List ℕ
longer_text w = if is_at_edge w then codes ", or longer" else []

-- how long it is
unfoldable pub length_text : Window → List ℕ
length_text w = duration_text (seconds_in w) ++ longer_text w

-- a window
unfoldable pub window_line : TimedWindow → List ℕ
window_line w =
    piece_text pieces.Item ++ (between_text w.from w.until ++ (piece_text pieces.ItemRest ++ (length_text w.window ++ piece_text pieces.ItemEnd)))

-- some windows
unfoldable pub window_lines : List TimedWindow → List ℕ
window_lines windows = flat_map window_line windows

-- their section
unfoldable pub quiet_text : List TimedWindow → List ℕ
quiet_text windows = piece_text pieces.QuietHeading ++ list_of (length windows == 0) pieces.NoWindow (window_lines windows)
