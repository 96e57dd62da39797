-- The fullest moments. Source: this crate's documentation.
use Rattle.std.specs.Prelude.{ℕ, ◌==◌, ℤ, List, [], length, ◌++◌, codes, if◌then◌else◌}
use Rattle.std.specs.List.{flat_map}
use Rattle.std.specs.Ordering.{int_eq}
use Rattle.cronplan.specs.declared.moments.Moment.{Moment}
use Rattle.cronplan.specs.declared.start.JobStart.{JobStart}
use Rattle.cronplan_forms.specs.declared.job.Job.{Job}
use Rattle.cronplan_forms.specs.declared.timed.TimedMoment.{TimedMoment}
use Rattle.cronplan_page.specs.declared.pieces.Piece.TheVariants as pieces
use Rattle.cronplan_page.specs.Markup.{list_of}
use Rattle.cronplan_page.specs.Pieces.{piece_text}
use Rattle.cronplan_page.specs.Words.{many_text, started_text, time_text}

-- a start at a second: its job after a comma, and nothing where it is at another
abbrev pub name_at : List Job → ℤ → JobStart → List ℕ
name_at jobs second s = if int_eq s.second second then codes ", " ++ started_text jobs s.job s.count else []

-- the jobs that start at a second
unfoldable pub names_at : List Job → ℤ → List JobStart → List ℕ
names_at jobs second starts = flat_map (name_at jobs second) starts

-- how many starts there are at a moment, and of which jobs
unfoldable pub moment_words : List Job → List JobStart → Moment → List ℕ
moment_words jobs starts m = many_text m.starts (codes "start") ++ names_at jobs m.second starts

-- a moment
unfoldable pub moment_line : List Job → List JobStart → TimedMoment → List ℕ
moment_line jobs starts m =
    piece_text pieces.Item
    ++ (time_text m.time ++ (piece_text pieces.ItemRest ++ (moment_words jobs starts m.moment ++ piece_text pieces.ItemEnd)))

-- some moments
unfoldable pub moment_lines : List Job → List JobStart → List TimedMoment → List ℕ
moment_lines jobs starts moments = flat_map (moment_line jobs starts) moments

-- their section
unfoldable pub fullest_text : List Job → List JobStart → List TimedMoment → List ℕ
fullest_text jobs starts moments =
    piece_text pieces.FullestHeading ++ list_of (length moments == 0) pieces.NoMoment (moment_lines jobs starts moments)
