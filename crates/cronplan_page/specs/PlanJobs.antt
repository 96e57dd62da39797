-- The jobs of a plan: their lines of time, and the table of what is told of them. Source: this crate's documentation.
use Rattle.std.specs.Prelude.{ℕ, suc, ◌==◌, List, [], ◌∷◌, length, filter, take, ◌++◌, codes, slice_get, Option, Some, None, if◌then◌else◌}
use Rattle.std.specs.Fmt.{decimal}
use Rattle.std.specs.List.{flat_map}
use Rattle.cronplan.specs.declared.frequent.Frequent.{Frequent}
use Rattle.cronplan_forms.specs.declared.job.Job.{Job}
use Rattle.cronplan_forms.specs.Calendars.{times_text}
use Rattle.cronplan_forms.specs.Answers.{or_more}
use Rattle.cronplan_forms.specs.Frequents.{frequent_count}
use Rattle.cronplan_page.specs.declared.about.Warnings.{Warnings}
use Rattle.cronplan_page.specs.declared.markup.Line.{Line}
use Rattle.cronplan_page.specs.declared.page.Page.{Page}
use Rattle.cronplan_page.specs.declared.pieces.Piece.{Piece}
use Rattle.cronplan_page.specs.declared.pieces.Piece.TheVariants as pieces
use Rattle.cronplan_page.specs.declared.timed.TimedStart.{TimedStart}
use Rattle.cronplan_page.specs.Markup.{html, element, number_text, list_text, list_of}
use Rattle.cronplan_page.specs.Pieces.{piece_text}
use Rattle.cronplan_page.specs.TimeLines.{count_at, time_line}
use Rattle.cronplan_page.specs.Words.{title_text, many_text, time_text}

-- ---- jobs that start too often to be shown

-- one of these: its title, and how many starts it has
unfoldable pub frequent_line : List Job → Frequent → List ℕ
frequent_line jobs f =
    piece_text pieces.Item
    ++ (title_text jobs f.job ++ (piece_text pieces.ItemRest ++ (many_text f.starts (codes "start") ++ (or_more f.starts ++ piece_text pieces.ItemEnd))))

-- all of them
unfoldable pub frequent_lines : List Job → List Frequent → List ℕ
frequent_lines jobs frequent = flat_map (frequent_line jobs) frequent

-- their section, and nothing where there are none
unfoldable pub frequent_text : List Job → List Frequent → List ℕ
frequent_text jobs [] = []
frequent_text jobs (f ∷ fs) =
    piece_text pieces.Section
    ++ (piece_text pieces.FrequentHeading
    ++ (piece_text pieces.List ++ (frequent_lines jobs (f ∷ fs) ++ (piece_text pieces.ListEnd ++ piece_text pieces.SectionEnd))))

-- ---- lines of time

-- the line of time of a job that is shown
abbrev pub shown_line : Page → ℕ → Job → Option ℕ → List ℕ
shown_line p place job (Some starts) = []
shown_line p place job None = time_line p place job

unfoldable pub line_at : Page → ℕ → Job → List ℕ
line_at p place job = shown_line p place job (frequent_count p.view.frequent.now place)

-- those of the jobs from a place on
abbrev pub time_lines_from : Page → ℕ → List Job → List ℕ
time_lines_from p place [] = []
time_lines_from p place (job ∷ jobs) = line_at p place job ++ time_lines_from p (suc place) jobs

-- the section of these lines
unfoldable pub lines_section : Page → List ℕ
lines_section p = piece_text pieces.LinesHeading ++ time_lines_from p 0 p.view.jobs.now

-- ---- the table

-- the first starts of a job
abbrev pub most_next : ℕ
most_next = 3

abbrev pub next_starts : ℕ → List TimedStart → List TimedStart
next_starts place starts = take most_next (filter (λ (s : TimedStart). s.start.job == place) starts)

-- one of them, and how many times the job is started, where that isn't once
unfoldable pub next_line : TimedStart → List ℕ
next_line s = piece_text pieces.PlainItem ++ (time_text s.time ++ (times_text s.start.count ++ piece_text pieces.ItemEnd))

unfoldable pub next_lines : List TimedStart → List ℕ
next_lines starts = flat_map next_line starts

-- a cell with some of them
unfoldable pub next_cell : List TimedStart → List ℕ
next_cell starts = piece_text pieces.Cell ++ (list_of (length starts == 0) pieces.NoStart (next_lines starts) ++ piece_text pieces.CellEnd)

-- what is told of the starts of a job: how many, and the first; of one that isn't shown how many
abbrev pub starts_cells : Page → ℕ → Option ℕ → List ℕ
starts_cells p place (Some starts) = number_text starts ++ piece_text pieces.TooFrequent
starts_cells p place None = number_text (count_at place p.view.plan.now.starts.items) ++ next_cell (next_starts place p.starts.now)

-- what to beware of, if that is told
abbrev pub lines_or_none : Option Warnings → List Line
lines_or_none None = []
lines_or_none (Some warnings) = warnings.lines.now

abbrev pub warnings_at : List Warnings → ℕ → List Line
warnings_at warnings place = lines_or_none (slice_get warnings place)

-- a cell with a list
unfoldable pub list_cell : List Line → Piece → List ℕ
list_cell lines none = piece_text pieces.Cell ++ (list_text lines none ++ piece_text pieces.CellEnd)

-- where a job stands: its file and line
unfoldable pub place_cell : Job → List ℕ
place_cell job =
    piece_text pieces.Cell ++ (html job.file.now ++ (codes ":" ++ (decimal job.line ++ piece_text pieces.CellEnd)))

-- what is told of a job in words: its title, its times, and its line
unfoldable pub job_words : Job → List ℕ
job_words job =
    element pieces.Row job.title.now pieces.RowName ++ (element pieces.Cell job.words.now pieces.CellEnd ++ place_cell job)

-- the job at a place: those, its starts, and what to beware of
unfoldable pub job_row : Page → ℕ → Job → List ℕ
job_row p place job =
    job_words job
    ++ (starts_cells p place (frequent_count p.view.frequent.now place)
    ++ (list_cell (warnings_at p.about.warnings.now place) pieces.NoWarning ++ piece_text pieces.RowEnd))

-- the rows of the jobs from a place on
abbrev pub job_rows_from : Page → ℕ → List Job → List ℕ
job_rows_from p place [] = []
job_rows_from p place (job ∷ jobs) = job_row p place job ++ job_rows_from p (suc place) jobs

-- the section with their table
unfoldable pub table_text : Page → List ℕ
table_text p =
    piece_text pieces.JobsHeading ++ (piece_text pieces.JobsTable ++ (job_rows_from p 0 p.view.jobs.now ++ piece_text pieces.TableEnd))
