-- The starts of a job along a line of time. Sources: SVG 2, sections 5.7 (title and desc) and 10.2 (rect), and this crate's documentation.
use Rattle.std.specs.Prelude.{ℕ, ◌*◌, ◌/◌, ◌==◌, nat_lt, ℤ, ◌-ℤ◌, unsigned_abs, List, [], ◌++◌, codes, sum_by, if◌then◌else◌}
use Rattle.std.specs.Fmt.{decimal}
use Rattle.std.specs.List.{flat_map}
use Rattle.cronplan.specs.declared.span.Span.{Span}
use Rattle.cronplan.specs.declared.start.JobStart.{JobStart}
use Rattle.cronplan_forms.specs.declared.job.Job.{Job}
use Rattle.cronplan_forms.specs.Calendars.{times_text}
use Rattle.cronplan_page.specs.declared.page.Page.{Page}
use Rattle.cronplan_page.specs.declared.pieces.Piece.TheVariants as pieces
use Rattle.cronplan_page.specs.declared.timed.TimedChange.{TimedChange}
use Rattle.cronplan_page.specs.declared.timed.TimedStart.{TimedStart}
use Rattle.cronplan_page.specs.ClockChanges.{change_words}
use Rattle.cronplan_page.specs.Markup.{html, element}
use Rattle.cronplan_page.specs.Pieces.{piece_text}
use Rattle.cronplan_page.specs.Words.{clock_text, many_text, time_text}

-- a job of more starts than these is shown as a band
abbrev pub most_marks : ℕ
most_marks = 200

-- where a second lies in a span, in thousandths of that; one that isn't in it lies at its end
abbrev pub part_of : ℕ → ℕ → ℕ
part_of gone whole = if nat_lt gone whole then gone * 1000 / whole else 1000

unfoldable pub thousandths : Span → ℤ → ℕ
thousandths span second = part_of (unsigned_abs (span.first -ℤ second)) (unsigned_abs (span.first -ℤ span.end))

-- how many starts a start of a job counts, and how many all starts of a job do
abbrev pub counted_at : ℕ → JobStart → ℕ
counted_at place s = if s.job == place then s.count else 0

abbrev pub count_at : ℕ → List JobStart → ℕ
count_at place starts = sum_by (counted_at place) starts

-- the begin of a mark at a place
unfoldable pub rect_text : List ℕ → ℕ → List ℕ
rect_text class at = codes "<rect class=\"" ++ (class ++ (codes "\" x=\"" ++ (decimal at ++ codes "\">")))

-- a start: a mark with its time, and how many times the job is started, where that isn't once
unfoldable pub mark_text : Span → TimedStart → List ℕ
mark_text span s =
    rect_text (codes "m") (thousandths span s.start.second)
    ++ (piece_text pieces.Title ++ (time_text s.time ++ (times_text s.start.count ++ piece_text pieces.MarkEnd)))

-- the same, and nothing where it is of another job
abbrev pub mark_of : Span → ℕ → TimedStart → List ℕ
mark_of span place s = if s.start.job == place then mark_text span s else []

-- the starts of a job as marks
unfoldable pub marks_text : Span → ℕ → List TimedStart → List ℕ
marks_text span place starts = flat_map (mark_of span place) starts

-- all starts of a job that has many
unfoldable pub band_text : ℕ → List ℕ
band_text n = codes "<rect class=\"b\" x=\"0\" width=\"1000\"><title>" ++ (many_text n (codes "start") ++ codes "</title></rect>")

-- the starts of a job, which are so many
abbrev pub starts_text : Span → ℕ → ℕ → List TimedStart → List ℕ
starts_text span place count starts = if nat_lt most_marks count then band_text count else marks_text span place starts

-- a change of the clock: a mark with what that is
unfoldable pub change_title : TimedChange → List ℕ
change_title c = clock_text c.shown ++ (codes " " ++ change_words c)

unfoldable pub change_mark : Span → TimedChange → List ℕ
change_mark span c =
    rect_text (codes "h") (thousandths span c.change.second) ++ (piece_text pieces.Title ++ (change_title c ++ piece_text pieces.MarkEnd))

-- all its changes
unfoldable pub change_marks : Span → List TimedChange → List ℕ
change_marks span changes = flat_map (change_mark span) changes

-- the name and the description of a picture, for who doesn't see it
unfoldable pub picture_names : Job → List ℕ
picture_names job = element pieces.Title job.title.now pieces.TitleEnd ++ element pieces.Description job.words.now pieces.Axis

-- its caption, and those
unfoldable pub line_head : Job → List ℕ
line_head job =
    element pieces.Figure job.title.now pieces.Caption ++ (html job.words.now ++ (piece_text pieces.Picture ++ picture_names job))

-- the line of time of the job at a place
unfoldable pub time_line : Page → ℕ → Job → List ℕ
time_line p place job =
    line_head job
    ++ (change_marks p.view.plan.now.span p.changes.now
    ++ (starts_text p.view.plan.now.span place (count_at place p.view.plan.now.starts.items) p.starts.now ++ piece_text pieces.FigureEnd))
