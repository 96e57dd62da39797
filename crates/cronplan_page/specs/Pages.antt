-- The page of a plan, in the order of its questions. Source: this crate's documentation.
use Rattle.std.specs.Prelude.{ℕ, Bool, List, [], ◌∷◌, length, ◌++◌, codes, Option, Some, None, option_copied, if◌then◌else◌}
use Rattle.croner_base.specs.declared.time.table.ClockTable.{ClockTable}
use Rattle.cronplan.specs.Counts.{count_of}
use Rattle.cronplan_forms.specs.declared.beside.OtherClock.{OtherClock}
use Rattle.cronplan_page.specs.declared.markup.Line.{Line}
use Rattle.cronplan_page.specs.declared.page.Page.{Page}
use Rattle.cronplan_page.specs.declared.pieces.Piece.TheVariants as pieces
use Rattle.cronplan_page.specs.ClockChanges.{changes_text}
use Rattle.cronplan_page.specs.Fullest.{fullest_text}
use Rattle.cronplan_page.specs.Markup.{html, element, section_text}
use Rattle.cronplan_page.specs.Pieces.{piece_text}
use Rattle.cronplan_page.specs.PlanDays.{days_text}
use Rattle.cronplan_page.specs.PlanJobs.{frequent_text, lines_section, table_text}
use Rattle.cronplan_page.specs.Quiet.{quiet_text}
use Rattle.cronplan_page.specs.Weeks.{week_text}
use Rattle.cronplan_page.specs.Words.{many_text, between_text}

-- the head of a page with this title
unfoldable pub head_text : List ℕ → List ℕ
head_text title =
    piece_text pieces.Head ++ (element pieces.Title title pieces.TitleEnd ++ (piece_text pieces.Style ++ piece_text pieces.HeadEnd))

-- what cron ignores, and nothing where that is nothing
unfoldable pub ignored_text : List Line → List ℕ
ignored_text [] = []
ignored_text (line ∷ lines) =
    piece_text pieces.Bad ++ (section_text pieces.IgnoredHeading (line ∷ lines) pieces.SectionEnd ++ piece_text pieces.SectionEnd)

-- a second zone: that its clock stands after an equals sign, or that it isn't followed
abbrev pub followed_text : Option ClockTable → List ℕ → List ℕ
followed_text (Some table) zone = element pieces.AndOn zone pieces.AndOnEnd
followed_text None zone = element pieces.Unfollowed zone pieces.UnfollowedEnd

abbrev pub other_zone_text : OtherClock → List ℕ
other_zone_text other = followed_text (option_copied other.table) other.zone.now

-- the same of one that is shown, if one is
abbrev pub other_text : Option OtherClock → List ℕ
other_text None = []
other_text (Some other) = other_zone_text other

-- the span, and whose clock that is
unfoldable pub span_text : Page → List ℕ
span_text p = between_text p.first p.end ++ (piece_text pieces.OnClock ++ (html p.view.zone.now ++ other_text p.view.other))

-- how many jobs there are, and how many starts of them are shown
unfoldable pub counts_text : Page → List ℕ
counts_text p =
    codes ": " ++ (many_text (length p.view.jobs.now) (codes "job") ++ (codes ", with "
    ++ (many_text (count_of p.view.plan.now.starts.items) (codes "start") ++ codes " shown.")))

-- what is said where the plan ends before what was asked for
abbrev pub cut_text : Bool → List ℕ
cut_text is_cut = if is_cut then piece_text pieces.Cut else []

-- what the page is of
unfoldable pub about_text : Page → List ℕ
about_text p = piece_text pieces.Paragraph ++ (span_text p ++ (counts_text p ++ (piece_text pieces.ParagraphEnd ++ cut_text p.view.is_cut)))

-- its first lines: what it is of, what cron ignores, and what isn't shown
unfoldable pub top_text : Page → List ℕ
top_text p =
    element pieces.Name p.about.title.now pieces.NameEnd
    ++ (about_text p ++ (ignored_text p.about.ignored.now ++ frequent_text p.view.jobs.now p.view.frequent.now))

-- what a plan answers: when nothing starts, when most does, how much in each hour, and what the clock does
unfoldable pub answers_text : Page → List ℕ
answers_text p =
    quiet_text p.quiet.now
    ++ (fullest_text p.view.jobs.now p.view.plan.now.starts.items p.fullest.now ++ (week_text p.days.now ++ changes_text p.changes.now))

-- its jobs and its days
unfoldable pub plan_text : Page → List ℕ
plan_text p = lines_section p ++ (days_text p.view.jobs.now p.starts.now p.days.now ++ table_text p)

-- a page
unfoldable pub page_text : Page → List ℕ
page_text p = head_text p.about.title.now ++ (top_text p ++ (answers_text p ++ (plan_text p ++ piece_text pieces.PageEnd)))
