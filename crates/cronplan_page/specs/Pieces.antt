-- The markup of a page, which is the same for each plan. Sources: the HTML standard, section 13.1; Content Security Policy, section 3.3 (the
-- meta element); SVG 2, sections 5.7 and 10.2; and this crate's documentation.
use Rattle.std.specs.Prelude.{ℕ, List, [], codes}
use Rattle.cronplan_page.specs.declared.pieces.Piece.{Piece}
use Rattle.cronplan_page.specs.declared.pieces.Piece.TheVariants as pieces

-- how a page looks
unfoldable pub style_text : List ℕ
style_text = codes "<style>\n:root { color-scheme: light dark; --ink: #1b1f24; --soft: #57606a; --paper: #ffffff; --line: #d0d7de; --bad: #a40e26; --mark: #0550ae; }\n@media (prefers-color-scheme: dark) { :root { --ink: #e6edf3; --soft: #9da7b3; --paper: #0d1117; --line: #3d444d; --bad: #ff9492; --mark: #79c0ff; } }\nbody { margin: 0; background: var(--paper); color: var(--ink); font: 16px/1.5 system-ui, sans-serif; }\nmain { max-width: 70rem; margin: 0 auto; padding: 1rem; }\nh1 { font-size: 1.6rem; line-height: 1.2; } h2 { font-size: 1.2rem; margin: 1.6rem 0 .4rem; }\np { margin: .3rem 0; } ul { margin: .3rem 0; padding-left: 1.2rem; } li { overflow-wrap: anywhere; }\n.bad { border-left: .3rem solid var(--bad); padding-left: 1rem; } .bad h2 { color: var(--bad); }\n.wide { overflow-x: auto; } table { border-collapse: collapse; font-size: .875rem; }\nth, td { padding: .2rem .4rem; text-align: left; vertical-align: top; border-bottom: 1px solid var(--line); }\ntd ul { padding-left: 1rem; margin: 0; } td p { margin: 0; } td.n { text-align: right; } .w { white-space: nowrap; }\n.week td[class], .week th[scope=col] { text-align: center; min-width: 1.4rem; padding: .2rem; font-variant-numeric: tabular-nums; }\n.week th[scope=row], .week td { white-space: nowrap; } .week td.n { text-align: right; }\n.s1, .s2 { background: #0969da26; } .s3, .s4 { background: #0969da4d; } .s5, .s6 { background: #bf870073; } .s7, .s8 { background: #bf3989; color: #ffffff; }\n.t { outline: 1px dashed var(--soft); outline-offset: -2px; } .x { color: var(--soft); }\nfigure { margin: .6rem 0; } figcaption { font-size: .875rem; overflow-wrap: anywhere; }\nsvg { display: block; width: 100%; height: 20px; } rect { height: 12px; y: 4px; }\n.a { fill: var(--line); height: 2px; y: 9px; } .m { fill: var(--mark); width: 3px; } .b { fill: var(--mark); opacity: .4; } .h { fill: var(--bad); width: 2px; height: 20px; y: 0; }\nsummary { cursor: pointer; }\n@page { size: A4; margin: 12mm; }\n@media print { main { max-width: none; padding: 0; } body { font-size: 11px; } tr, figure, li { break-inside: avoid; } .wide { overflow: visible; } table { font-size: 9px; } .week td[class], .week th[scope=col] { min-width: 0; padding: 1px; } }\n</style>\n"

-- the table of days, with the hours of its head
unfoldable pub week_table_text : List ℕ
week_table_text = codes "<div class=\"wide\">\n<table class=\"week\">\n<tr><td></td><th scope=\"col\">00</th><th scope=\"col\">01</th><th scope=\"col\">02</th><th scope=\"col\">03</th><th scope=\"col\">04</th><th scope=\"col\">05</th><th scope=\"col\">06</th><th scope=\"col\">07</th><th scope=\"col\">08</th><th scope=\"col\">09</th><th scope=\"col\">10</th><th scope=\"col\">11</th><th scope=\"col\">12</th><th scope=\"col\">13</th><th scope=\"col\">14</th><th scope=\"col\">15</th><th scope=\"col\">16</th><th scope=\"col\">17</th><th scope=\"col\">18</th><th scope=\"col\">19</th><th scope=\"col\">20</th><th scope=\"col\">21</th><th scope=\"col\">22</th><th scope=\"col\">23</th><th scope=\"col\">Starts</th><th scope=\"col\">Fullest</th></tr>\n"

-- the text of a piece: no text of a plan stands in it
unfoldable pub piece_text : Piece → List ℕ
piece_text pieces.Head = codes "<!DOCTYPE html>\n<html lang=\"en\">\n<head>\n<meta charset=\"utf-8\">\n<meta http-equiv=\"Content-Security-Policy\" content=\"default-src 'none'; style-src 'unsafe-inline'\">\n<meta name=\"viewport\" content=\"width=device-width, initial-scale=1\">\n"
piece_text pieces.Style = style_text
piece_text pieces.HeadEnd = codes "</head>\n<body>\n<main>\n"
piece_text pieces.PageEnd = codes "</main>\n</body>\n</html>\n"
piece_text pieces.Title = codes "<title>"
piece_text pieces.TitleEnd = codes "</title>"
piece_text pieces.Name = codes "<h1>"
piece_text pieces.NameEnd = codes "</h1>\n"
piece_text pieces.Paragraph = codes "<p>"
piece_text pieces.ParagraphEnd = codes "</p>\n"
piece_text pieces.OnClock = codes ", on the clock of "
piece_text pieces.AndOn = codes ", and after = on that of "
piece_text pieces.AndOnEnd = []
piece_text pieces.Unfollowed = codes " (the clock of "
piece_text pieces.UnfollowedEnd = codes " isn't followed in these days)"
piece_text pieces.Cut = codes "<p><b>It ends there, since a plan keeps no more starts: more was asked for.</b></p>\n"
piece_text pieces.Bad = codes "<section class=\"bad\">\n"
piece_text pieces.Section = codes "<section>\n"
piece_text pieces.SectionEnd = codes "</section>\n"
piece_text pieces.List = codes "<ul>\n"
piece_text pieces.ListEnd = codes "</ul>\n"
piece_text pieces.Item = codes "<li><b>"
piece_text pieces.PlainItem = codes "<li class=\"w\">"
piece_text pieces.ItemRest = codes "</b> "
piece_text pieces.ItemEnd = codes "</li>\n"
piece_text pieces.IgnoredHeading = codes "<h2>Read this first</h2>\n"
piece_text pieces.FrequentHeading = codes "<h2>Not shown, since they start too often</h2>\n"
piece_text pieces.QuietHeading = codes "<h2>Longest quiet windows</h2>\n<p>None of the jobs shown starts in between.</p>\n"
piece_text pieces.FullestHeading = codes "<h2>Fullest moments</h2>\n"
piece_text pieces.WeekHeading = codes "<h2>Starts by hour</h2>\n"
piece_text pieces.LinesHeading = codes "<h2>Each job along the days</h2>\n<p>From the first second of the span to its last: a mark is a start, and a line across a change of the clock.</p>\n"
piece_text pieces.DaysHeading = codes "<h2>Day by day</h2>\n"
piece_text pieces.JobsHeading = codes "<h2>Jobs</h2>\n"
piece_text pieces.NoWindow = codes "<p>There is none.</p>\n"
piece_text pieces.NoMoment = codes "<p>None of the jobs shown starts.</p>\n"
piece_text pieces.NoStart = codes "<p>Nothing starts.</p>\n"
piece_text pieces.NoChange = codes "<p>The clock goes on evenly in these days.</p>\n"
piece_text pieces.NoWarning = codes "<p>None.</p>\n"
piece_text pieces.WeekTable = week_table_text
piece_text pieces.WeekKey = codes "<p>Each hour has a number, how many starts it has. An x stands where the clock skips the hour, a dash where the hour isn't in the plan, and a broken line around an hour that the clock shows twice.</p>\n"
piece_text pieces.JobsTable = codes "<div class=\"wide\">\n<table>\n<tr><th scope=\"col\">Job</th><th scope=\"col\">When</th><th scope=\"col\">Line</th><th scope=\"col\">Starts</th><th scope=\"col\">Next</th><th scope=\"col\">Beware</th></tr>\n"
piece_text pieces.TableEnd = codes "</table>\n</div>\n"
piece_text pieces.Row = codes "<tr><th scope=\"row\">"
piece_text pieces.RowName = codes "</th>"
piece_text pieces.RowEnd = codes "</tr>\n"
piece_text pieces.Cell = codes "<td>"
piece_text pieces.CellEnd = codes "</td>"
piece_text pieces.Number = codes "<td class=\"n\">"
piece_text pieces.TooFrequent = codes "<td><p>It starts too often.</p></td>"
piece_text pieces.SkippedCell = codes "<td class=\"x\">x</td>"
piece_text pieces.OutsideCell = codes "<td class=\"x\">-</td>"
piece_text pieces.Figure = codes "<figure><figcaption><b>"
piece_text pieces.Caption = codes "</b> "
piece_text pieces.Picture = codes "</figcaption><svg viewBox=\"0 0 1000 20\" preserveAspectRatio=\"none\" role=\"img\">"
piece_text pieces.Description = codes "<desc>"
piece_text pieces.Axis = codes "</desc><rect class=\"a\" x=\"0\" width=\"1000\"/>"
piece_text pieces.MarkEnd = codes "</title></rect>"
piece_text pieces.FigureEnd = codes "</svg></figure>\n"
piece_text pieces.Day = codes "<details><summary>"
piece_text pieces.DayName = codes "</summary>\n"
piece_text pieces.DayEnd = codes "</details>\n"
