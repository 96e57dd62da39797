use Rattle.std.proofs.Common.{rules, ◌≡◌, ◌∙◌, ◌++◌, Bool, List, map, string_bytes, take}
use Rattle.std.proofs.lemmas.List.{append_assoc}
use Rattle.cronplan_forms.specs.Answers.{shows_all}
use Rattle.cronplan_forms.specs.Weeks.{change_lines, picture_text}
use Rattle.cronplan_forms.specs.WindowRuns.{longest_text, most_longest, window_runs}
use Rattle.cronplan_forms.specs.declared.answers.quiet.ShownWindow.{ShownWindow}
use Rattle.cronplan_forms.proofs.week.week_text.Goals as goal

pub returns : goal.returns
returns c =
    let rows = c.in_ok-rows.rows.items in
    let changes = c.in_ok-changes.changes.items in
    let windows = c.in_ok-windows.windows.items in
    let runs : List (List ShownWindow) = map (λ r. r.windows.now) c.in_ok-runs.runs.items in
    let runs_are : runs ≡ window_runs windows = search rules in
    let picture : string_bytes c.push_picture.new.text ≡ picture_text c.args.signs rows = search rules in
    let above : string_bytes c.push_changes.new.text ≡ picture_text c.args.signs rows ++ change_lines c.args.view changes = search rules in
    let whole : Bool = shows_all c.args.view in
    let below : string_bytes c.push_longest.new.text ≡ string_bytes c.push_changes.new.text ++ longest_text whole (take most_longest runs) = search rules in (
      record { rows = rows; changes = changes; windows = windows },
      record { days = search rules; names = search rules; shown = search rules; windows_are = search rules },
      below ∙ (λ i. above i ++ longest_text whole (take most_longest (runs_are i))) ∙ append_assoc (picture_text c.args.signs rows) (change_lines c.args.view changes) (longest_text whole (take most_longest (window_runs windows))),
    )
