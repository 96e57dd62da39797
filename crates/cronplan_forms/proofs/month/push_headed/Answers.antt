use Rattle.std.proofs.Common.{◌∙◌, ◌++◌, ℕ, List, append_assoc, ap, codes, string_bytes}
use Rattle.std.proofs.lemmas.Result.{on_ok_weaker}
use Rattle.cronplan_forms.specs.Months.{daily_lines, headed_lines}
use Rattle.cronplan_forms.proofs.month.push_headed.Goals as goal

pub returns : goal.returns
unfolding headed_lines
returns c =
    on_ok_weaker c.push_daily_lines.result
    (λ e. e ∙ ap (λ (bs : List ℕ). bs ++ daily_lines c.args.daily.now) c.in_ok-push_str.ensures.bytes
    ∙ append_assoc (string_bytes c.args.text.now) (codes "Every day:\n") (daily_lines c.args.daily.now))
    c.push_daily_lines.ensures
