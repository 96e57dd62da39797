use Rattle.std.proofs.Common.{◌∙◌, ◌++◌, List, ℕ, ap, arith, string_bytes}
use Rattle.std.proofs.lemmas.Result.{on_ok_weaker}
use Rattle.cronplan_forms.proofs.MonthParts.{none_left, left_written}
use Rattle.cronplan_forms.proofs.month.push_left.Goals as goal

pub returns-then-count-le-TITLES : goal.returns-then-count-le-TITLES
returns-then-count-le-TITLES c =
    on_ok_weaker c.push_fill.result (λ e. e ∙ ap (λ (bs : List ℕ). string_bytes c.args.text.now ++ bs) (none_left c.args.count c.if-count-le-TITLES.true)) c.push_fill.ensures

pub returns : goal.returns
returns c = on_ok_weaker c.write.result (λ e. e ∙ rw c.laid_out.ensures (ap (λ (bs : List ℕ). string_bytes c.args.text.now ++ bs) (left_written c.args.count (omega arith)))) c.write.ensures.bytes
