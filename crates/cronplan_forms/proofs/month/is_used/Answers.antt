use Rattle.std.proofs.Common.{◌≡◌, ◌∙◌, ◌+◌, ℕ, sym, ap, arith}
use Rattle.std.specs.List.{list_any, range_with_len}
use Rattle.cronplan_forms.specs.Months.{has_line, is_used}
use Rattle.cronplan_forms.proofs.MonthParts.{any_none, any_one}
use Rattle.cronplan_forms.proofs.month.is_used.Goals as goal

pub returns-then-has_line : goal.returns-then-has_line
unfolding is_used
returns-then-has_line c =
    sym (any_one (λ column. has_line c.args.month (c.args.monday + column) c.args.line) 7 c.loop-column.column (omega arith) (sym c.has_line.ensures ∙ c.if-has_line.true))

pub loop-column-preserved : goal.loop-column-preserved
loop-column-preserved c =
    any_none (λ column. has_line c.args.month (c.args.monday + column) c.args.line) c.loop-column.column c.loop-column.invariant (sym c.has_line.ensures ∙ c.if-has_line.false)

pub returns : goal.returns
unfolding is_used
returns c =
    let all : 7 ≡ c.loop-column.column = omega arith in
    sym (ap (λ (n : ℕ). list_any (λ column. has_line c.args.month (c.args.monday + column) c.args.line) (range_with_len 0 n)) all ∙ c.loop-column.invariant)
