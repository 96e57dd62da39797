use Rattle.std.proofs.Common.{sym, ◌∙◌}
use Rattle.croner.proofs.compact.RunYears.{run_by_count, no_run_by_count}
use Rattle.croner.proofs.compact.years.run_of.Goals as goal

pub returns-then-count_set_values-len : goal.returns-then-count_set_values-len
returns-then-count_set_values-len c =
    let run = c.years_between-run.result in
    run_by_count c.args.field.now run.first run.last c.requires run.from run.to c.years_between-run.ensures.within
    (sym c.count_set_values.ensures ∙ c.if-count_set_values-len.true ∙ c.len.ensures)

pub returns-else-count_set_values-len : goal.returns-else-count_set_values-len
returns-else-count_set_values-len c =
    let run = c.years_between-run.result in
    no_run_by_count c.args.field.now run.first run.last c.requires run.from run.to c.years_between-run.ensures.within
    c.years_between-run.ensures.ends (λ same. c.if-count_set_values-len.false (c.count_set_values.ensures ∙ same ∙ sym c.len.ensures))
