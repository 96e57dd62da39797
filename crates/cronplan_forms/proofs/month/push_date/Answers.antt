use Rattle.std.proofs.Common.{◌∙◌}
use Rattle.std.proofs.lemmas.Result.{on_ok_weaker}
use Rattle.cronplan_forms.proofs.MonthParts.{date_written}
use Rattle.cronplan_forms.proofs.month.push_date.Goals as goal

pub returns : goal.returns
returns c = on_ok_weaker c.write.result (λ e. e ∙ rw (c.laid_out.ensures, date_written c.args.date)) c.write.ensures.bytes
