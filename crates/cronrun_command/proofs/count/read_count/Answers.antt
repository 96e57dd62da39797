use Rattle.cronrun_command.proofs.CountTexts.{count_read}
use Rattle.cronrun_command.proofs.count.read_count.Goals as goal

pub returns-in_default-3-clause-finds : goal.returns-in_default-3-clause-finds
returns-in_default-3-clause-finds c = λ n h. absurd (count_read c.args.text.now c.in_default.field-0 n c.in_default.ensures.value.0 h)
