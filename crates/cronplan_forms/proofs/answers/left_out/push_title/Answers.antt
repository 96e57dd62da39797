use Rattle.std.proofs.Common.{◌∙◌}
use Rattle.std.proofs.lemmas.Result.{on_ok_weaker}
use Rattle.cronplan_forms.specs.Answers.{quoted_title}
use Rattle.cronplan_forms.proofs.answers.left_out.push_title.Goals as goal

pub returns : goal.returns
unfolding quoted_title
returns c = on_ok_weaker c.write.result (λ e. e ∙ rw (c.of-title.ensures.text, c.of-title.ensures.most)) c.write.ensures.bytes
