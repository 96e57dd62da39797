use Rattle.std.proofs.Common.{string_bytes}
use Rattle.croner.specs.parser.Grammar.{outcome}
use Rattle.croner.specs.parser.Settings.{default_settings}
use Rattle.cronrun_command.specs.Answer.{IsDescriptionText}
use Rattle.cronrun_command.specs.Refused.{IsUnread}
use Rattle.cronrun_command.proofs.Answered.{comes_to}
use Rattle.cronrun_command.proofs.answer.describe.Goals as goal

pub returns : goal.returns
returns c =
    let pattern = c.args.pattern.now in
    comes_to string_bytes (λ text. IsDescriptionText pattern text) (IsUnread (outcome default_settings pattern)) c.description_line.result
    c.of.result.text c.of.result.refusal c.description_line.ensures.value c.description_line.ensures.err c.of.ensures.text c.of.ensures.refusal
