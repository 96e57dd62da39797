use Rattle.std.proofs.Common.{string_bytes}
use Rattle.croner_base.specs.CivilZone.{civil_zone}
use Rattle.croner.specs.parser.Grammar.{outcome}
use Rattle.croner.specs.parser.Settings.{default_settings}
use Rattle.cronrun_command.specs.Answer.{IsMatchText}
use Rattle.cronrun_command.specs.Refused.{IsUnopened}
use Rattle.cronrun_command.specs.Start.{start_instant}
use Rattle.cronrun_command.proofs.Answered.{comes_to}
use Rattle.cronrun_command.proofs.answer.compare.Goals as goal

pub returns : goal.returns
returns c =
    let pattern = c.args.pattern.now in
    comes_to string_bytes (λ text. IsMatchText pattern c.args.at text) (IsUnopened (outcome default_settings pattern) (start_instant (civil_zone.resolves c.args.at)))
    c.match_line.result c.of.result.text c.of.result.refusal c.match_line.ensures.value c.match_line.ensures.err c.of.ensures.text c.of.ensures.refusal
