use Rattle.std.proofs.Common.{◌∙◌}
use Rattle.croner_base.proofs.fields.TextPieces.{number_from_parse}
use Rattle.croner_presets.proofs.part.number.Goals as goal

pub returns : goal.returns
returns c = c.ok.ensures.value ∙ number_from_parse c.args.text.now _ c.parse.ensures.value.0
