use Rattle.croner_base.proofs.fields.TextPieces.{contains_is}
use Rattle.croner_presets.proofs.part.has.Goals as goal

pub returns : goal.returns
returns c = contains_is c.args.sign c.args.text.now _ c.contains.ensures.cases c.requires
