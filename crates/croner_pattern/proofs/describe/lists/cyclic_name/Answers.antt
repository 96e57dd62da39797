use Rattle.croner_pattern.proofs.descriptions.ListsWritten.{cyclic_name-map}
use Rattle.croner_pattern.proofs.describe.lists.cyclic_name.Goals as goal

pub returns : goal.returns
returns c = cyclic_name-map (λ name. name.now) c.args.names.now c.args.place _ c.requires
