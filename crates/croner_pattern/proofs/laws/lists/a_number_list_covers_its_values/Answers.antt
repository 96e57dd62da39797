use Rattle.croner_pattern.proofs.descriptions.StreaksWritten.{items_cover}
use Rattle.croner_pattern.proofs.laws.lists.a_number_list_covers_its_values.Goals as goal

pub returns-clause-covers : goal.returns-clause-covers
returns-clause-covers c = items_cover
