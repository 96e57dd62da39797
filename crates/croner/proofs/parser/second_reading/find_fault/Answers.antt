use Rattle.croner.proofs.parser.FoundPlaces.{found_empty}
use Rattle.croner.proofs.parser.second_reading.find_fault.Goals as goal

pub returns-in-Empty : goal.returns-in-Empty
returns-in-Empty c = rw (c.in-Empty.is, c.finding_of_whole.ensures.starts, c.finding_of_whole.ensures.ends) (found_empty c.args.parser.now c.args.text.now c.utf8.text)
