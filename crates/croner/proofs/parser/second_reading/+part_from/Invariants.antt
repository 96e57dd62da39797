use Rattle.croner.proofs.parser.second_reading.+part_from.Given as goal

abbrev pub decreases-part_from : goal.decreases-part_from
decreases-part_from l = l.part
