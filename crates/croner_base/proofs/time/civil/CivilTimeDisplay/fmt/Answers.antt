use Rattle.std.proofs.Output.{has_written_of_eq}
use Rattle.croner_base.proofs.texts.PaddedNumbers.{two_places_written}
use Rattle.croner_base.proofs.time.civil.CivilTimeDisplay.fmt.Goals as goal

pub returns-clause-writes : goal.returns-clause-writes
returns-clause-writes g c = λ p ok.
    has_written_of_eq _ _ _ _ _
    (rw (c.laid_out.ensures, c.laid_out-2.ensures, c.laid_out-3.ensures, two_places_written c.args.self.now.hour, two_places_written c.args.self.now.minute, two_places_written c.args.self.now.second))
    (c.write.ensures.writes p ok)
