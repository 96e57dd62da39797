use Rattle.std.proofs.Common.{rules, FitsSigned, w32}
use Rattle.std.proofs.Output.{has_written_of_eq}
use Rattle.std.proofs.lemmas.Int.{to_z-of_z}
use Rattle.croner_base.proofs.texts.PaddedNumbers.{two_places_written, year_written}
use Rattle.croner_base.proofs.time.civil.CivilDateDisplay.fmt.Goals as goal

pub returns-clause-writes : goal.returns-clause-writes
returns-clause-writes g c = λ p ok.
    let f : FitsSigned w32 c.args.self.now.year = search rules in
    let h = simp to_z-of_z at (c.write.ensures.writes p ok) in
    has_written_of_eq _ _ _ _ _
    (rw (c.laid_out.ensures, c.laid_out-2.ensures, c.laid_out-3.ensures, year_written c.args.self.now.year, two_places_written c.args.self.now.month, two_places_written c.args.self.now.day))
    h
