use Rattle.croner.proofs.iterator.Listings.{same_rest}
use Rattle.croner_pattern.specs.Meaning.{meaning_of}
use Rattle.croner.proofs.laws.listing.resume_after.Goals as goal

pub returns-clause-same_rest : goal.returns-clause-same_rest
returns-clause-same_rest g c = λ s p q i. same_rest s (meaning_of c.args.cron.pattern) c.args.direction (g.T.CronDateTime.moment c.args.item) p q i
