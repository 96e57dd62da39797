use Rattle.croner.specs.Private.parser.Steps.{refusal_of}
use Rattle.croner.proofs.parser.Refusals.{has_cause}
use Rattle.croner.proofs.parser.CronParser.fault_of.Goals as goal

pub find_fault-requires-clause-cause : goal.find_fault-requires-clause-cause
find_fault-requires-clause-cause c = has_cause c.args.self.now c.args.text.now (refusal_of c.args.cause) c.utf8.text c.requires
