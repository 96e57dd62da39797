use Rattle.std.proofs.Common.{arith}
use Rattle.croner_pattern.proofs.civil.FieldBits.{lowest_bit, highest_bit}
use Rattle.croner_pattern.proofs.cursor.values.first_bit.Goals as goal

pub returns-in-Forward : goal.returns-in-Forward
returns-in-Forward c = rw c.in-Forward.is (lowest_bit c.args.word (omega arith) (omega arith))

pub returns-in-Backward : goal.returns-in-Backward
returns-in-Backward c = rw c.in-Backward.is (highest_bit c.args.word (omega arith) (omega arith))
