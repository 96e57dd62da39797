use Rattle.std.proofs.Common.{arith}
use Rattle.bstr.proofs.lemmas.PieceLemmas.{piece-bounds}
use Rattle.croncheck_output.proofs.escaped.push_front.Goals as goal

pub split_at-requires : goal.split_at-requires
split_at-requires c = omega (arith, c.decode.ensures.size, (piece-bounds c.args.bytes.now c.requires).2)

pub returns-in_ok-write-in-Some-default-clause-shorter : goal.returns-in_ok-write-in-Some-default-clause-shorter
returns-in_ok-write-in-Some-default-clause-shorter c =
    omega (arith, c.decode.ensures.size, piece-bounds c.args.bytes.now c.requires, c.split_at.ensures.back_len, c.split_at.ensures.front_len)
