use Rattle.std.proofs.Common.{◌≡◌, ◌+◌, ◌≤◌, arith}
use Rattle.croner_summary.proofs.Distances.{even_more, next_within, not_even}
use Rattle.croner_summary.proofs.spacing.lie_evenly.Goals as goal

pub returns-then-next-reached-clause-no : goal.returns-then-next-reached-clause-no
returns-then-next-reached-clause-no c same even =
    let elsewhere : c.next_plain-next.result ≡ c.loop-reached.reached + c.args.step → ⊥ = λ h. omega arith in
    not_even c.args.field.now c.args.first c.loop-reached.reached c.args.last c.args.step c.next_plain-next.result
    c.requires.some c.loop-reached.invariant.low c.loop-reached-test.true c.loop-reached.invariant.on_step c.requires.last_plain c.next_plain-next.ensures elsewhere even

pub loop-reached-preserved : goal.loop-reached-preserved
loop-reached-preserved c =
    let within : c.next_plain-next.result ≤ c.args.last = next_within c.args.field.now (c.loop-reached.reached + 1) c.args.last c.next_plain-next.result (omega arith) c.requires.last_plain c.next_plain-next.ensures in
    let there : c.next_plain-next.result ≡ c.loop-reached.reached + c.args.step = omega (arith, c.next_plain-next.ensures.above) in
    let more = even_more c.args.field.now c.args.first c.loop-reached.reached c.args.last c.args.step c.next_plain-next.result
    c.requires.some c.loop-reached.invariant.low c.loop-reached.invariant.on_step c.loop-reached.invariant.even c.next_plain-next.ensures within there in
    record {
      low = omega (arith, c.loop-reached.invariant.low, there);
      high = within;
      plain = c.next_plain-next.ensures.plain within;
      on_step = more.0;
      even = more.1;
    }
