use Rattle.std.proofs.Common.{◌∙◌, ℕ, List, subst}
use Rattle.croncheck_output.specs.Output.{written_of, WritesApart}
use Rattle.croncheck_output.proofs.OkResults.{if_ok}
use Rattle.croncheck_planner.proofs.plan.answers.write_on_clock.Goals as goal

pub returns : goal.returns
returns g c =
    let old = written_of g.W.Write.contents c.args.output.now in
    let begun = written_of g.W.Write.contents c.write_apart.new.self in
    if_ok c.write_apart-2.result
    (λ writes. record {
      begun = begun;
      head = subst (λ (head : List ℕ). WritesApart head old begun) (c.as_str.ensures.value ∙ c.in_ok-head.ensures) c.in_ok-write_apart.ensures.written;
      written = writes;
    })
    c.write_apart-2.ensures.written
