use Rattle.std.proofs.Common.{ℕ, List, string_bytes, subst}
use Rattle.croncheck_output.specs.Output.{written_of, WritesApart}
use Rattle.croncheck_output.proofs.OkResults.{if_ok}
use Rattle.croncheck_planner.proofs.plan.answers.write_left_out.Goals as goal

pub returns : goal.returns
returns g c =
    let old = written_of g.W.Write.contents c.args.output.now in
    let new = written_of g.W.Write.contents c.write_apart.new.self in
    if_ok c.write_apart.result
    (λ writes. (string_bytes c.in_ok-text.text, c.in_ok-text.ensures, subst (λ (text : List ℕ). WritesApart text old new) c.as_str.ensures.value writes))
    c.write_apart.ensures.written
