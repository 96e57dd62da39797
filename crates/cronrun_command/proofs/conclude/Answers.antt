use Rattle.std.proofs.Common.{◌≡◌, List, ℕ, Option, subst}
use Rattle.cronrun_command.specs.Output.{Delivers, IsTold}
use Rattle.cronrun_command.specs.Stop.{status_of}
use Rattle.cronrun_command.specs.declared.stop.Stop.{Stop}
use Rattle.cronrun_command.proofs.conclude.Goals as goal

pub returns-clause-ended : goal.returns-clause-ended
returns-clause-ended g c =
    let out = g.O.Output in
    let err = g.E.Output in
    let D : List ℕ → Type 0 = λ t. Delivers out.contents out.writes out.flushes c.args.out.now t c.deliver-delivered.result c.deliver-delivered.new.out in
    let T : Option Stop → Type 0 = λ s. IsTold err.contents err.writes c.args.err.now s c.report.new.err in
    let S : Option Stop → Type 0 = λ s. c.report.result ≡ status_of s in
    record {
      gave = c.deliver-delivered.result;
      delivered = subst D c.as_str.ensures.value c.deliver-delivered.ensures;
      told = subst T c.stop_of.ensures c.report.ensures.told;
      status_is = subst S c.stop_of.ensures c.report.ensures.status;
    }
