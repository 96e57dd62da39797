use Rattle.std.proofs.Common.{sym, subst}
use Rattle.std.specs.Str.{IsValidUpTo}
use Rattle.croner_c.specs.Answers.{seen}
use Rattle.croner_c.specs.Faults.{explanation_seen}
use Rattle.croner_c.proofs.Explanations.{broken_at}
use Rattle.croner_c.proofs.fault.explained_bytes.Goals as goal

pub returns-in-Err : goal.returns-in-Err
returns-in-Err c =
    let upto = subst (IsValidUpTo c.args.text.now) (sym c.valid_up_to.ensures) c.in-Err.ensures.cases.1 in
    broken_at c.args.parser c.args.text.now c.valid_up_to.result (seen explanation_seen c.explained_up_to.result) c.in-Err.ensures.cases.0 upto c.explained_up_to.ensures
