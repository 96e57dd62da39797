use Rattle.croner_c.specs.Answers.{seen}
use Rattle.croner_c.specs.Faults.{explanation_seen}
use Rattle.croner_c.proofs.Explanations.{refused_by}
use Rattle.croner_c.proofs.fault.explained_text.Goals as goal

pub returns-in-Ok-Some : goal.returns-in-Ok-Some
returns-in-Ok-Some c = λ utf8.
    let e = rw c.in-Ok-Some.field-0-is at c.in-Ok-Some.ensures in
    refused_by c.args.parser c.args.text.now e.0 c.in-Ok-Some.found (seen explanation_seen c.with_message.result) utf8 e.1 e.2 c.with_message.ensures
