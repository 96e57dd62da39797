use Rattle.std.proofs.Common.{◌∙◌, ◌++◌, ◌∷◌, [], ap, sym, Bool}
use Rattle.std.proofs.lemmas.List.{map-append}
use Rattle.croncheck_findings.specs.Findings.{Said, finding_said, findings_said, said_if, misnamed}
use Rattle.croncheck_findings.proofs.findings.of_file.push_misnamed.Goals as goal

pub returns-in_ok-push : goal.returns-in_ok-push
returns-in_ok-push c =
    let old = c.args.found.now.items in
    ap findings_said c.in_ok-push.ensures.items
    ∙ map-append finding_said old (c.in_ok-warning_of_name.field-0 ∷ [])
    ∙ ap (λ (said : Said). findings_said old ++ said ∷ []) c.in_ok-warning_of_name.ensures
    ∙ sym (ap (λ (holds : Bool). findings_said old ++ said_if holds misnamed) c.if-holds.true)
