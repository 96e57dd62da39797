use Rattle.std.proofs.Common.{◌≡◌, ◌++◌, ◌∷◌, [], List, ℕ, string_bytes, subst, rules}
use Rattle.std.specs.Io.KnownBytes.{Appends}
use Rattle.serde_json.specs.View.{view}
use Rattle.croncheck_forms.proofs.Objects.{object_written}
use Rattle.croncheck_output.proofs.OkResults.{if_ok}
use Rattle.croncheck_forms.proofs.json_reporter.write_object.Goals as goal

pub returns : goal.returns
returns g c =
    let is : c.as_str.result.now ≡ string_bytes c.in_ok-text.text ++ 10 ∷ [] = search rules in
    if_ok c.write.result
    (λ wrote. object_written _ c.args.report.now c.args.found.now (view c.in_ok-object.object) (string_bytes c.in_ok-text.text) _ _ c.in_ok-object.ensures
    c.in_ok-text.ensures.text
    (subst (λ (text : List ℕ). Appends (g.W.Write.contents c.args.output.now.out) (g.W.Write.contents c.write.new.self.out) text) is wrote.0))
    c.write.ensures.written
