use Rattle.std.proofs.Common.{◌≡◌, ◌∙◌, ◌++◌, List, ℕ, [], ◌∷◌, length, sym, arith, Bool, rules}
use Rattle.std.proofs.lemmas.List.{append-nil}
use Rattle.croncheck_forms.specs.Annotations.{escaped_bytes}
use Rattle.croncheck_forms.proofs.annotator.escapes.push_escaped.Goals as goal

none_escaped : (done all : List ℕ) (is_property : Bool) (bytes : List ℕ) → length bytes ≡ 0 → done ++ escaped_bytes is_property bytes ≡ all → done ≡ all
none_escaped done all is_property [] none h = sym (append-nil done) ∙ h
none_escaped done all is_property (b ∷ bs) none h = absurd (omega (arith, none))

pub loop-rest-preserved : goal.loop-rest-preserved
loop-rest-preserved c = c.in_ok-rest.ensures.put ∙ c.loop-rest.invariant

pub returns : goal.returns
returns c =
    let none : length c.loop-rest.rest.now ≡ 0 = search rules in
    none_escaped _ _ _ c.loop-rest.rest.now none c.loop-rest.invariant
