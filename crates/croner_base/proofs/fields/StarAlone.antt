-- A lone star, as a list that is refused at its first part.
use Rattle.std.proofs.Common.{◌≡◌, ℕ, true, cond, List, Result, ap, refl, sym, ◌∙◌, subst}
use Rattle.std.specs.Prelude.{codes}
use Rattle.std.specs.Str.{bytes_eq, trim_start, trim_end, chars}
use Rattle.std.proofs.lemmas.Slice.Eq.{bytes_eq-Decides}
use Rattle.croner_base.specs.Field.{Shape, Field}
use Rattle.croner_base.specs.declared.component.parts.RefusedPart.{RefusedPart}
use Rattle.croner_base.specs.Part.{refused_part, star_read, field_of, parts_of, pieces_at}
use Rattle.croner_base.specs.Reading.{ReadsParts}

star_first : (shape : Shape) → refused_part shape (codes "*") ≡ 0
unfolding trim_start trim_end chars lib.Utf8.encode
star_first shape = refl

star_refused : (shape : Shape) (text : List ℕ) → bytes_eq text (codes "*") ≡ true → refused_part shape text ≡ 0
star_refused shape text h = ap (refused_part shape) ((bytes_eq-Decides text (codes "*")).0 h) ∙ star_first shape

pub star_parts : (shape : Shape) (text : List ℕ) {old new : Field} {result : Result (Unit {0}) RefusedPart} → bytes_eq text (codes "*") ≡ true → ReadsParts (star_read shape) 0 old new result → ReadsParts (field_of shape text) (refused_part shape text) old new result
star_parts shape text {old} {new} {result} h r =
    subst (λ n. ReadsParts (field_of shape text) n old new result) (sym (star_refused shape text h))
    (subst (λ b. ReadsParts (cond b (star_read shape) (parts_of shape (pieces_at 44 text))) 0 old new result) (sym h) r)
