-- A field of which nothing is marked.
use Rattle.std.proofs.Common.{◌≡◌, ℕ, true, false, ◌&&◌, List, [], ◌∷◌, length, refl, ap, sym, ◌∙◌, arith, inl, inr}
use Rattle.std.proofs.lemmas.Bool.{and_parts, cases_Bool}
use Rattle.croner_base.specs.Field.{Field, has_all, is_in_bounds, is_marked, marked_values, can_ask}
use Rattle.croner_base.specs.Marks.{is_among}
use Rattle.croner_base.proofs.fields.MarkSets.{lists_set}
use Rattle.croner_pattern.specs.Schedule.{is_named}
use Rattle.croner_summary.specs.declared.phrase.Phrase.{Phrase}
use Rattle.croner_summary.specs.Says.{is_within}
use Rattle.croner_summary.specs.Private.Exact.{IsExact, NamesNothing}

among_none : (xs : List ℕ) (value : ℕ) → length xs ≡ 0 → is_among value xs ≡ false
among_none [] value h = refl
among_none (x ∷ xs) value h = absurd (omega arith)

none_named : (f : Field) (bits : ℕ) → length (marked_values bits f) ≡ 0 → (value : ℕ) → is_named bits f value ≡ false
none_named f bits none value =
    elim (cases_Bool (is_named bits f value)) [
      | inl hit ↦
          let asked = and_parts (can_ask f.shape value bits) (is_marked bits f value) hit in
          let held = and_parts (is_in_bounds f.shape value && has_all f.shape.supported bits) _ asked.0 in
          let parts = and_parts (is_in_bounds f.shape value) (has_all f.shape.supported bits) held.0 in
          let there : (has_all f.shape.supported bits && (is_in_bounds f.shape value && is_marked bits f value)) ≡ true = rw (parts.1, parts.0) asked.1 in
          let among : is_among value (marked_values bits f) ≡ true = (lists_set f bits).members value ∙ there in
          let nowhere = among_none (marked_values bits f) value none in
          cc
      | inr miss ↦ miss
    ]

pub none_exact : (least greatest bits : ℕ) (f : Field) (phrase : Phrase) → length (marked_values bits f) ≡ 0 → NamesNothing phrase → IsExact least greatest bits f phrase
none_exact least greatest bits f phrase none nothing value =
    ap (λ b. is_within least greatest value && b) (nothing least greatest value)
    ∙ sym (ap (λ b. is_within least greatest value && b) (none_named f bits none value))
