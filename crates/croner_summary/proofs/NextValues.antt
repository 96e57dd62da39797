-- From one plain value to the next.
use Rattle.std.proofs.Common.{◌≡◌, ℕ, ◌+◌, ◌≤◌, List, ap, sym, ◌∙◌, subst, arith, inl, inr}
use Rattle.std.proofs.lemmas.Bool.{cases_lt}
use Rattle.croner_base.specs.Field.{Field}
use Rattle.croner_pattern.specs.Schedule.{is_plain}
use Rattle.croner_summary.specs.declared.phrase.Piece.{Piece}
use Rattle.croner_summary.specs.Order.{times_named}
use Rattle.croner_summary.specs.Says.{is_in_some}
use Rattle.croner_summary.specs.Private.Exact.{AgreeWithin, IsNextPlain, NameOnceWithin, StepAgrees}
use Rattle.croner_summary.proofs.OneByOne.{never_named}

-- one step more agrees
pub agree_next : (least greatest : ℕ) (pieces : List Piece) (f : Field) (from next : ℕ) → AgreeWithin least greatest pieces f from
    → IsNextPlain greatest f from next → StepAgrees least greatest pieces from next → AgreeWithin least greatest pieces f (next + 1)
agree_next least greatest pieces f from next before is agrees value low high within =
    elim (cases_lt value from) [
      | inl done ↦ before value low done within
      | inr more ↦
          elim (cases_lt value next) [
            | inl between ↦ agrees.none value more between ∙ sym (is.none value more between)
            | inr last ↦
                let here : value ≡ next = omega arith in
                let in_bounds : next ≤ greatest = omega arith in
                ap (is_in_some least greatest pieces) here ∙ agrees.named in_bounds ∙ sym (ap (is_plain f) here ∙ is.plain in_bounds)
          ]
    ]

-- and names no value twice
pub once_next : (least greatest : ℕ) (pieces : List Piece) (f : Field) (from next : ℕ) → NameOnceWithin least greatest pieces from
    → IsNextPlain greatest f from next → StepAgrees least greatest pieces from next → NameOnceWithin least greatest pieces (next + 1)
once_next least greatest pieces f from next before is agrees value low high within =
    elim (cases_lt value from) [
      | inl done ↦ before value low done within
      | inr more ↦
          elim (cases_lt value next) [
            | inl between ↦ let none : times_named least greatest pieces value ≡ 0 = never_named least greatest pieces value (agrees.none value more between) in omega (arith, none)
            | inr last ↦
                let here : value ≡ next = omega arith in
                let in_bounds : next ≤ greatest = omega arith in
                subst (λ v. times_named least greatest pieces v ≤ 1) (sym here) (agrees.once in_bounds)
          ]
    ]
