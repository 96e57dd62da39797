-- The first of the pieces of a text that passes a test, piece by piece.
use Rattle.std.proofs.Common.{◌≡◌, ◌<◌, ◌+◌, ◌∙◌, ℕ, List, Bool, true, false, length, drop, get_or, ap, sym, arith, Option, Some, None, if◌then◌else◌}
use Rattle.std.proofs.lemmas.List.{at_drop_more, at_drop_all}
use Rattle.croncheck_report.specs.Allowed.{first_so}

first_turn : (p : List ℕ → Bool) (pieces : List (List ℕ)) (n : ℕ) (piece : List ℕ) → n < length pieces → piece ≡ get_or pieces n piece
    → first_so p (drop n pieces) ≡ (if p piece then Some piece else first_so p (drop (n + 1) pieces))
first_turn p pieces n piece within is =
    at_drop_more (first_so p) pieces n piece within ∙ ap (λ q. if p q then Some q else first_so p (drop (n + 1) pieces)) (sym is)

pub first_here : (p : List ℕ → Bool) (pieces : List (List ℕ)) (n : ℕ) (piece : List ℕ) (whole : Option (List ℕ)) → n < length pieces
    → piece ≡ get_or pieces n piece → p piece ≡ true → first_so p (drop n pieces) ≡ whole → Some piece ≡ whole
first_here p pieces n piece whole within is passes h =
    sym (ap (λ b. if b then Some piece else first_so p (drop (n + 1) pieces)) passes) ∙ sym (first_turn p pieces n piece within is) ∙ h

pub first_next : (p : List ℕ → Bool) (pieces : List (List ℕ)) (n : ℕ) (piece : List ℕ) (whole : Option (List ℕ)) → n < length pieces
    → piece ≡ get_or pieces n piece → p piece ≡ false → first_so p (drop n pieces) ≡ whole → first_so p (drop (n + 1) pieces) ≡ whole
first_next p pieces n piece whole within is fails h =
    sym (ap (λ b. if b then Some piece else first_so p (drop (n + 1) pieces)) fails) ∙ sym (first_turn p pieces n piece within is) ∙ h

pub first_end : (p : List ℕ → Bool) (pieces : List (List ℕ)) (n : ℕ) (whole : Option (List ℕ)) → n ≡ length pieces → first_so p (drop n pieces) ≡ whole
    → None ≡ whole
first_end p pieces n whole all h = sym (at_drop_all (first_so p) pieces n (omega (arith, all))) ∙ h
