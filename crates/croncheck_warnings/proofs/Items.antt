-- A test of the pieces of a text, piece by piece.
use Rattle.std.proofs.Common.{◌≡◌, ◌<◌, ◌+◌, ◌||◌, ◌∙◌, ℕ, List, Bool, true, false, length, drop, get_or, ap, sym, arith}
use Rattle.std.proofs.lemmas.List.{at_drop_more, at_drop_all}
use Rattle.std.specs.List.{list_any}

any_turn : (p : List ℕ → Bool) (pieces : List (List ℕ)) (n : ℕ) (piece : List ℕ) → n < length pieces → piece ≡ get_or pieces n piece
    → list_any p (drop n pieces) ≡ (p piece || list_any p (drop (n + 1) pieces))
any_turn p pieces n piece within is =
    at_drop_more (list_any p) pieces n piece within ∙ ap (λ q. p q || list_any p (drop (n + 1) pieces)) (sym is)

-- the next piece passes
pub any_here : (p : List ℕ → Bool) (pieces : List (List ℕ)) (n : ℕ) (piece : List ℕ) (whole : Bool) → n < length pieces → piece ≡ get_or pieces n piece
    → p piece ≡ true → list_any p (drop n pieces) ≡ whole → true ≡ whole
any_here p pieces n piece whole within is passes h =
    sym (ap (λ b. b || list_any p (drop (n + 1) pieces)) passes) ∙ sym (any_turn p pieces n piece within is) ∙ h

-- it doesn't
pub any_next : (p : List ℕ → Bool) (pieces : List (List ℕ)) (n : ℕ) (piece : List ℕ) (whole : Bool) → n < length pieces → piece ≡ get_or pieces n piece
    → p piece ≡ false → list_any p (drop n pieces) ≡ whole → list_any p (drop (n + 1) pieces) ≡ whole
any_next p pieces n piece whole within is fails h =
    sym (ap (λ b. b || list_any p (drop (n + 1) pieces)) fails) ∙ sym (any_turn p pieces n piece within is) ∙ h

-- no piece is left
pub any_end : (p : List ℕ → Bool) (pieces : List (List ℕ)) (n : ℕ) (whole : Bool) → n ≡ length pieces → list_any p (drop n pieces) ≡ whole
    → false ≡ whole
any_end p pieces n whole all h = sym (at_drop_all (list_any p) pieces n (omega (arith, all))) ∙ h
