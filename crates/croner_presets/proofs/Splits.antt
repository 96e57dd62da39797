-- The two sides of the first such character of a text.
use Rattle.std.proofs.Common.{◌≡◌, ◌<◌, ◌==◌, ◌+◌, ◌∙◌, ap, arith, ℕ, List, [], length, take, drop}
use Rattle.std.specs.Prelude.{Option, Some, None, MatchOption}
use Rattle.std.specs.Borrow.{Bor}
use Rattle.std.specs.List.{position_or_len, before_first, after_first}
use Rattle.std.specs.Str.Pattern.{FindsChar, SplitsAtFirstByte}
use Rattle.std.proofs.lemmas.List.{take_all, drop_all}

-- what stands before it, where it stands somewhere, and else all of the text
pub text_before : (c : ℕ) (s : List ℕ) (r : Option (Bor (List ℕ) × Bor (List ℕ))) → SplitsAtFirstByte (FindsChar c) (Some c) s r → c < 128
    → MatchOption r (before_first (λ b. b == c) s ≡ s) (λ x. x.0.now ≡ before_first (λ b. b == c) s)
text_before c s None h low =
    let end : position_or_len (λ b. b == c) s ≡ length s = h low (λ w o is. is) in
    ap (λ n. take n s) end ∙ take_all (length s) s (omega arith)
text_before c s (Some x) h low = (h low (λ w o is. is)).0

-- what follows it, where it stands somewhere, and else nothing
pub text_after : (c : ℕ) (s : List ℕ) (r : Option (Bor (List ℕ) × Bor (List ℕ))) → SplitsAtFirstByte (FindsChar c) (Some c) s r → c < 128
    → MatchOption r (after_first (λ b. b == c) s ≡ []) (λ x. x.1.now ≡ after_first (λ b. b == c) s)
text_after c s None h low =
    let end : position_or_len (λ b. b == c) s ≡ length s = h low (λ w o is. is) in
    ap (λ n. drop (n + 1) s) end ∙ drop_all (length s + 1) s (omega arith)
text_after c s (Some x) h low = (h low (λ w o is. is)).1
