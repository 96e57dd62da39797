-- A list of a known length, element by element.
use Rattle.std.proofs.Common.{◌≡◌, ℕ, ◌≤◌, ◌<◌, List, [], ◌∷◌, Option, None, IsSome, length, get_or, map, subst, arith}
use Rattle.std.proofs.lemmas.Bool.{false≢true}
use Rattle.std.proofs.lemmas.List.{length-map}
use Rattle.cronrun_command.specs.Call.{Ask}
use Rattle.cronrun_command.specs.declared.request.Request.{Request}
use Rattle.cronrun_command.proofs.Calls.{call_length}

module _ {X : Type 0} (f : X → List ℕ) where
  -- four elements, of which texts are seen
  pub four_texts : (ws : List X) (a b c d : X) (ta tb tc td : List ℕ) → 4 ≤ length ws → length ws < 5
      → a ≡ get_or ws 0 a → b ≡ get_or ws 1 b → c ≡ get_or ws 2 c → d ≡ get_or ws 3 d
      → ta ≡ f a → tb ≡ f b → tc ≡ f c → td ≡ f d
      → map f ws ≡ ta ∷ (tb ∷ (tc ∷ (td ∷ [])))
  four_texts [] a b c d ta tb tc td low high i j k l p q r s = absurd (omega arith)
  four_texts (v ∷ []) a b c d ta tb tc td low high i j k l p q r s = absurd (omega arith)
  four_texts (v ∷ w ∷ []) a b c d ta tb tc td low high i j k l p q r s = absurd (omega arith)
  four_texts (v ∷ w ∷ x ∷ []) a b c d ta tb tc td low high i j k l p q r s = absurd (omega arith)
  four_texts (v ∷ w ∷ x ∷ y ∷ []) a b c d ta tb tc td low high i j k l p q r s = cc
  four_texts (v ∷ w ∷ x ∷ y ∷ z ∷ more) a b c d ta tb tc td low high i j k l p q r s = absurd (omega arith)

  -- five
  pub five_texts : (ws : List X) (a b c d e : X) (ta tb tc td te : List ℕ) → 5 ≤ length ws → length ws < 6
      → a ≡ get_or ws 0 a → b ≡ get_or ws 1 b → c ≡ get_or ws 2 c → d ≡ get_or ws 3 d → e ≡ get_or ws 4 e
      → ta ≡ f a → tb ≡ f b → tc ≡ f c → td ≡ f d → te ≡ f e
      → map f ws ≡ ta ∷ (tb ∷ (tc ∷ (td ∷ (te ∷ []))))
  five_texts [] a b c d e ta tb tc td te low high i j k l m p q r s t = absurd (omega arith)
  five_texts (v ∷ ws) a b c d e ta tb tc td te low high i j k l m p q r s t =
      let rest = four_texts ws b c d e tb tc td te (omega arith) (omega arith) j k l m q r s t in cc

  -- a call has two to five words
  pub call_words : (ws : List X) (r : Request) → Ask (map f ws) r → (2 ≤ length ws) × (length ws ≤ 5)
  call_words ws r ask =
      let n = call_length (map f ws) r ask in
      (omega (arith, length-map ws f), omega (arith, length-map ws f))

pub none_is_not_some : {A : Type 0} (o : Option A) → o ≡ None → IsSome o → ⊥
none_is_not_some {A} o e some = let P : Option A → Type 0 = λ x. IsSome x in false≢true (subst P e some)
