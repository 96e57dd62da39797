-- An answer, from the text or the error that it is made of.
use Rattle.std.proofs.Common.{◌≡◌, ◌⊎◌, [], List, ℕ, Option, None, Some, Result, Ok, Err, IfOk, IfErr, inl, inr, sym, subst}
use Rattle.croner_base.specs.declared.errors.CronError.{CronError}
use Rattle.cronrun_command.specs.Answer.{IsNothing}

pub comes_to : {S : Type 0} (bytes : S → List ℕ) (P : List ℕ → Type 0) (Q : CronError → Type 0) (made : Result S CronError) (text : S) (refusal : Option CronError)
    → IfOk made (λ found. P (bytes found)) → IfErr made Q
    → IfOk made (λ found. (text ≡ found) × (refusal ≡ None)) → IfErr made (λ e. (bytes text ≡ []) × (refusal ≡ Some e))
    → (P (bytes text) × (refusal ≡ None)) ⊎ IsNothing Q (bytes text) refusal
comes_to {S} bytes P Q (Ok found) text refusal value err same none =
    let R : S → Type 0 = λ s. P (bytes s) in inl (subst R (sym same.0) value, same.1)
comes_to bytes P Q (Err e) text refusal value err same none = inr (none.0, (e, none.1, err))
