-- An error that is handed on is the one that came, and a backend's error whatever it says is not held.
use Rattle.std.proofs.Common.{◌≡◌, Bool, Result, Ok, Err, sym, subst, inl, inr, IfErr}
use Rattle.std.specs.Result.{IsErrAnd}
use Rattle.croner_base.specs.declared.errors.CronError.{CronError}
use Rattle.croner.specs.Private.search.Held.{IsBackendError}

pub error_kept : {X : Type 0} (r : Result X CronError) (e : CronError) (P : CronError → Type 0) → IsErrAnd r (λ y. y ≡ e) → P e → IfErr r P
error_kept (Ok x) e P is p = tt
error_kept (Err y) e P is p = subst P (sym is) p

pub backend_error : (lack : Bool) (P Q : Type 0) (e : CronError) → (P → Q) → IsBackendError lack P e → IsBackendError lack Q e
backend_error lack P Q e f error = elim error [ inl memory ↦ inl memory | inr (kind, p) ↦ inr (kind, f p) ]
