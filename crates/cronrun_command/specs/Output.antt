-- What a writer is given, and what it does then. `writes` and `flushes` say what its calls give and leave: of a type parameter nothing
-- but such a call shows them.
use Rattle.std.specs.Prelude.{◌≡◌, ◌⊎◌, ℕ, List, Option, None, Some, IfSome, OnOk, Result, Ok, Err}
use Rattle.std.specs.Io.KnownBytes.{Appends, Keeps}
use Rattle.std.specs.Fmt.{with_newline}
use Rattle.std.specs.declared.io.Error.{Error}
use Rattle.cronrun_command.specs.Stop.{stop_text}
use Rattle.cronrun_command.specs.declared.stop.Stop.{Stop}

-- a writer was given a text, and gave this: where it took the text, it holds that after what it held
abbrev pub Takes : {W : Type 0} → (W → Option (List ℕ)) → (W → List ℕ → Result (Unit {0}) Error → W → Type 0)
    → W → List ℕ → Result (Unit {0}) Error → W → Type 0
Takes contents writes old text gave new = writes old text gave new × OnOk gave (Appends (contents old) (contents new) text)

-- a writer was asked to pass on what it holds, and gave this: it holds what it held
abbrev pub PassesOn : {W : Type 0} → (W → Option (List ℕ)) → (W → Result (Unit {0}) Error → W → Type 0)
    → W → Result (Unit {0}) Error → W → Type 0
PassesOn contents flushes old gave new = flushes old gave new × Keeps (contents old) (contents new)

-- a writer was given a text, and failed to take it with this very error; or it took the text, was asked to pass it on, and gave this
abbrev pub Delivers : {W : Type 0} → (W → Option (List ℕ)) → (W → List ℕ → Result (Unit {0}) Error → W → Type 0)
    → (W → Result (Unit {0}) Error → W → Type 0) → W → List ℕ → Result (Unit {0}) Error → W → Type 0
Delivers {W} contents writes flushes old text gave new =
    ((error : Error) × (gave ≡ Err error) × Takes contents writes old text gave new)
    ⊎ ((between : W) × Takes contents writes old text (Ok tt) between × PassesOn contents flushes between gave new)

-- a writer was given a text once, where that is known, whatever it did then
abbrev pub IsGiven : {W : Type 0} → (W → Option (List ℕ)) → (W → List ℕ → Result (Unit {0}) Error → W → Type 0)
    → W → Option (List ℕ) → W → Type 0
IsGiven contents writes old text new =
    (gave : Result (Unit {0}) Error) × IfSome text (λ known. Takes contents writes old known gave new)

-- a writer was given the reason why a call stops, as a line; where there is none it is as it was
abbrev pub IsTold : {W : Type 0} → (W → Option (List ℕ)) → (W → List ℕ → Result (Unit {0}) Error → W → Type 0)
    → W → Option Stop → W → Type 0
IsTold contents writes old None new = new ≡ old
IsTold contents writes old (Some stop) new = IsGiven contents writes old (with_newline (stop_text stop)) new
