-- What a call answers, where the meaning of its text is known.
use Rattle.std.specs.Prelude.{◌≡◌, ℕ, Result, Ok, Err}
use Rattle.croner_base.specs.declared.errors.CronError.{CronError}
use Rattle.croner_base.specs.declared.errors.CronError.TheVariants as errors
use Rattle.croner.specs.declared.parser.fault.PatternField.{PatternField}
use Rattle.croner.specs.parser.Grammar.{Refusal, Empty, Invalid, Illegal, Component}

-- the kind of refusal; lack of memory says nothing of the text
abbrev pub Fails : {Y : Type 0} → CronError → Result Y Refusal → Type 0
Fails errors.EmptyPattern meaning = meaning ≡ Err Empty
Fails (errors.InvalidPattern m) meaning = meaning ≡ Err Invalid
Fails (errors.IllegalCharacters m) meaning = (field : PatternField) × (meaning ≡ Err (Illegal field))
Fails (errors.ComponentError m) meaning = (field : PatternField) × (part : ℕ) × (meaning ≡ Err (Component field part))
Fails errors.OutOfMemory meaning = Unit {0}
Fails other meaning = ⊥

-- the answer, seen by view, is the meaning, unless memory ran out
abbrev pub Gives : {X Y : Type 0} → (X → Y) → Result X CronError → Result Y Refusal → Type 0
Gives view (Ok x) meaning = meaning ≡ Ok (view x)
Gives view (Err e) meaning = Fails e meaning
