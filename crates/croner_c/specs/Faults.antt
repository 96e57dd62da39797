-- Where and why a pattern is refused: what the call answers.
use Rattle.std.specs.Prelude.{◌≡◌, ◌⊎◌, ◌==◌, ◌+◌, ℕ, ℤ, pos, neg_ℤ, List, length, take, Option, Some, None, Result, Ok, Err, IsUtf8, string_bytes, if◌then◌else◌}
use Rattle.std.specs.Str.{chars, IsValidUpTo}
use Rattle.croner_pattern.specs.Meaning.{Meaning}
use Rattle.croner.specs.declared.parser.fault.FaultKind.{FaultKind}
use Rattle.croner.specs.declared.parser.fault.FaultKind.TheVariants as kinds
use Rattle.croner.specs.declared.parser.fault.PatternFault.{PatternFault}
use Rattle.croner.specs.declared.parser.fault.PatternField.{PatternField}
use Rattle.croner.specs.parser.Faults.{IsFault, place_of_field}
use Rattle.croner.specs.parser.Grammar.{Refusal, outcome}
use Rattle.croner.specs.parser.Settings.{Settings}
use Rattle.croner_c.specs.Answers.{OrLack, Then}
use Rattle.croner_c.specs.Patterns.{settings_of}
use Rattle.croner_c.specs.Written.{written}
use Rattle.croner_c.specs.declared.fault.Explanation.{Explanation}
use Rattle.croner_c.specs.declared.fault.Fault.{Fault}
use Rattle.croner_c.specs.declared.status.Reason.{Reason}
use Rattle.croner_c.specs.declared.status.Reason.TheVariants as reasons

-- the bytes of a fault
abbrev pub fault_size : ℕ
fault_size = 40

-- the number of a field, -1 where there is no single one
abbrev pub number_of_field : Option PatternField → ℤ
number_of_field None = neg_ℤ (pos 1)
number_of_field (Some field) = pos (place_of_field field)

-- the number of a kind
abbrev pub number_of_kind : FaultKind → ℤ
number_of_kind kinds.EmptyPattern = pos 1
number_of_kind kinds.InvalidPattern = pos 2
number_of_kind kinds.IllegalCharacters = pos 3
number_of_kind kinds.ComponentError = pos 4

-- a fault of the library
abbrev pub fault_of : PatternFault → Fault
fault_of f = record { size = fault_size; begin = f.start; end = f.end; character = f.character; field = number_of_field f.field; kind = number_of_kind f.kind }

-- no fault
abbrev pub no_fault : Fault
no_fault = record { size = fault_size; begin = 0; end = 0; character = 0; field = neg_ℤ (pos 1); kind = pos 0 }

-- of bytes that are UTF-8 up to a place: the byte there
abbrev pub fault_at : List ℕ → ℕ → Fault
fault_at text valid = record { size = fault_size; begin = valid; end = valid + 1; character = length (chars (take valid text)) + 1; field = neg_ℤ (pos 1); kind = pos 5 }

-- a fault that tells why a text is refused: of its refusal, or of the first byte that is no UTF-8
abbrev pub TellsRefusal : Settings → List ℕ → Fault → Type 0
TellsRefusal s text fault =
    (IsUtf8 text × (refusal : Refusal) × (f : PatternFault) × (outcome s text ≡ Err refusal) × IsFault s text refusal f × (fault ≡ fault_of f))
    ⊎ (¬ (IsUtf8 text) × (valid : ℕ) × IsValidUpTo text valid × (fault ≡ fault_at text valid))

-- none, of a text that is a pattern; or a fault, with some message
abbrev pub Explains : Settings → List ℕ → Option (Fault × List ℕ) → Type 0
Explains s text None = IsUtf8 text × (m : Meaning) × (outcome s text ≡ Ok m)
Explains s text (Some found) = TellsRefusal s text found.0

-- that, or lack of memory
abbrev pub IsExplainedBy : Settings → List ℕ → Result (Option (Fault × List ℕ)) Reason → Type 0
IsExplainedBy s text answer = OrLack (Explains s text) answer

-- the settings of a call with a fault of this size
abbrev pub asked_fault : ℕ → ℕ → Result Settings Reason
asked_fault settings size = if size == fault_size then settings_of settings else Err reasons.BadArgument

-- of a call
abbrev pub IsExplained : List ℕ → ℕ → ℕ → Result (Option (Fault × List ℕ)) Reason → Type 0
IsExplained text settings size answer = Then (asked_fault settings size) (λ s. IsExplainedBy s text) answer

-- the fault is written, as much of its message as there is room for, and the length of all of it, with status 1; with status 0 no fault, and the
-- length 0
abbrev pub tell_fault : Option (Fault × List ℕ) → Fault × (List ℕ × ℕ) → ℤ × (Fault × (List ℕ × ℕ))
tell_fault None old = (pos 0, (no_fault, (old.1.0, 0)))
tell_fault (Some found) old = (pos 1, (found.0, (written found.1 old.1.0, length found.1)))

-- ---- of private contracts alone

-- what contracts see of an explanation
abbrev pub explanation_seen : Option Explanation → Option (Fault × List ℕ)
explanation_seen None = None
explanation_seen (Some e) = Some (e.fault, string_bytes e.message)

-- this fault with some message
abbrev pub HasFault : Fault → Option (Fault × List ℕ) → Type 0
HasFault fault None = ⊥
HasFault fault (Some found) = found.0 ≡ fault
