-- The fault that tells why a text is refused.
use Rattle.std.proofs.Common.{◌≡◌, inl, inr, ℕ, List, Option, Some, None, Result, Err, IsUtf8}
use Rattle.std.specs.Str.{IsValidUpTo}
use Rattle.croner.specs.declared.parser.fault.PatternFault.{PatternFault}
use Rattle.croner.specs.parser.Faults.{IsFault}
use Rattle.croner.specs.parser.Grammar.{Refusal, outcome}
use Rattle.croner.specs.parser.Settings.{Settings}
use Rattle.croner_c.specs.Answers.{OrLack}
use Rattle.croner_c.specs.Faults.{fault_of, fault_at, Explains, HasFault, IsExplainedBy}
use Rattle.croner_c.specs.declared.fault.Fault.{Fault}
use Rattle.croner_c.specs.declared.status.Reason.{Reason}
use Rattle.croner_c.proofs.Answers.{lack_map}

-- of its refusal
refused : (s : Settings) (text : List ℕ) (refusal : Refusal) (f : PatternFault) → IsUtf8 text → outcome s text ≡ Err refusal → IsFault s text refusal f
    → (found : Option (Fault × List ℕ)) → HasFault (fault_of f) found → Explains s text found
refused s text refusal f utf8 is of None h = absurd h
refused s text refusal f utf8 is of (Some found) h = inl (utf8, refusal, f, is, of, h)

pub refused_by : (s : Settings) (text : List ℕ) (refusal : Refusal) (f : PatternFault) (answer : Result (Option (Fault × List ℕ)) Reason) → IsUtf8 text
    → outcome s text ≡ Err refusal → IsFault s text refusal f → OrLack (HasFault (fault_of f)) answer → IsExplainedBy s text answer
refused_by s text refusal f answer utf8 is of h = lack_map (HasFault (fault_of f)) (Explains s text) answer (refused s text refusal f utf8 is of) h

-- of the first byte that is no UTF-8
broken : (s : Settings) (text : List ℕ) (valid : ℕ) → ¬ (IsUtf8 text) → IsValidUpTo text valid → (found : Option (Fault × List ℕ)) → HasFault (fault_at text valid) found → Explains s text found
broken s text valid out upto None h = absurd h
broken s text valid out upto (Some found) h = inr (out, valid, upto, h)

pub broken_at : (s : Settings) (text : List ℕ) (valid : ℕ) (answer : Result (Option (Fault × List ℕ)) Reason) → ¬ (IsUtf8 text) → IsValidUpTo text valid
    → OrLack (HasFault (fault_at text valid)) answer → IsExplainedBy s text answer
broken_at s text valid answer out upto h = lack_map (HasFault (fault_at text valid)) (Explains s text) answer (broken s text valid out upto) h
