-- A text written after another. Private contracts alone cite these definitions.
use Rattle.std.specs.Prelude.{◌≡◌, ℕ, ◌+◌, List, ◌++◌, map, length, drop, Result, MatchResult, string_bytes}
use Rattle.std.specs.declared.string.String.{String}
use Rattle.std.specs.declared.alloc.Global.{Global}
use Rattle.croner_base.specs.declared.errors.CronError.{CronError}
use Rattle.croner_base.specs.declared.errors.CronError.TheVariants.{OutOfMemory}
use Rattle.croner_pattern.specs.Private.Lists.{from_place}
use Rattle.croner_summary.specs.declared.language.SummaryLanguage.{SummaryLanguage}
use Rattle.croner_summary.specs.declared.phrase.Piece.{Piece}
use Rattle.croner_summary.specs.declared.words.Kind.{Kind}
use Rattle.croner_summary.specs.Words.{piece_text, separator}

-- the text is written, or memory was wanted
abbrev pub Appends : {X : Type 0} → List ℕ → String Global → String Global → Result X CronError → Type 0
Appends text old new answer = MatchResult answer (λ _. string_bytes new ≡ string_bytes old ++ text) (λ e. e ≡ OutOfMemory)

-- a list is written up to a place, whatever comes after the pieces
abbrev pub WrittenTo : SummaryLanguage → Kind → List Piece → ℕ → ℕ → List ℕ → List ℕ → Type 0
WrittenTo l kind pieces count place old text =
    (rest : List (List ℕ)) → length pieces + length rest ≡ count
    → text ++ from_place (separator l) place (drop place (map (piece_text l kind) pieces ++ rest))
    ≡ old ++ from_place (separator l) 0 (map (piece_text l kind) pieces ++ rest)

-- the first items of a list of so many are written, whatever its rest is
abbrev pub Begun : SummaryLanguage → Kind → List Piece → ℕ → List ℕ → List ℕ → Type 0
Begun l kind pieces count old new =
    (rest : List (List ℕ)) → length pieces + length rest ≡ count
    → new ++ from_place (separator l) (length pieces) rest ≡ old ++ from_place (separator l) 0 (map (piece_text l kind) pieces ++ rest)

abbrev pub BeginsList : {X : Type 0} → SummaryLanguage → Kind → List Piece → ℕ → String Global → String Global → Result X CronError → Type 0
BeginsList l kind pieces count old new answer =
    MatchResult answer (λ _. Begun l kind pieces count (string_bytes old) (string_bytes new)) (λ e. e ≡ OutOfMemory)
