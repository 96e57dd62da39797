-- What a file and a call leave in any form. Source: this crate's documentation of `Sink` and `Form`.
use Rattle.std.specs.Prelude.{◌≡◌, ◌⊎◌, ℕ, List, map, Option, None, string_bytes, IsPermutation, IsSorted}
use Rattle.std.specs.declared.alloc.Global.{Global}
use Rattle.std.specs.declared.string.String.{String}
use Rattle.std.specs.String.{string_cmp}
use Rattle.crontab.specs.declared.line.Dialect.{Dialect}
use Rattle.crontab.specs.declared.line.Dialect.TheVariants as dialects
use Rattle.croncheck_files.specs.declared.fitness.Unfit.{Unfit}
use Rattle.croncheck_files.specs.declared.folder.Sort.{Sort}
use Rattle.croncheck_files.specs.declared.folder.Sort.TheVariants as sorts
use Rattle.croncheck_files.specs.declared.folder.Treatment.{Treatment}
use Rattle.croncheck_files.specs.declared.folder.Treatment.TheVariants as treatments
use Rattle.croncheck_output.specs.declared.output.Output.{Output}
use Rattle.croncheck_reading.specs.declared.progress.Progress.{Progress}
use Rattle.croncheck_reading.specs.declared.progress.Terms.{Terms}
use Rattle.croncheck_reading.specs.declared.progress.TermsByKind.{TermsByKind}
use Rattle.crontab.specs.Checked.{LineRead, entry_of_line, TakesInTurn}
use Rattle.crontab.specs.Lines.{AreLines}
use Rattle.croncheck_reading.specs.Files.{Contents}
use Rattle.croncheck_files.specs.Folder.{treatment_of, entry_of, sort_of}
use Rattle.croncheck_files.specs.Names.{File, dialect_of}
use Rattle.croncheck_output.specs.Output.{Written, written_of, IsFlushed}
use Rattle.croncheck_reading.specs.Tally.{none_counted, status_of}
use Rattle.croncheck_reading.specs.Same.{JobKey, place_kept}
use Rattle.croncheck_output.specs.Builds.{path_shown}
use Rattle.croncheck_reading.specs.Stand.{Stand, stand_of, begin_of_file, begin_passed_over, end_of_file}

-- nothing was read yet
pub record StandsAtBegin (s : Stand) : Type 0 where
  pub none : s.tally ≡ none_counted
  pub unseen : (key : JobKey) → place_kept s.seen key ≡ None
  pub first : s.files ≡ 0

-- ---- a form, with what was read and written in it

-- a form, how far the reading has come, and what was written
pub record State (F : Type 0) : Type 0 where
  pub form : F
  pub stand : Stand
  pub written : Written

-- what contracts see of these
abbrev pub state_of : {F W : Type 0} → (W → Option (List ℕ)) → F → Progress → Output W → State F
state_of contents form progress output = record { form = form; stand = stand_of progress; written = written_of contents output }

-- at the begin of the next file, which cron ignores for this, if it does
abbrev pub at_file : {F : Type 0} → List ℕ → Option Unfit → State F → State F
at_file name unfit s = record s { stand = begin_of_file name unfit s.stand }

-- at the begin of the next file, which cron passes over for its name
abbrev pub at_passed_over : {F : Type 0} → List ℕ → State F → State F
at_passed_over name s = record s { stand = begin_passed_over name s.stand }

-- something was written, and nothing else is other
abbrev pub Ends : {F : Type 0} → (F → Written → Written → Type 0) → State F → State F → Type 0
Ends ends old new = (new.form ≡ old.form) × (new.stand ≡ old.stand) × ends old.form old.written new.written

-- the end of a file was told, by how far the reading has come, and the file was counted
abbrev pub EndsFile : {F : Type 0} → (F → Stand → Written → Written → Type 0) → Dialect → State F → State F → Type 0
EndsFile ends dialect old new = (new.form ≡ old.form) × (new.stand ≡ end_of_file dialect old.stand) × ends old.form old.stand old.written new.written

-- ---- files

-- a file was told, whose name is shown so, and which cron ignores for this, if it does: each line of its text has exactly one entry, they were taken in order, and then its end was told
abbrev pub IsToldFile : {F : Type 0} → (State F → LineRead → State F → Type 0) → (F → Stand → Written → Written → Type 0) → Dialect → List ℕ → Option Unfit
    → List ℕ → State F → State F → Type 0
IsToldFile {F} takes ends dialect name unfit text old new =
    (lines : List (List ℕ)) × (last : State F) × AreLines text lines
    × TakesInTurn takes (at_file name unfit old) (map (entry_of_line dialect) lines) last × EndsFile ends dialect last new

-- what is asked of the lines of the files of a kind
abbrev pub terms_of : TermsByKind → Dialect → Terms
terms_of k dialects.User = k.user
terms_of k dialects.System = k.system
terms_of k dialects.Patterns = k.patterns

-- a file was told, as what is asked of its kind
abbrev pub IsToldAs : {F : Type 0} → (Terms → State F → LineRead → State F → Type 0) → (Terms → F → Stand → Written → Written → Type 0) → TermsByKind
    → Contents → File → State F → State F → Type 0
IsToldAs takes ends_file k m f old new =
    let terms = terms_of k (dialect_of f) in
    IsToldFile (takes terms) (ends_file terms) terms.settings.now.dialect (path_shown f.name) (m.unfit_of f.word) (m.text_of f.word) old new

-- a file was told that cron passes over for its name, which is shown so: none of its lines was taken
abbrev pub IsPassedOver : {F : Type 0} → (F → Stand → Written → Written → Type 0) → Dialect → List ℕ → State F → State F → Type 0
IsPassedOver ends dialect name old new = EndsFile ends dialect (at_passed_over name old) new

-- what became of a file in a folder was told
abbrev pub IsToldBy : {F : Type 0} → Treatment → (Terms → State F → LineRead → State F → Type 0) → (Terms → F → Stand → Written → Written → Type 0)
    → TermsByKind → Contents → File → State F → State F → Type 0
IsToldBy treatments.Silent takes ends_file k m f old new = new ≡ old
IsToldBy treatments.NotEntered takes ends_file k m f old new = new ≡ old
IsToldBy treatments.NoCrontab takes ends_file k m f old new = new ≡ old
IsToldBy treatments.PassedOver takes ends_file k m f old new =
    let terms = terms_of k (dialect_of f) in IsPassedOver (ends_file terms) terms.settings.now.dialect (path_shown f.name) old new
IsToldBy treatments.Read takes ends_file k m f old new = IsToldAs takes ends_file k m f old new

-- a file of this name in a folder that is asked for was told
abbrev pub IsToldEntry : {F : Type 0} → (Terms → State F → LineRead → State F → Type 0) → (Terms → F → Stand → Written → Written → Type 0) → TermsByKind
    → Contents → File → State F → List ℕ → State F → Type 0
IsToldEntry takes ends_file k m f old name new =
    let e = entry_of f name in IsToldBy (treatment_of (m.is_folder e.word) e name) takes ends_file k m e old new

-- the files of a folder were told, one after the other, in the order of the bytes of their names
pub record IsToldFolder {F : Type 0} (takes : Terms → State F → LineRead → State F → Type 0) (ends_file : Terms → F → Stand → Written → Written → Type 0)
    (k : TermsByKind) (m : Contents) (f : File) (old new : State F) : Type 0 where
  pub names : List (String Global)
  pub all : IsPermutation (m.names_of f.word) names
  pub in_order : IsSorted string_cmp names
  pub told : TakesInTurn (IsToldEntry takes ends_file k m f) old (map (λ name. string_bytes name) names) new

-- a file that is asked for was told: nothing of another of cron's files than a crontab, and of a folder its files
abbrev pub IsToldOf : {F : Type 0} → Sort → (Terms → State F → LineRead → State F → Type 0) → (Terms → F → Stand → Written → Written → Type 0)
    → TermsByKind → Contents → File → State F → State F → Type 0
IsToldOf sorts.NoCrontab takes ends_file k m f old new = new ≡ old
IsToldOf sorts.Folder takes ends_file k m f old new = IsToldFolder takes ends_file k m f old new
IsToldOf sorts.File takes ends_file k m f old new = IsToldAs takes ends_file k m f old new

abbrev pub IsToldAsked : {F : Type 0} → (Terms → State F → LineRead → State F → Type 0) → (Terms → F → Stand → Written → Written → Type 0) → TermsByKind
    → Contents → State F → File → State F → Type 0
IsToldAsked takes ends_file k m old f new = IsToldOf (sort_of (m.is_folder f.word) f) takes ends_file k m f old new

-- the files that are asked for were told, one after the other, each as its kind, and after all of them their end, which was passed on
abbrev pub IsToldCall : {F : Type 0} → (Terms → State F → LineRead → State F → Type 0) → (Terms → F → Stand → Written → Written → Type 0)
    → (Terms → F → Written → Written → Type 0) → TermsByKind → Contents → List File → State F → State F → Type 0
IsToldCall {F} takes ends_file ends k m files old new =
    (last : State F) × (ended : State F) × TakesInTurn (IsToldAsked takes ends_file k m) old files last × Ends (ends k.user) last ended
    × Ends (λ form. IsFlushed) ended new

-- a file failed, or all were told: then the status is that of what was counted
abbrev pub IsToldStatus : {F : Type 0} → (Terms → State F → LineRead → State F → Type 0) → (Terms → F → Stand → Written → Written → Type 0)
    → (Terms → F → Written → Written → Type 0) → TermsByKind → Contents → List File → State F → State F → ℕ → Type 0
IsToldStatus takes ends_file ends k m files old new status =
    (status ≡ 3) ⊎ (IsToldCall takes ends_file ends k m files old new × (status ≡ status_of k.user.settings.now.is_strict new.stand.tally))
