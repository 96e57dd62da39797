-- The files of a call, and what is said at its end. Source: this crate's documentation of `tell_files`.
use Rattle.std.specs.Prelude.{◌≡◌, ◌==◌, ℕ, Bool, List, [], ◌++◌, codes, Option, Some, None, if◌then◌else◌}
use Rattle.std.specs.declared.alloc.Global.{Global}
use Rattle.std.specs.declared.string.String.{String}
use Rattle.std.specs.Fmt.{decimal}
use Rattle.croncheck_files.specs.declared.fitness.Unfit.{Unfit}
use Rattle.croncheck_reading.specs.declared.tally.Tally.{Tally}

-- each reader of the file of this name gives this text
abbrev pub HasText : (List ℕ → Option (List ℕ) → Type 0) → List ℕ → List ℕ → Type 0
HasText holds name text = (remaining : Option (List ℕ)) → holds name remaining → remaining ≡ Some text

-- what the files and folders of a machine hold: the text of a file, why cron ignores it by what the file system says of it, if it does, whether
-- a name is one of a folder, and the names in a folder, in any order
pub record Contents : Type 0 where
  pub text_of : List ℕ → List ℕ
  pub unfit_of : List ℕ → Option Unfit
  pub is_folder : List ℕ → Bool
  pub names_of : List ℕ → List (String Global)

-- they hold this
pub record HaveContents (holds : List ℕ → Option (List ℕ) → Type 0) (says_unfit : List ℕ → Option Unfit → Type 0) (is_folder : List ℕ → Bool → Type 0) (lists : List ℕ → List (String Global) → Type 0)
    (m : Contents) : Type 0 where
  pub texts : (name : List ℕ) → HasText holds name (m.text_of name)
  pub fitness : (name : List ℕ) (answer : Option Unfit) → says_unfit name answer → answer ≡ m.unfit_of name
  pub folders : (name : List ℕ) (answer : Bool) → is_folder name answer → answer ≡ m.is_folder name
  pub names : (name : List ℕ) (found : List (String Global)) → lists name found → found ≡ m.names_of name

-- the noun of so many jobs
abbrev pub noun_of : ℕ → List ℕ
noun_of jobs = if jobs == 1 then codes "job" else codes "jobs"

-- how many lines have a warning, where some have
abbrev pub warned_text : ℕ → List ℕ
warned_text warned = if warned == 0 then [] else codes ", " ++ (decimal warned ++ codes " with warnings")

-- the noun of so many files
abbrev pub files_noun : ℕ → List ℕ
files_noun files = if files == 1 then codes "file" else codes "files"

-- how many files cron ignores as wholes, where it does
abbrev pub ignored_text : ℕ → List ℕ
ignored_text ignored = if ignored == 0 then [] else codes ", " ++ (decimal ignored ++ (codes " " ++ (files_noun ignored ++ codes " ignored")))

-- how many files there were, where the zone is named
abbrev pub files_text : Option (List ℕ) → ℕ → List ℕ
files_text None files = []
files_text (Some zone) files = decimal files ++ (codes " " ++ (files_noun files ++ codes ", "))

-- the name of the zone, where it is named
abbrev pub zone_text : Option (List ℕ) → List ℕ
zone_text None = []
zone_text (Some zone) = codes ", zone " ++ zone

-- what is said at the end of so many files, the zone of which may be named
abbrev pub summary_of : Option (List ℕ) → ℕ → Tally → List ℕ
summary_of zone files t =
    files_text zone files ++ (decimal t.jobs ++ (codes " " ++ (noun_of t.jobs ++ (codes ", " ++ (decimal t.refused
    ++ (codes " refused" ++ (warned_text t.warned ++ (ignored_text t.ignored ++ (zone_text zone ++ codes "\n")))))))))
