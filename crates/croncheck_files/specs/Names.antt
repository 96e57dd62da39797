-- Which files a call asks for, and how each is read. Source: Debian's cron 3.0pl1, of /etc/crontab and /etc/cron.d, and this crate's
-- documentation of `asked_files`.
use Rattle.std.specs.Prelude.{◌||◌, ◌&&◌, nat_lt, max, ℕ, ◌+◌, Bool, false, List, [], ◌∷◌, Option, Some, None, option_and_then, unwrap_or, codes, get_or, if◌then◌else◌}
use Rattle.std.specs.List.{fold}
use Rattle.std.specs.Path.{path_file_name, path_parent}
use Rattle.std.specs.Str.{bytes_eq}
use Rattle.crontab.specs.declared.line.Dialect.{Dialect}
use Rattle.crontab.specs.declared.line.Dialect.TheVariants as dialects
use Rattle.croncheck_files.specs.declared.names.Asked.{Asked}
use Rattle.croncheck_files.specs.declared.names.Places.{Places}

-- ---- by their names

-- there is a text, and it is this
abbrev pub is_text : List ℕ → Option (List ℕ) → Bool
is_text wanted None = false
is_text wanted (Some text) = bytes_eq text wanted

-- the name of the folder in which the file of a path stands
abbrev pub folder_name : List ℕ → Option (List ℕ)
folder_name path = option_and_then path_file_name (path_parent path)

-- a crontab is the system's by its name: it stands in a folder `cron.d`, or it is `crontab` in a folder `etc`
abbrev pub is_of_system : List ℕ → Bool
is_of_system path =
    is_text (codes "cron.d") (folder_name path) || (is_text (codes "etc") (folder_name path) && is_text (codes "crontab") (path_file_name path))

-- a crontab that `crontab` has installed stands in a folder `crontabs` of a folder `cron`, as /var/spool/cron/crontabs
abbrev pub is_installed : List ℕ → Bool
is_installed path = is_text (codes "crontabs") (folder_name path) && is_text (codes "cron") (option_and_then folder_name (path_parent path))

-- without an option a crontab is the system's by its name, and else a user's
abbrev pub dialect_by_name : List ℕ → Dialect
dialect_by_name path = if is_of_system path then dialects.System else dialects.User

-- ---- by the options in front of them

-- where the options `--user`, `--system` and `--patterns` stand among the words of a call, counted from 1
pub record Options : Type 0 where
  pub user : List ℕ
  pub system : List ℕ
  pub patterns : List ℕ

-- what contracts see of the places of the options
abbrev pub places_seen : Places → Options
places_seen p = record { user = p.user.now; system = p.system.now; patterns = p.patterns.now }

-- the later of two places, if the second stands in front of this one
abbrev pub later_place : ℕ → ℕ → ℕ → ℕ
later_place place last other = if nat_lt other place then max last other else last

-- the last of some places in front of one, and 0 where there is none
abbrev pub last_place_before : ℕ → List ℕ → ℕ
last_place_before place places = fold (later_place place) 0 places

-- of three options the first stands last in front of a file, which stands at this place
abbrev pub is_last : ℕ → List ℕ → List ℕ → List ℕ → Bool
is_last place wanted others more = nat_lt (last_place_before place others) (last_place_before place wanted) && nat_lt (last_place_before place more) (last_place_before place wanted)

-- what the last option in front of a place says
abbrev pub kind_at : Options → ℕ → Option Dialect
kind_at o place =
    if is_last place o.system o.user o.patterns then Some dialects.System
    else if is_last place o.patterns o.user o.system then Some dialects.Patterns
    else if is_last place o.user o.system o.patterns then Some dialects.User
    else None

-- ---- the files

-- what is seen of a file that is asked for: the word by which it is opened, the name under which it is told, and what an option says of it
pub record File : Type 0 where
  pub word : List ℕ
  pub name : List ℕ
  pub kind : Option Dialect

-- what contracts see of a file that is asked for
abbrev pub asked_seen : Asked → File
asked_seen f = record { word = f.word.now; name = f.name.now; kind = f.kind }

-- how a file is read: as an option says, else by its name
abbrev pub dialect_of : File → Dialect
dialect_of f = unwrap_or f.kind (dialect_by_name f.name)

-- the name of a file: standard input has the one that is given for it
abbrev pub name_shown : List ℕ → List ℕ → List ℕ
name_shown stdin_name word = if bytes_eq word (codes "-") then stdin_name else word

-- the file of a word at this place
abbrev pub asked_file_at : Options → List ℕ → ℕ → List ℕ → File
asked_file_at o stdin_name place word = record { word = word; name = name_shown stdin_name word; kind = kind_at o place }

-- the files of some words, in their order: the first stands at the place of this number, and each further one at the next
abbrev pub asked_files : Options → List ℕ → List ℕ → ℕ → List (List ℕ) → List File
asked_files o stdin_name places k [] = []
asked_files o stdin_name places k (word ∷ words) = asked_file_at o stdin_name (get_or places k 0) word ∷ asked_files o stdin_name places (k + 1) words
