-- What is read of a folder. Source: Debian's cron 3.0pl1, of the names in /etc/cron.d, and this crate's documentation of `Treatment`.
use Rattle.std.specs.Prelude.{not, ◌&&◌, ◌||◌, ◌==◌, nat_eq, ℕ, Bool, false, List, ◌∷◌, ◌++◌, length, drop, Option, Some, None, is_some, codes, if◌then◌else◌}
use Rattle.std.specs.Char.{is_ascii_alphanumeric}
use Rattle.std.specs.List.{list_all, starts_with, ends_with}
use Rattle.std.specs.Path.{path_file_name}
use Rattle.crontab.specs.declared.line.Dialect.{Dialect}
use Rattle.crontab.specs.declared.line.Dialect.TheVariants as dialects
use Rattle.croncheck_files.specs.declared.folder.Sort.{Sort}
use Rattle.croncheck_files.specs.declared.folder.Sort.TheVariants as sorts
use Rattle.croncheck_files.specs.declared.folder.Treatment.{Treatment}
use Rattle.croncheck_files.specs.declared.folder.Treatment.TheVariants as treatments
use Rattle.croncheck_files.specs.Names.{File, is_text, folder_name, is_installed, dialect_of}

-- what dpkg or an editor leaves of a file
abbrev pub is_leftover : List ℕ → Bool
is_leftover name =
    ends_with nat_eq name (codes "~")
    || (ends_with nat_eq name (codes ".dpkg-old") || (ends_with nat_eq name (codes ".dpkg-dist") || ends_with nat_eq name (codes ".dpkg-new")))

-- nothing is said of a file of this name
abbrev pub is_left_out : List ℕ → Bool
is_left_out name = starts_with nat_eq name (codes ".") || is_leftover name

-- what a broken-off `crontab` leaves beside the crontabs that it has installed: `tmp.` and six letters or digits
abbrev pub is_unfinished : List ℕ → Bool
is_unfinished name = starts_with nat_eq name (codes "tmp.") && (length name == 10 && list_all is_ascii_alphanumeric (drop 4 name))

-- nothing is said of a file of this name in a folder: cron passes over it without a word, or it is none that anybody reads
abbrev pub is_silent : File → List ℕ → Bool
is_silent f name = is_left_out name || (is_unfinished name && is_installed f.name)

-- a letter, a digit, `_` or `-`: a name in /etc/cron.d has these alone
abbrev pub is_name_byte : ℕ → Bool
is_name_byte b = is_ascii_alphanumeric b || (b == 95 || b == 45)

abbrev pub is_name_of_cron : List ℕ → Bool
is_name_of_cron name = list_all is_name_byte name

-- cron passes over a file of the system for its name
abbrev pub is_passed_over : Dialect → List ℕ → Bool
is_passed_over dialects.User name = false
is_passed_over dialects.System name = not (is_name_of_cron name)
is_passed_over dialects.Patterns name = false

-- a file of this name in a folder `cron.d` is told, and cron ignores it for the name
abbrev pub is_told_as_misnamed : Option (List ℕ) → Bool
is_told_as_misnamed None = false
is_told_as_misnamed (Some name) = not (is_left_out name) && not (is_name_of_cron name)

-- cron ignores the crontab of the system at this path for its name, and that is told
abbrev pub is_misnamed : List ℕ → Bool
is_misnamed path = is_text (codes "cron.d") (folder_name path) && is_told_as_misnamed (path_file_name path)

-- the folders of the scripts that run-parts runs
abbrev pub is_scripts : Option (List ℕ) → Bool
is_scripts name =
    is_text (codes "cron.hourly") name || (is_text (codes "cron.daily") name
    || (is_text (codes "cron.weekly") name || (is_text (codes "cron.monthly") name || is_text (codes "cron.yearly") name)))

-- another of cron's files than a crontab: the table of anacron, such a folder, or a file in one
abbrev pub is_named_otherwise : List ℕ → Bool
is_named_otherwise path =
    is_text (codes "anacrontab") (path_file_name path) || (is_scripts (path_file_name path) || is_scripts (folder_name path))

-- the same, where no option says how the file is read
abbrev pub is_no_crontab : File → Bool
is_no_crontab f = not (is_some f.kind) && is_named_otherwise f.name

-- what a file is that is asked for, which may be a folder
abbrev pub sort_of : Bool → File → Sort
sort_of is_folder f = if is_no_crontab f then sorts.NoCrontab else if is_folder then sorts.Folder else sorts.File

-- what becomes of a file of this name in a folder, which may be a folder itself
abbrev pub treatment_of : Bool → File → List ℕ → Treatment
treatment_of is_folder f name =
    if is_silent f name then treatments.Silent
    else if is_folder then treatments.NotEntered
    else if is_no_crontab f then treatments.NoCrontab
    else if is_passed_over (dialect_of f) name then treatments.PassedOver
    else treatments.Read

-- the path of a file in a folder
abbrev pub path_in : List ℕ → List ℕ → List ℕ
path_in folder name = if ends_with nat_eq folder (codes "/") then folder ++ name else folder ++ (47 ∷ name)

-- a file in a folder that is asked for
abbrev pub entry_of : File → List ℕ → File
entry_of f name = record { word = path_in f.word name; name = path_in f.word name; kind = f.kind }
