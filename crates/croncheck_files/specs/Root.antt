-- Where a machine keeps its crontabs. Source: Debian's cron 3.0pl1-162, pathnames.h and its manual page crontab(5).
use Rattle.std.specs.Prelude.{ℕ, Bool, ◌||◌, List, codes, Option, Some, None, string_bytes, if◌then◌else◌}
use Rattle.std.specs.Path.{path_parent}
use Rattle.std.specs.Str.{bytes_eq}
use Rattle.croncheck_files.specs.declared.root.Kept.{Kept}
use Rattle.croncheck_files.specs.declared.root.Kept.TheVariants as kept
use Rattle.croncheck_files.specs.declared.root.Root.{Root as Files}
use Rattle.croncheck_files.specs.Folder.{path_in}
use Rattle.croncheck_files.specs.Names.{is_text}

-- the files of a machine: the crontab of the system, the folder of further ones, that of the users' crontabs, the users, and the zone
pub record Root : Type 0 where
  pub crontab : List ℕ
  pub folder : List ℕ
  pub spool : List ℕ
  pub users : List ℕ
  pub clock : List ℕ

-- what contracts see of these
abbrev pub root_seen : Files → Root
root_seen r = record {
  crontab = string_bytes r.crontab;
  folder = string_bytes r.folder;
  spool = string_bytes r.spool;
  users = string_bytes r.users;
  clock = string_bytes r.clock;
}

-- those of the machine whose files stand below a folder
abbrev pub root_at : List ℕ → Root
root_at folder = record {
  crontab = path_in folder (codes "etc/crontab");
  folder = path_in folder (codes "etc/cron.d");
  spool = path_in folder (codes "var/spool/cron/crontabs");
  users = path_in folder (codes "etc/passwd");
  clock = path_in folder (codes "etc/localtime");
}

-- the file of a path stands in a folder itself
abbrev pub is_in : List ℕ → List ℕ → Bool
is_in folder path = is_text folder (path_parent path)

-- where the file of a path stands, if it is a crontab of the machine by it
abbrev pub kept_in : Root → List ℕ → Option Kept
kept_in r path =
    if bytes_eq path r.crontab || is_in r.folder path then Some kept.System
    else if is_in r.spool path then Some kept.Spool
    else None
