-- What cron makes of a crontab by what the file system says of its file. Source: Debian's cron 3.0pl1-162, `process_crontab` in database.c.
use Rattle.std.specs.Prelude.{ℕ, ◌/◌, ◌%◌, ◌++◌, Bool, false, not, ◌&&◌, ◌||◌, ◌==◌, List, codes, Option, Some, None, is_some, if◌then◌else◌}
use Rattle.croncheck_files.specs.declared.fitness.Facts.{Facts}
use Rattle.croncheck_files.specs.declared.fitness.Keeper.{Keeper}
use Rattle.croncheck_files.specs.declared.fitness.Keeper.TheVariants as keepers
use Rattle.croncheck_files.specs.declared.fitness.Unfit.{Unfit}
use Rattle.croncheck_files.specs.declared.fitness.Unfit.TheVariants as unfits

-- the file's name is a symbolic link, whose owner isn't root, the user 0
abbrev pub is_link_of_another : Option ℕ → Bool
is_link_of_another None = false
is_link_of_another (Some owner) = not (owner == 0)

-- those may write of whom the last digit of a mode is, in the base 8
abbrev pub may_write : ℕ → Bool
may_write mode = (mode / 2) % 2 == 1

-- the group or all others may write
abbrev pub is_writable : ℕ → Bool
is_writable mode = may_write (mode / 8) || may_write mode

-- the last four digits of a mode are 0600: its owner alone reads and writes
abbrev pub has_user_mode : ℕ → Bool
has_user_mode mode = mode % 4096 == 384

-- the first reason for which cron ignores a crontab of the system, if there is one
abbrev pub unfit_of_system : Facts → Option Unfit
unfit_of_system f =
    if is_link_of_another f.link_owner then Some unfits.LinkOwner
    else if not (f.owner == 0) then Some unfits.Owner
    else if not f.is_regular then Some unfits.NotRegular
    else if is_writable f.mode then Some unfits.Writable
    else if not (f.links == 1) then Some unfits.Links
    else None

-- the same of the crontab of the user of this number
abbrev pub unfit_of_user : ℕ → Facts → Option Unfit
unfit_of_user user f =
    if is_some f.link_owner then Some unfits.Link
    else if not (f.owner == user) && not (f.owner == 0) then Some unfits.UserOwner
    else if not f.is_regular then Some unfits.NotRegular
    else if not (has_user_mode f.mode) then Some unfits.Mode
    else if not (f.links == 1) then Some unfits.Links
    else None

-- the same of any crontab
abbrev pub unfit_of : Keeper → Facts → Option Unfit
unfit_of keepers.System f = unfit_of_system f
unfit_of (keepers.User user) f = unfit_of_user user f
unfit_of keepers.NoUser f = Some unfits.NoUser

-- ---- what is said

-- the name by which it is known
abbrev pub unfit_name : Unfit → List ℕ
unfit_name unfits.NoUser = codes "file-user"
unfit_name unfits.LinkOwner = codes "file-owner"
unfit_name unfits.Owner = codes "file-owner"
unfit_name unfits.UserOwner = codes "file-owner"
unfit_name unfits.Link = codes "file-type"
unfit_name unfits.NotRegular = codes "file-type"
unfit_name unfits.Writable = codes "file-mode"
unfit_name unfits.Mode = codes "file-mode"
unfit_name unfits.Links = codes "file-links"

-- what is said of it
abbrev pub unfit_text : Unfit → List ℕ
unfit_text unfits.NoUser = codes "no user has its name"
unfit_text unfits.Link = codes "it is a symbolic link, and a user's crontab is none"
unfit_text unfits.LinkOwner = codes "it is a symbolic link, and root doesn't own the link"
unfit_text unfits.Owner = codes "root doesn't own it"
unfit_text unfits.UserOwner = codes "neither its user nor root owns it"
unfit_text unfits.NotRegular = codes "it is no regular file"
unfit_text unfits.Writable = codes "its group or all others may write to it"
unfit_text unfits.Mode = codes "its mode isn't 600"
unfit_text unfits.Links = codes "it has more than one hard link"

-- the same, as a line
abbrev pub unfit_line : Unfit → List ℕ
unfit_line unfit = unfit_text unfit ++ codes "\n"
