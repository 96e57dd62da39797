-- Worked rows of how files are read: each is computed from the definitions.
use Rattle.std.proofs.Common.{◌≡◌, [], ◌∷◌, true, false, Some, None, codes, refl}
use Rattle.std.specs.Path.{path_file_name, path_parent, split_last_component, trim_trailing, rsplit_once}
use Rattle.crontab.specs.declared.line.Dialect.TheVariants as dialects
use Rattle.croncheck_files.specs.Names.{Options, is_of_system, is_installed, last_place_before, kind_at, dialect_of, name_shown}

-- ---- by their names

etc_crontab : is_of_system (codes "/etc/crontab") ≡ true
unfolding path_file_name path_parent split_last_component trim_trailing rsplit_once
etc_crontab = refl

-- in the folder of a package, after two slashes, and on another machine
in_a_checkout : is_of_system (codes "etc/crontab") ≡ true
unfolding path_file_name path_parent split_last_component trim_trailing rsplit_once
in_a_checkout = refl

after_two_slashes : is_of_system (codes "//etc//crontab") ≡ true
unfolding path_file_name path_parent split_last_component trim_trailing rsplit_once
after_two_slashes = refl

of_another_machine : is_of_system (codes "web1:/etc/crontab") ≡ true
unfolding path_file_name path_parent split_last_component trim_trailing rsplit_once
of_another_machine = refl

in_the_folder : is_of_system (codes "cron.d/web") ≡ true
unfolding path_file_name path_parent split_last_component trim_trailing rsplit_once
in_the_folder = refl

-- a file that is named as the folder, and one of a folder in it
named_as_the_folder : is_of_system (codes "etc/cron.d") ≡ false
unfolding path_file_name path_parent split_last_component trim_trailing rsplit_once
named_as_the_folder = refl

in_a_folder_of_it : is_of_system (codes "/etc/cron.d/old/web") ≡ false
unfolding path_file_name path_parent split_last_component trim_trailing rsplit_once
in_a_folder_of_it = refl

a_name_that_ends_so : is_of_system (codes "mycron.d/web") ≡ false
unfolding path_file_name path_parent split_last_component trim_trailing rsplit_once
a_name_that_ends_so = refl

without_a_folder : is_of_system (codes "crontab") ≡ false
unfolding path_file_name path_parent split_last_component trim_trailing rsplit_once
without_a_folder = refl

installed : is_installed (codes "/var/spool/cron/crontabs/ann") ≡ true
unfolding path_file_name path_parent split_last_component trim_trailing rsplit_once
installed = refl

installed_on_another_machine : is_installed (codes "mnt/var/spool/cron/crontabs/ann") ≡ true
unfolding path_file_name path_parent split_last_component trim_trailing rsplit_once
installed_on_another_machine = refl

in_a_folder_of_crontabs : is_installed (codes "crontabs/ann") ≡ false
unfolding path_file_name path_parent split_last_component trim_trailing rsplit_once
in_a_folder_of_crontabs = refl

in_the_folder_above : is_installed (codes "/var/spool/cron/ann") ≡ false
unfolding path_file_name path_parent split_last_component trim_trailing rsplit_once
in_the_folder_above = refl

-- ---- by the options in front of them

-- `a --system b --user c --patterns d`: the options stand at 2, 4 and 6
abbrev options : Options
options = record { user = 4 ∷ []; system = 2 ∷ []; patterns = 6 ∷ [] }

in_front_of_all : kind_at options 1 ≡ None
in_front_of_all = refl

after_system : kind_at options 3 ≡ Some dialects.System
after_system = refl

after_user : kind_at options 5 ≡ Some dialects.User
after_user = refl

after_patterns : kind_at options 7 ≡ Some dialects.Patterns
after_patterns = refl

-- `--system` once more at 8
the_last_counts : last_place_before 9 (2 ∷ 8 ∷ []) ≡ 8
the_last_counts = refl

none_in_front : last_place_before 1 (2 ∷ 8 ∷ []) ≡ 0
none_in_front = refl

-- a file of the system by its name, and one that an option says to be a user's
a_system_by_name : dialect_of (record { word = []; name = codes "cron.d/a"; kind = None }) ≡ dialects.System
unfolding path_file_name path_parent split_last_component trim_trailing rsplit_once
a_system_by_name = refl

a_user_by_an_option : dialect_of (record { word = []; name = codes "cron.d/a"; kind = Some dialects.User }) ≡ dialects.User
a_user_by_an_option = refl

-- ---- standard input

with_a_name : name_shown (codes "web1:/etc/crontab") (codes "-") ≡ codes "web1:/etc/crontab"
with_a_name = refl

a_file : name_shown (codes "web1:/etc/crontab") (codes "tab") ≡ codes "tab"
a_file = refl
