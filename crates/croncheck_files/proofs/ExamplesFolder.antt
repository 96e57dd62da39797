-- Worked rows of what is read of a folder: each is computed from the definitions.
use Rattle.std.proofs.Common.{◌≡◌, Some, None, true, false, codes, refl}
use Rattle.std.specs.Path.{path_file_name, path_parent, split_last_component, trim_trailing, rsplit_once}
use Rattle.crontab.specs.declared.line.Dialect.TheVariants as dialects
use Rattle.croncheck_files.specs.declared.folder.Sort.TheVariants as sorts
use Rattle.croncheck_files.specs.declared.folder.Treatment.TheVariants as treatments
use Rattle.croncheck_files.specs.Folder.{is_left_out, is_passed_over, is_misnamed, is_named_otherwise, sort_of, treatment_of, path_in, entry_of}
use Rattle.croncheck_files.specs.Names.{File, dialect_of}

-- ---- names

hidden : is_left_out (codes ".placeholder") ≡ true
hidden = refl

left_by_dpkg : is_left_out (codes "web.dpkg-old") ≡ true
left_by_dpkg = refl

left_by_an_editor : is_left_out (codes "web~") ≡ true
left_by_an_editor = refl

with_a_dot_within : is_left_out (codes "web.sh") ≡ false
with_a_dot_within = refl

of_the_system_with_a_dot : is_passed_over dialects.System (codes "web.sh") ≡ true
of_the_system_with_a_dot = refl

of_the_system : is_passed_over dialects.System (codes "e2scrub_all-2") ≡ false
of_the_system = refl

-- a file in `cron.d` that is named itself, and one in another folder
named_with_a_dot : is_misnamed (codes "deploy/cron.d/backup.sh") ≡ true
unfolding path_file_name path_parent split_last_component trim_trailing rsplit_once
named_with_a_dot = refl

named_without_one : is_misnamed (codes "/etc/cron.d/e2scrub_all-2") ≡ false
unfolding path_file_name path_parent split_last_component trim_trailing rsplit_once
named_without_one = refl

named_in_another_folder : is_misnamed (codes "cron.d/old/backup.sh") ≡ false
unfolding path_file_name path_parent split_last_component trim_trailing rsplit_once
named_in_another_folder = refl

-- nothing is said of it in its folder either
a_hidden_one_is_named : is_misnamed (codes "cron.d/.placeholder") ≡ false
unfolding path_file_name path_parent split_last_component trim_trailing rsplit_once
a_hidden_one_is_named = refl

-- a user `first.last` has a crontab of that name
of_a_user_with_a_dot : is_passed_over dialects.User (codes "first.last") ≡ false
of_a_user_with_a_dot = refl

of_patterns_with_a_dot : is_passed_over dialects.Patterns (codes "web.txt") ≡ false
of_patterns_with_a_dot = refl

-- ---- other files of cron

scripts : is_named_otherwise (codes "/etc/cron.daily") ≡ true
unfolding path_file_name path_parent split_last_component trim_trailing rsplit_once
scripts = refl

a_script : is_named_otherwise (codes "/etc/cron.hourly/backup") ≡ true
unfolding path_file_name path_parent split_last_component trim_trailing rsplit_once
a_script = refl

of_anacron : is_named_otherwise (codes "etc/anacrontab") ≡ true
unfolding path_file_name path_parent split_last_component trim_trailing rsplit_once
of_anacron = refl

a_crontab : is_named_otherwise (codes "/etc/cron.d/daily") ≡ false
unfolding path_file_name path_parent split_last_component trim_trailing rsplit_once
a_crontab = refl

-- ---- paths

after_a_slash : path_in (codes "cron.d/") (codes "web") ≡ codes "cron.d/web"
after_a_slash = refl

without_a_slash : path_in (codes "cron.d") (codes "web") ≡ codes "cron.d/web"
without_a_slash = refl

-- the files of /etc/cron.d are the system's, though the folder's own name says nothing
abbrev folder : File
folder = record { word = codes "/etc/cron.d"; name = codes "/etc/cron.d"; kind = None }

in_the_folder : dialect_of (entry_of folder (codes "web")) ≡ dialects.System
unfolding path_file_name path_parent split_last_component trim_trailing rsplit_once
in_the_folder = refl

-- ---- what becomes of them

the_folder : sort_of true folder ≡ sorts.Folder
unfolding path_file_name path_parent split_last_component trim_trailing rsplit_once
the_folder = refl

a_folder_of_scripts : sort_of true (record folder { name = codes "/etc/cron.daily" }) ≡ sorts.NoCrontab
unfolding path_file_name path_parent split_last_component trim_trailing rsplit_once
a_folder_of_scripts = refl

-- an option says that it is read
scripts_by_an_option : sort_of true (record folder { name = codes "/etc/cron.daily"; kind = Some dialects.System }) ≡ sorts.Folder
scripts_by_an_option = refl

read : treatment_of false (entry_of folder (codes "web")) (codes "web") ≡ treatments.Read
unfolding path_file_name path_parent split_last_component trim_trailing rsplit_once
read = refl

passed_over : treatment_of false (entry_of folder (codes "web.sh")) (codes "web.sh") ≡ treatments.PassedOver
unfolding path_file_name path_parent split_last_component trim_trailing rsplit_once
passed_over = refl

a_hidden_folder : treatment_of true (entry_of folder (codes ".git")) (codes ".git") ≡ treatments.Silent
a_hidden_folder = refl

a_folder_in_it : treatment_of true (entry_of folder (codes "old")) (codes "old") ≡ treatments.NotEntered
a_folder_in_it = refl

-- the folder of the users' crontabs
abbrev spool : File
spool = record { word = codes "/var/spool/cron/crontabs"; name = codes "/var/spool/cron/crontabs"; kind = Some dialects.User }

left_by_crontab : treatment_of false (entry_of spool (codes "tmp.Ab3x9Z")) (codes "tmp.Ab3x9Z") ≡ treatments.Silent
unfolding path_file_name path_parent split_last_component trim_trailing rsplit_once
left_by_crontab = refl

of_a_user_whose_name_begins_so : treatment_of false (entry_of spool (codes "tmp.anna")) (codes "tmp.anna") ≡ treatments.Read
unfolding path_file_name path_parent split_last_component trim_trailing rsplit_once
of_a_user_whose_name_begins_so = refl

named_so_in_another_folder : treatment_of false (entry_of (record folder { word = codes "drafts" }) (codes "tmp.Ab3x9Z")) (codes "tmp.Ab3x9Z") ≡ treatments.Read
unfolding path_file_name path_parent split_last_component trim_trailing rsplit_once
named_so_in_another_folder = refl

the_table_of_anacron : treatment_of false (entry_of folder (codes "anacrontab")) (codes "anacrontab") ≡ treatments.NoCrontab
unfolding path_file_name path_parent split_last_component trim_trailing rsplit_once
the_table_of_anacron = refl
