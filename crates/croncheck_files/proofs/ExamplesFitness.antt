-- Worked rows of what cron makes of a file by what the file system says of it, computed from the definitions.
use Rattle.std.proofs.Common.{◌≡◌, ℕ, true, false, None, Some, refl}
use Rattle.std.specs.Path.{path_parent, split_last_component, trim_trailing, rsplit_once}
use Rattle.std.specs.Prelude.{codes}
use Rattle.croncheck_files.specs.declared.fitness.Facts.{Facts}
use Rattle.croncheck_files.specs.declared.fitness.Keeper.TheVariants as keepers
use Rattle.croncheck_files.specs.declared.fitness.Unfit.TheVariants as unfits
use Rattle.croncheck_files.specs.declared.root.Kept.TheVariants as kept
use Rattle.croncheck_files.specs.Fitness.{may_write, is_writable, has_user_mode, unfit_of}
use Rattle.croncheck_files.specs.Root.{root_at, kept_in}

-- ---- modes, which the system gives with what the file is: a regular file is 0100000

may_write_of_2 : may_write 2 ≡ true
may_write_of_2 = refl

may_write_of_5 : may_write 5 ≡ false
may_write_of_5 = refl

-- 0644
mode_644 : is_writable 33188 ≡ false
mode_644 = refl

-- 0664
mode_664 : is_writable 33204 ≡ true
mode_664 = refl

-- 0646
mode_646 : is_writable 33190 ≡ true
mode_646 = refl

-- 0600, and 04600
mode_600 : has_user_mode 33152 ≡ true
mode_600 = refl

mode_640 : has_user_mode 33184 ≡ false
mode_640 = refl

mode_4600 : has_user_mode 35200 ≡ false
mode_4600 = refl

-- ---- files

-- root's file of this mode, with one name that is no link
abbrev file_of : ℕ → Facts
file_of mode = record { link_owner = None; owner = 0; is_regular = true; mode = mode; links = 1 }

a_good_file : unfit_of keepers.System (file_of 33188) ≡ None
a_good_file = refl

a_file_of_another : unfit_of keepers.System (record (file_of 33188) { owner = 1000 }) ≡ Some unfits.Owner
a_file_of_another = refl

-- the first that cron looks at
of_another_and_writable : unfit_of keepers.System (record (file_of 33204) { owner = 1000; links = 2 }) ≡ Some unfits.Owner
of_another_and_writable = refl

writable : unfit_of keepers.System (record (file_of 33204) { links = 2 }) ≡ Some unfits.Writable
writable = refl

two_links : unfit_of keepers.System (record (file_of 33188) { links = 2 }) ≡ Some unfits.Links
two_links = refl

a_pipe : unfit_of keepers.System (record (file_of 4516) { is_regular = false }) ≡ Some unfits.NotRegular
a_pipe = refl

a_link_of_root : unfit_of keepers.System (record (file_of 33188) { link_owner = Some 0 }) ≡ None
a_link_of_root = refl

a_link_of_another : unfit_of keepers.System (record (file_of 33188) { link_owner = Some 1000 }) ≡ Some unfits.LinkOwner
a_link_of_another = refl

a_users_file : unfit_of (keepers.User 1000) (record (file_of 33152) { owner = 1000 }) ≡ None
a_users_file = refl

roots_file_of_a_user : unfit_of (keepers.User 1000) (file_of 33152) ≡ None
roots_file_of_a_user = refl

a_third_users_file : unfit_of (keepers.User 1000) (record (file_of 33152) { owner = 1001 }) ≡ Some unfits.UserOwner
a_third_users_file = refl

a_users_link : unfit_of (keepers.User 1000) (record (file_of 33152) { link_owner = Some 0 }) ≡ Some unfits.Link
a_users_link = refl

a_users_file_that_others_read : unfit_of (keepers.User 1000) (file_of 33188) ≡ Some unfits.Mode
a_users_file_that_others_read = refl

a_file_of_nobody : unfit_of keepers.NoUser (file_of 33152) ≡ Some unfits.NoUser
a_file_of_nobody = refl

-- ---- where they stand

the_crontab : kept_in (root_at (codes "/")) (codes "/etc/crontab") ≡ Some kept.System
unfolding path_parent split_last_component trim_trailing rsplit_once
the_crontab = refl

a_further_one : kept_in (root_at (codes "/mnt/")) (codes "/mnt/etc/cron.d/x") ≡ Some kept.System
unfolding path_parent split_last_component trim_trailing rsplit_once
a_further_one = refl

that_of_a_user : kept_in (root_at (codes "/mnt")) (codes "/mnt/var/spool/cron/crontabs/anna") ≡ Some kept.Spool
unfolding path_parent split_last_component trim_trailing rsplit_once
that_of_a_user = refl

one_of_another_machine : kept_in (root_at (codes "/mnt")) (codes "/etc/crontab") ≡ None
unfolding path_parent split_last_component trim_trailing rsplit_once
one_of_another_machine = refl

one_of_a_checkout : kept_in (root_at (codes "/")) (codes "etc/cron.d/x") ≡ None
unfolding path_parent split_last_component trim_trailing rsplit_once
one_of_a_checkout = refl

one_in_a_folder_of_the_folder : kept_in (root_at (codes "/")) (codes "/etc/cron.d/x/y") ≡ None
unfolding path_parent split_last_component trim_trailing rsplit_once
one_in_a_folder_of_the_folder = refl
