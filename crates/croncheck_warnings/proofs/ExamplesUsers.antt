-- Worked rows of the users of a machine, computed from the definitions.
use Rattle.std.proofs.Common.{◌≡◌, ℕ, List, true, false, None, Some, refl}
use Rattle.std.specs.Prelude.{codes}
use Rattle.croncheck_warnings.specs.Users.{has_user, is_unknown, user_end, user_start}

-- two users, and a line that is none for want of a colon
abbrev passwd : List ℕ
passwd = codes "root:x:0:0:root:/root:/bin/bash\nwww-data:x:33:33::/var/www:/usr/sbin/nologin\nmail\n"

root : has_user passwd (codes "root") ≡ true
root = refl

a_user_in_the_second_line : has_user passwd (codes "www-data") ≡ true
a_user_in_the_second_line = refl

a_front_of_a_name : has_user passwd (codes "roo") ≡ false
a_front_of_a_name = refl

a_name_and_more : has_user passwd (codes "root:x") ≡ false
a_name_and_more = refl

a_word_after_the_first_colon : has_user passwd (codes "x") ≡ false
a_word_after_the_first_colon = refl

a_line_without_a_colon : has_user passwd (codes "mail") ≡ false
a_line_without_a_colon = refl

-- the last line may lack its line feed
no_line_feed : has_user (codes "a:\nb:") (codes "b") ≡ true
no_line_feed = refl

no_user_of_no_line : has_user (codes "") (codes "root") ≡ false
no_user_of_no_line = refl

-- ---- jobs

a_user_that_is_none : is_unknown (Some passwd) (Some (codes "nobody")) ≡ true
a_user_that_is_none = refl

a_user_that_is_one : is_unknown (Some passwd) (Some (codes "root")) ≡ false
a_user_that_is_one = refl

-- no file of users was named
users_that_are_not_known : is_unknown None (Some (codes "nobody")) ≡ false
users_that_are_not_known = refl

-- a user's crontab has none
no_user_is_named : is_unknown (Some passwd) None ≡ false
no_user_is_named = refl

-- ---- places

the_end_of_a_name : user_end (codes " 0 5 * * * root x y") (codes "x y") ≡ 15
the_end_of_a_name = refl

the_begin_of_a_name : user_start (codes " 0 5 * * * root x y") (codes "x y") (Some (codes "root")) ≡ 11
the_begin_of_a_name = refl

-- the command stands after one blank, and may be empty
no_command : user_end (codes "@daily root ") (codes "") ≡ 11
no_command = refl
