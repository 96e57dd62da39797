-- Worked rows of words in the place of a user's name, computed from the definitions.
use Rattle.std.proofs.Common.{◌≡◌, true, false, Some, None, refl}
use Rattle.std.specs.Prelude.{codes}
use Rattle.croncheck_output.specs.User.{is_user_name, user_shown}

a_user : user_shown (Some (codes "www-data")) ≡ Some (codes "www-data")
a_user = refl

one_of_a_domain : is_user_name (codes "OFFICE\\anna.b") ≡ true
one_of_a_domain = refl

no_user : user_shown None ≡ None
no_user = refl

-- what is set is no name, and neither is a path, an option or a shell's text
a_password : user_shown (Some (codes "PGPASSWORD=S3CR3T")) ≡ None
a_password = refl

a_path : is_user_name (codes "/usr/bin/backup") ≡ false
a_path = refl

an_option : is_user_name (codes "-pS3CR3T") ≡ false
an_option = refl

a_quoted_text : is_user_name (codes "\"S3CR3T\"") ≡ false
a_quoted_text = refl

no_word : is_user_name (codes "") ≡ false
no_word = refl

-- 32 bytes, and one more
the_longest : is_user_name (codes "abcdefghijklmnopqrstuvwxyz012345") ≡ true
the_longest = refl

one_more : is_user_name (codes "abcdefghijklmnopqrstuvwxyz0123456") ≡ false
one_more = refl
