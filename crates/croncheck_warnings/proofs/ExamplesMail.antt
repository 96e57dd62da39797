-- Worked rows of the addresses to which cron sends no mail, computed from their definition.
use Rattle.std.proofs.Common.{◌≡◌, true, false, refl, ◌∷◌, []}
use Rattle.std.specs.Prelude.{codes, ◌++◌}
use Rattle.croncheck_warnings.specs.Mail.{names_no_address}

a_user : names_no_address (codes "MAILTO=root") ≡ false
a_user = refl

an_address : names_no_address (codes "MAILTO = ops+cron@example.org") ≡ false
an_address = refl

two_addresses : names_no_address (codes "MAILTO=root,ops@example.org") ≡ false
two_addresses = refl

two_with_a_blank : names_no_address (codes "MAILTO=root, ops@example.org") ≡ true
two_with_a_blank = refl

a_name_before_the_address : names_no_address (codes "MAILTO='Ops <ops@example.org>'") ≡ true
a_name_before_the_address = refl

an_address_in_brackets : names_no_address (codes "MAILTO=<ops@example.org>") ≡ true
an_address_in_brackets = refl

a_sign_in_front : names_no_address (codes "MAILTO=-root") ≡ true
a_sign_in_front = refl

a_byte_that_is_no_letter_of_ascii : names_no_address (codes "MAILTO=r" ++ (195 ∷ 182 ∷ codes "t")) ≡ true
a_byte_that_is_no_letter_of_ascii = refl

-- no mail is asked for
nobody : names_no_address (codes "MAILTO=''") ≡ false
nobody = refl

blanks_at_the_end : names_no_address (codes "MAILTO='root '") ≡ false
blanks_at_the_end = refl

a_user_in_two_quotes : names_no_address (codes "MAILTO=\"'root'\"") ≡ false
a_user_in_two_quotes = refl

two_quotes_and_a_blank : names_no_address (codes "MAILTO=\"'root' \"") ≡ false
two_quotes_and_a_blank = refl

a_name_before_the_address_in_two_quotes : names_no_address (codes "MAILTO=\"'Ops <ops@example.org>'\"") ≡ true
a_name_before_the_address_in_two_quotes = refl

-- a blank within the second pair stands at the end of the address
a_blank_within_two_quotes : names_no_address (codes "MAILTO=\"'root '\"") ≡ true
a_blank_within_two_quotes = refl

a_quote_that_no_other_ends : names_no_address (codes "MAILTO=\"'root\"") ≡ true
a_quote_that_no_other_ends = refl

a_single_quote : names_no_address (codes "MAILTO=\"'\"") ≡ true
a_single_quote = refl

three_quotes : names_no_address (codes "MAILTO=\"''root''\"") ≡ true
three_quotes = refl

nobody_in_two_quotes : names_no_address (codes "MAILTO=\"''\"") ≡ false
nobody_in_two_quotes = refl

a_name_in_quotes : names_no_address (codes "\"MAILTO\"=Ops <ops@example.org>") ≡ true
a_name_in_quotes = refl

a_name_in_quotes_and_a_user : names_no_address (codes "'MAILTO' = root") ≡ false
a_name_in_quotes_and_a_user = refl

another_setting : names_no_address (codes "MAILFROM=Cron Daemon") ≡ false
another_setting = refl
