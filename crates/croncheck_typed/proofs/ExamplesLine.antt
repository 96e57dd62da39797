-- Worked rows of words of a call, computed from the definitions.
use Rattle.std.proofs.Common.{◌≡◌, true, false, codes, refl}
use Rattle.croncheck_typed.specs.Line.{may_be_line, is_field, may_be_zone}

five_fields : may_be_line (codes "*/5 * * * *") ≡ true
five_fields = refl

a_nickname : may_be_line (codes "@daily") ≡ true
a_nickname = refl

a_path_with_a_blank : may_be_line (codes "/srv/my jobs") ≡ false
a_path_with_a_blank = refl

a_path_from_here_with_a_blank : may_be_line (codes "./my jobs") ≡ false
a_path_from_here_with_a_blank = refl

a_name : may_be_line (codes "crontab") ≡ false
a_name = refl

a_step : is_field (codes "*/5") ≡ true
a_step = refl

a_file_with_a_dot : is_field (codes "notes.txt") ≡ false
a_file_with_a_dot = refl

no_field : is_field (codes "") ≡ false
no_field = refl

a_zone : may_be_zone (codes "Europe/Paris") ≡ true
a_zone = refl

a_folder : may_be_zone (codes "etc/crontab") ≡ false
a_folder = refl

a_place_alone : may_be_zone (codes "Paris") ≡ false
a_place_alone = refl
