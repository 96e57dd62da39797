-- Worked rows of escapes and folds, computed from the definitions.
use Rattle.std.proofs.Common.{◌≡◌, refl}
use Rattle.std.specs.Prelude.{codes}
use Rattle.std.specs.Char.{encode_utf8}
use Rattle.std.specs.Fmt.{digits}
use Rattle.std.specs.Str.{chars}
use Rattle.cronplan_forms.specs.declared.escapes.Form.TheVariants as forms
use Rattle.cronplan_forms.specs.Escapes.{escaped_text}

-- a title that would begin a property of its own
a_forged_property : escaped_text forms.Text (codes "a;b,c\\d\nATTACH:x") ≡ codes "a\\;b\\,c\\\\d\\nATTACH:x"
unfolding escaped_text chars encode_utf8
a_forged_property = refl

a_return_of_a_text : escaped_text forms.Text (codes "a\rb") ≡ codes "a\\\\u{d}b"
unfolding escaped_text chars digits encode_utf8
a_return_of_a_text = refl

-- a title that would end its element or its attribute
a_forged_element : escaped_text forms.Html (codes "</title><script>'\"&") ≡ codes "&lt;/title&gt;&lt;script&gt;&#39;&quot;&amp;"
unfolding escaped_text chars encode_utf8
a_forged_element = refl
