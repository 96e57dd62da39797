use Rattle.std.proofs.Common.{◌≡◌, ℕ, List, ◌++◌, encode_utf8_all, string_bytes}
use Rattle.std.specs.List.{flat_map}
use Rattle.std.specs.Str.Iter.{chars_rest}
use Rattle.cronplan_forms.specs.Escapes.{escaped_character, escaped_text}
use Rattle.cronplan_forms.proofs.escapes.push_escaped.Given as goal

abbrev pub invariant-loop-c : goal.invariant-loop-c
invariant-loop-c l =
    (cs : List ℕ) × (encode_utf8_all cs ≡ chars_rest l.c-iterator)
    × (string_bytes l.out ++ flat_map (escaped_character l.form) cs ≡ string_bytes l.initial.out ++ escaped_text l.form l.text)
