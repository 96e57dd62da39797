use Rattle.std.proofs.Common.{◌≡◌, ℕ, List, ◌++◌, take, encode_utf8_all, string_bytes}
use Rattle.std.specs.List.{flat_map}
use Rattle.std.specs.Str.{chars}
use Rattle.std.specs.Str.Iter.{chars_rest}
use Rattle.cronplan_forms.specs.Months.{character_text}
use Rattle.cronplan_forms.proofs.month.push_first.Given as goal

abbrev pub invariant-loop-c : goal.invariant-loop-c
invariant-loop-c l =
    (cs : List ℕ) × (encode_utf8_all cs ≡ chars_rest l.c-iterator)
    × (string_bytes l.text ++ flat_map character_text (take l.left cs) ≡ string_bytes l.initial.text ++ flat_map character_text (take l.initial.left (chars l.title)))
