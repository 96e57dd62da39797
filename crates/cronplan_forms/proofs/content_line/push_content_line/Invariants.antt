use Rattle.std.proofs.Common.{◌≡◌, ◌≤◌, ℕ, List, ◌++◌, encode_utf8_all, string_bytes}
use Rattle.std.specs.Str.{chars}
use Rattle.std.specs.Str.Iter.{chars_rest}
use Rattle.cronplan_forms.specs.ContentLines.{folded}
use Rattle.cronplan_forms.proofs.content_line.push_content_line.Given as goal

abbrev pub invariant-loop-c : goal.invariant-loop-c
invariant-loop-c l =
    (cs : List ℕ) × (encode_utf8_all cs ≡ chars_rest l.c-iterator)
    × (string_bytes l.text ++ folded l.used cs ≡ string_bytes l.initial.text ++ folded 0 (chars l.line)) × (l.used ≤ 75)
