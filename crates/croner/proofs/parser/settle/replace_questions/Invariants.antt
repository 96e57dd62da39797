use Rattle.std.proofs.Common.{◌≡◌, ◌++◌, length, drop, string_bytes}
use Rattle.std.specs.Str.{chars, encode_utf8_all}
use Rattle.croner.specs.parser.Grammar.{starred}
use Rattle.croner.proofs.parser.settle.replace_questions.Given as goal

abbrev pub invariant-loop-c : goal.invariant-loop-c
invariant-loop-c l =
    string_bytes l.written ++ starred (encode_utf8_all (drop (length l.yielded) (chars l.text))) ≡ starred l.text
