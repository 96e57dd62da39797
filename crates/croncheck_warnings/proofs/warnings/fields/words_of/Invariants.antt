use Rattle.std.proofs.Common.{List, ℕ, map, ◌++◌}
use Rattle.std.specs.Str.Iter.{split_whitespace_rest}
use Rattle.croner.specs.parser.Words.{AreWords}
use Rattle.croncheck_warnings.proofs.warnings.fields.words_of.Given as goal

abbrev pub invariant-loop-word : goal.invariant-loop-word
invariant-loop-word l = (ws : List (List ℕ)) → AreWords (split_whitespace_rest l.word-iterator) ws → AreWords l.fn.text (map (λ w. w.now) l.words.items ++ ws)
