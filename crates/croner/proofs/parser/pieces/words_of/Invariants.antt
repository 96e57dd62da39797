use Rattle.std.proofs.Common.{map}
use Rattle.std.specs.Str.Iter.{split_whitespace_rest}
use Rattle.croner.specs.Private.parser.Places.{ArePlaced, IsWalked}
use Rattle.croner.proofs.parser.pieces.words_of.Given as goal

abbrev pub invariant-loop-word : goal.invariant-loop-word
invariant-loop-word l =
    IsWalked l.fn.text (map (λ w. w.text.now) l.words.items) l.from (split_whitespace_rest l.word-iterator) × ArePlaced l.fn.text 0 l.words.items
