-- The words that marks are kept in.
-- Private contracts alone cite these definitions.
use Rattle.std.specs.Prelude.{ℕ}

-- how many values a word has, one bit each
abbrev pub word_bits : ℕ
word_bits = 64
