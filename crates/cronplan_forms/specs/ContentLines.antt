-- Content lines of a calendar, and how they are folded. Source: RFC 5545, section 3.1.
use Rattle.std.specs.Prelude.{ℕ, zero, suc, ◌+◌, ◌&&◌, ◌==◌, nat_lt, Bool, true, not, List, [], ◌∷◌, ◌++◌, slice_index, encode_utf8, if◌then◌else◌}
use Rattle.std.specs.Char.{len_utf8}
use Rattle.std.specs.Str.{chars}

-- the most bytes of a line of the file, without its carriage return and line feed
abbrev pub most_bytes : ℕ
most_bytes = 75

-- a carriage return and a line feed: the end of a line
abbrev pub line_end : List ℕ
line_end = 13 ∷ 10 ∷ []

-- a fold: the end of a line, and the space that begins the next
abbrev pub fold_text : List ℕ
fold_text = 13 ∷ 10 ∷ 32 ∷ []

-- a character doesn't fit after so many bytes of its line
abbrev pub is_full : ℕ → ℕ → Bool
is_full used c = nat_lt most_bytes (used + len_utf8 c)

-- a character after so many bytes of its line: in the next one where it doesn't fit
abbrev pub placed : ℕ → ℕ → List ℕ
placed used c = if is_full used c then fold_text ++ encode_utf8 c else encode_utf8 c

-- how many bytes its line has with it
abbrev pub used_with : ℕ → ℕ → ℕ
used_with used c = if is_full used c then 1 + len_utf8 c else used + len_utf8 c

-- characters that begin after so many bytes of a line
abbrev pub folded : ℕ → List ℕ → List ℕ
folded used [] = []
folded used (c ∷ cs) = placed used c ++ folded (used_with used c) cs

-- a content line as it stands in the file
unfoldable pub content_line : List ℕ → List ℕ
content_line line = folded 0 (chars line) ++ line_end

-- bytes begin with a fold
abbrev pub is_fold : List ℕ → Bool
is_fold bs = slice_index bs 0 == 13 && (slice_index bs 1 == 10 && slice_index bs 2 == 32)

-- bytes without their folds, where so many of them belong to a fold that began before
abbrev pub unfolded_after : ℕ → List ℕ → List ℕ
unfolded_after n [] = []
unfolded_after (suc n) (b ∷ bs) = unfolded_after n bs
unfolded_after zero (b ∷ bs) = if is_fold (b ∷ bs) then unfolded_after 2 bs else b ∷ unfolded_after zero bs

-- bytes without their folds
abbrev pub unfolded : List ℕ → List ℕ
unfolded bs = unfolded_after 0 bs

-- each line has at most 77 bytes with its line feed, where the first has so many before
abbrev pub are_short : ℕ → List ℕ → Bool
are_short used [] = true
are_short used (b ∷ bs) = nat_lt used (most_bytes + 2) && (if b == 10 then are_short 0 bs else are_short (suc used) bs)

-- the byte is no carriage return
abbrev pub is_no_return : ℕ → Bool
is_no_return b = not (b == 13)
