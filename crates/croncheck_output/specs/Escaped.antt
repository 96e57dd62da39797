-- Bytes of a file, as they are shown. Source: this crate's documentation of `push_shown` and `push_replaced`.
use Rattle.std.specs.Prelude.{ℕ, zero, suc, Bool, not, ◌&&◌, ◌==◌, nat_le, List, [], ◌∷◌, ◌++◌, length, take, drop, Option, Some, None, if◌then◌else◌}
use Rattle.std.specs.Str.{encode_utf8_all}
use Rattle.bstr.specs.Escape.{escaped}
use Rattle.bstr.specs.Utf8.{decoded}
use Rattle.croner_base.specs.Excerpt.{shown}

-- what is shown of the front of some bytes: the character that it is, or where there is none its first byte as `\xFF`
abbrev pub front_shown : Option ℕ → List ℕ → List ℕ
front_shown None bytes = encode_utf8_all (escaped (take 1 bytes))
front_shown (Some c) bytes = shown c

-- how many bytes that front has, where so many were read
abbrev pub front_size : Option ℕ → ℕ → ℕ
front_size None n = 1
front_size (Some c) n = n

-- the bytes as they are shown: fuel is at least their number
unfoldable pub shown_from : ℕ → List ℕ → List ℕ
shown_from zero bytes = []
shown_from (suc n) [] = []
shown_from (suc n) (b ∷ bs) = front_shown (decoded (b ∷ bs)).char (b ∷ bs) ++ shown_from n (drop (front_size (decoded (b ∷ bs)).char (decoded (b ∷ bs)).size) (b ∷ bs))

-- the bytes as they are shown
abbrev pub bytes_shown : List ℕ → List ℕ
bytes_shown bytes = shown_from (length bytes) bytes

-- no terminal acts on this byte
abbrev pub is_harmless : ℕ → Bool
is_harmless b = nat_le 32 b && not (b == 127)

-- ASCII that is printed
abbrev pub is_printed : ℕ → Bool
is_printed b = nat_le 32 b && nat_le b 126

-- bytes of a line as they are shown, with a text in place of each byte of one value: some that stand before one or the end, and those that follow
abbrev pub replaced_after : ℕ → List ℕ → List ℕ → List ℕ → List ℕ
replaced_after sign text before [] = bytes_shown before
replaced_after sign text before (b ∷ bs) =
    if b == sign then bytes_shown before ++ (text ++ replaced_after sign text [] bs) else replaced_after sign text (before ++ b ∷ []) bs

abbrev pub replaced : ℕ → List ℕ → List ℕ → List ℕ
replaced sign text bytes = replaced_after sign text [] bytes

-- a tab as a space
abbrev pub spaced : List ℕ → List ℕ
spaced bytes = replaced 9 (32 ∷ []) bytes

-- a backslash as two, so that none of the bytes is taken for a sign of how others are shown
abbrev pub exact_text : List ℕ → List ℕ
exact_text bytes = replaced 92 (92 ∷ 92 ∷ []) bytes
