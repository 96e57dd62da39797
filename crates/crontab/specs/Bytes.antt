-- The bytes of a line of a crontab, and the cuts that cron(8) makes in it. Source: crontab(5) of Debian's cron 3.0pl1, and what that
-- program does.
use Rattle.std.specs.Prelude.{ℕ, Bool, false, not, ◌&&◌, ◌||◌, ◌==◌, nat_le, ◌-◌, List, [], ◌∷◌, length, take, drop}
use Rattle.std.specs.List.{prefix_len, suffix_len}
use Rattle.crontab.specs.declared.bytes.Kind.{Kind}
use Rattle.crontab.specs.declared.bytes.Kind.TheVariants as kinds

-- between fields: a space or a tab, and nothing else
abbrev pub is_blank : ℕ → Bool
is_blank b = b == 32 || b == 9

-- what C calls a space: a blank, a line feed, a vertical tab, a form feed or a carriage return
abbrev pub is_space : ℕ → Bool
is_space b = b == 32 || (nat_le 9 b && nat_le b 13)

-- a quote, double or single
abbrev pub is_quote : ℕ → Bool
is_quote b = b == 34 || b == 39

-- 0 to 9
abbrev pub is_digit : ℕ → Bool
is_digit b = nat_le 48 b && nat_le b 57

-- a letter or a digit of ASCII
abbrev pub is_alphanumeric : ℕ → Bool
is_alphanumeric b = is_digit b || ((nat_le 65 b && nat_le b 90) || (nat_le 97 b && nat_le b 122))

-- the byte is of this kind
abbrev pub is_of : Kind → ℕ → Bool
is_of kinds.Blank b = is_blank b
is_of kinds.Word b = not (is_blank b)
is_of kinds.Space b = is_space b
is_of kinds.Alphanumeric b = is_alphanumeric b
is_of kinds.Name b = not (is_space b || b == 61)
is_of (kinds.But c) b = not (b == c)

-- the bytes of a kind that a text begins with, and what follows them
abbrev pub front : Kind → List ℕ → List ℕ
front kind text = take (prefix_len (is_of kind) text) text

-- what follows the bytes of a kind with which a text begins
abbrev pub text_after : Kind → List ℕ → List ℕ
text_after kind text = drop (prefix_len (is_of kind) text) text

-- the text begins with this byte
abbrev pub begins_with : ℕ → List ℕ → Bool
begins_with c [] = false
begins_with c (b ∷ bs) = b == c

-- the text without its first byte
abbrev pub rest_of : List ℕ → List ℕ
rest_of [] = []
rest_of (b ∷ bs) = bs

-- the text up to its end, which is given
abbrev pub text_before : List ℕ → List ℕ → List ℕ
text_before text after = take (length text - length after) text

-- the text without the spaces after it
abbrev pub trim_end : List ℕ → List ℕ
trim_end text = take (length text - suffix_len is_space text) text
