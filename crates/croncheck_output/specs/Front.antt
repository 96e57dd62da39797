-- The front of a text, where not all of it is shown. Source: this crate's documentation of `push_front`.
use Rattle.std.specs.Prelude.{ℕ, ◌-◌, Bool, false, not, ◌&&◌, ◌==◌, nat_le, nat_lt, slice_get, List, [], ◌++◌, length, take, drop, codes, Option, Some, None, if◌then◌else◌}
use Rattle.croncheck_output.specs.Escaped.{spaced}

-- the byte at a place continues a character of UTF-8
abbrev pub is_continuing : Option ℕ → Bool
is_continuing None = false
is_continuing (Some b) = nat_le 128 b && nat_lt b 192

abbrev pub continues : List ℕ → ℕ → Bool
continues bytes at = is_continuing (slice_get bytes at)

-- the last place up to this one where no character of UTF-8, which has four bytes at most, is cut; this one where there is none
abbrev pub start_at : ℕ → List ℕ → ℕ
start_at most bytes =
    if not (continues bytes most) then most
    else if not (continues bytes (most - 1)) then most - 1
    else if not (continues bytes (most - 2)) then most - 2
    else if not (continues bytes (most - 3)) then most - 3
    else most

-- where a text is cut of which so many bytes are shown at most
abbrev pub cut_at : ℕ → List ℕ → ℕ
cut_at most bytes = if nat_le (length bytes) most then length bytes else start_at most bytes

-- what stands where something is left out
abbrev pub left_out_text : Bool → List ℕ
left_out_text is_left_out = if is_left_out then codes ".." else []

-- the front of a text as it is shown, so many bytes at most, and a mark where there are more
abbrev pub front_text : ℕ → List ℕ → List ℕ
front_text most bytes = spaced (take (cut_at most bytes) bytes) ++ left_out_text (not (length (drop (cut_at most bytes) bytes) == 0))
