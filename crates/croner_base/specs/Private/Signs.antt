-- The signs of a part, which one pass finds, and what they say of its form. Private contracts alone cite these definitions.
use Rattle.std.specs.Prelude.{◌≡◌, ℕ, ◌==◌, true, false, List, nat_lt, if◌then◌else◌}
use Rattle.std.specs.List.{position_or_len}
use Rattle.croner_base.specs.declared.component.text.Form.{Form}
use Rattle.croner_base.specs.declared.component.text.Form.TheVariants.{Step, Range, Nearest, Last, Number}
use Rattle.croner_base.specs.declared.component.text.Sign.{Sign}
use Rattle.croner_base.specs.declared.component.text.Sign.TheVariants.{Hash, Dash, Slash, LetterL, LetterW}
use Rattle.croner_base.specs.declared.component.text.Signs.{Signs}
use Rattle.croner_base.specs.Part.{hash, dash, slash, letter_l, letter_w, contains_byte, is_letter_l}

abbrev pub byte_of : Sign → ℕ
byte_of Hash = hash
byte_of Dash = dash
byte_of Slash = slash
byte_of LetterL = letter_l
byte_of LetterW = letter_w

-- the place that is kept for a sign
abbrev pub place_of : Signs → Sign → ℕ
place_of s Hash = s.hash
place_of s Dash = s.dash
place_of s Slash = s.slash
place_of s LetterL = s.letter_l
place_of s LetterW = s.letter_w

-- one place for all
abbrev pub all_at : ℕ → Signs
all_at at = record { hash = at; dash = at; slash = at; letter_l = at; letter_w = at }

-- the places once a byte is met at a place in front of them
abbrev pub with_byte : Signs → ℕ → ℕ → Signs
with_byte s byte at = record {
  hash = if byte == hash then at else s.hash;
  dash = if byte == dash then at else s.dash;
  slash = if byte == slash then at else s.slash;
  letter_l = if byte == letter_l then at else s.letter_l;
  letter_w = if byte == letter_w then at else s.letter_w;
}

-- the places in the front of a text
abbrev pub places_up_to : Signs → ℕ → Signs
places_up_to s end = record {
  hash = if nat_lt s.hash end then s.hash else end;
  dash = if nat_lt s.dash end then s.dash else end;
  slash = if nat_lt s.slash end then s.slash else end;
  letter_l = if nat_lt s.letter_l end then s.letter_l else end;
  letter_w = if nat_lt s.letter_w end then s.letter_w else end;
}

-- each place is the first one of its sign, or the length of the text where the sign stands nowhere
abbrev pub AreSigns : List ℕ → Signs → Type 0
AreSigns text s = (sign : Sign) → place_of s sign ≡ position_or_len (λ b. b == byte_of sign) text

-- what the tests for the signs say of a part of this form, one after the other
abbrev pub IsForm : List ℕ → Form → Type 0
IsForm part Step = contains_byte slash part ≡ true
IsForm part Range = (contains_byte slash part ≡ false) × (contains_byte dash part ≡ true)
IsForm part Nearest = (contains_byte slash part ≡ false) × (contains_byte dash part ≡ false) × (contains_byte letter_w part ≡ true)
IsForm part Last = (contains_byte slash part ≡ false) × (contains_byte dash part ≡ false) × (contains_byte letter_w part ≡ false) × (is_letter_l part ≡ true)
IsForm part Number = (contains_byte slash part ≡ false) × (contains_byte dash part ≡ false) × (contains_byte letter_w part ≡ false) × (is_letter_l part ≡ false)
