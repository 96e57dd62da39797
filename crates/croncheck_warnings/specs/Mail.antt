-- To whom cron sends no mail: a value of `MAILTO` that isn't an address as cron takes one. Source: `load_env` and `safe_p` of Debian's cron
-- 3.0pl1-162.
use Rattle.std.specs.Prelude.{ℕ, ◌-◌, Bool, true, false, not, ◌&&◌, ◌||◌, ◌==◌, nat_lt, List, [], ◌∷◌, length, take, codes, if◌then◌else◌}
use Rattle.std.specs.Io.BufRead.{ends_with_byte}
use Rattle.std.specs.List.{list_any, list_all}
use Rattle.std.specs.Str.{bytes_eq}
use Rattle.crontab.specs.declared.bytes.Kind.TheVariants as kinds
use Rattle.crontab.specs.Bytes.{is_quote, is_alphanumeric, front, trim_end}
use Rattle.crontab.specs.Setting.{setting_length, setting_name, setting_value}

-- a sign that an address may have after its first byte: one of `@!:%-.,_+=/`
abbrev pub is_address_sign : ℕ → Bool
is_address_sign b = list_any (λ sign. sign == b) (codes "@!:%-.,_+=/")

-- a byte that an address may have after its first one
abbrev pub is_address_byte : ℕ → Bool
is_address_byte b = is_alphanumeric b || is_address_sign b

-- an address begins with a letter or a digit, and has no other bytes than these
abbrev pub is_address : List ℕ → Bool
is_address [] = false
is_address (b ∷ bs) = is_alphanumeric b && list_all is_address_byte bs

-- a value without its quotes
abbrev pub without_quotes : List ℕ → List ℕ
without_quotes [] = []
without_quotes (c ∷ cs) = if is_quote c then front (kinds.But c) cs else c ∷ cs

-- a text without a quote in front and the same quote at its end, where it has both
abbrev pub without_pair : List ℕ → List ℕ
without_pair [] = []
without_pair (c ∷ cs) = if is_quote c && ends_with_byte c cs then take (length cs - 1) cs else c ∷ cs

-- A value as the commands see it: without its quotes, without white space at its end, and without a second pair of quotes. Cron's
-- `load_env` takes that away by copying bytes over themselves. C leaves undefined which bytes are left then; they are bytes of the text between.
abbrev pub value_seen : List ℕ → List ℕ
value_seen value = without_pair (trim_end (without_quotes value))

-- cron sends no mail where this is the value: it is neither empty, which asks for none, nor an address
abbrev pub is_no_address : List ℕ → Bool
is_no_address value = not (length (value_seen value) == 0) && not (is_address (value_seen value))

-- `no-mail`: the setting, from its first byte that is no blank on, is of MAILTO, and its value is no address
abbrev pub names_no_address : List ℕ → Bool
names_no_address text = bytes_eq (setting_name (take setting_length text)) (codes "MAILTO") && is_no_address (setting_value text)
