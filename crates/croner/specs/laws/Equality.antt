-- What equal jobs have in common.
use Rattle.std.specs.Prelude.{◌≡◌, ℕ, List, fold}
use Rattle.std.specs.Hash.DefaultHasher as sip
use Rattle.croner_pattern.specs.Meaning.{Meaning}

-- they differ in their texts at most
abbrev pub AreSameButTexts : Meaning → Meaning → Type 0
AreSameButTexts m n = n ≡ record m { text = n.text }

-- what std's default hasher makes of these writes
abbrev pub hash_of_writes : List (List ℕ) → ℕ
hash_of_writes writes = sip.finish (fold sip.write sip.initial writes)
