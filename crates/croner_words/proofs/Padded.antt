-- The text of a time of day, as a format joins it.
use Rattle.std.proofs.Common.{◌≡◌, ℕ, ◌∷◌, ◌++◌, append_assoc, Option, Some, None}
use Rattle.croner_base.specs.CivilText.{two_places}
use Rattle.croner_words.specs.Numbers.{clock_text}

pub time_with_seconds : (hour minute second : ℕ) (o : Option ℕ) → o ≡ Some second
    → two_places hour ++ (58 ∷ (two_places minute ++ (58 ∷ two_places second))) ≡ clock_text hour minute o
time_with_seconds hour minute second o e = rw e (simp append_assoc)

pub time_without_seconds : (hour minute : ℕ) (o : Option ℕ) → o ≡ None
    → two_places hour ++ (58 ∷ two_places minute) ≡ clock_text hour minute o
time_without_seconds hour minute o e = rw e (simp append_assoc)
