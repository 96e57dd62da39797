-- What a pattern's hash is made of. Patterns that compare as equal write the same; the proof stands here since the laws of
-- an impl may cite this crate's specs alone.
use Rattle.std.specs.Prelude.{◌≡◌, ℕ, true, List, ◌++◌}
use Rattle.std.specs.Ordering.{eq_by_cmp}
use Rattle.std.specs.Hash as fed
use Rattle.std.proofs.Common.{ap}
use Rattle.croner_base.specs.Written.{field_writes, writes_alike, tie, bool_tie}
use Rattle.croner_pattern.specs.declared.pattern.CronPattern.{CronPattern}
use Rattle.croner_pattern.specs.Meaning.{Meaning, meaning_of}
use Rattle.croner_pattern.specs.Order.{meaning_cmp, pattern_cmp}

-- the seven fields and the three flags
abbrev pub meaning_writes : Meaning → List (List ℕ)
meaning_writes m =
    field_writes m.seconds ++ field_writes m.minutes ++ field_writes m.hours ++ field_writes m.days ++ field_writes m.months ++ field_writes m.days_of_week ++ field_writes m.years ++ fed.bool m.star_day ++ fed.bool m.star_weekday ++ fed.bool m.and

-- what a pattern's hash is made of: its meaning without the text
abbrev pub pattern_writes : CronPattern → List (List ℕ)
pattern_writes p = meaning_writes (meaning_of p)

-- ten equal parts make equal wholes
joined : (a b c d e f g h i j a₂ b₂ c₂ d₂ e₂ f₂ g₂ h₂ i₂ j₂ : List (List ℕ)) → a ≡ a₂ → b ≡ b₂ → c ≡ c₂ → d ≡ d₂ → e ≡ e₂ → f ≡ f₂ → g ≡ g₂ → h ≡ h₂ → i ≡ i₂ → j ≡ j₂ → a ++ b ++ c ++ d ++ e ++ f ++ g ++ h ++ i ++ j ≡ a₂ ++ b₂ ++ c₂ ++ d₂ ++ e₂ ++ f₂ ++ g₂ ++ h₂ ++ i₂ ++ j₂
joined a b c d e f g h i j a₂ b₂ c₂ d₂ e₂ f₂ g₂ h₂ i₂ j₂ p q r s t u v w x y = cc

pub meanings_alike : (x y : Meaning) → eq_by_cmp meaning_cmp x y ≡ true → meaning_writes x ≡ meaning_writes y
meanings_alike x y h =
    let t9 = tie _ _ h in
    let t8 = tie _ _ t9.0 in
    let t7 = tie _ _ t8.0 in
    let t6 = tie _ _ t7.0 in
    let t5 = tie _ _ t6.0 in
    let t4 = tie _ _ t5.0 in
    let t3 = tie _ _ t4.0 in
    let t2 = tie _ _ t3.0 in
    let t1 = tie _ _ t2.0 in
    let seconds = writes_alike x.seconds y.seconds t1.0 in
    let minutes = writes_alike x.minutes y.minutes t1.1 in
    let hours = writes_alike x.hours y.hours t2.1 in
    let days = writes_alike x.days y.days t3.1 in
    let months = writes_alike x.months y.months t4.1 in
    let weekdays = writes_alike x.days_of_week y.days_of_week t5.1 in
    let years = writes_alike x.years y.years t6.1 in
    let star_day = bool_tie x.star_day y.star_day t7.1 in
    let star_weekday = bool_tie x.star_weekday y.star_weekday t8.1 in
    let both = bool_tie x.and y.and t9.1 in
    joined (field_writes x.seconds) (field_writes x.minutes) (field_writes x.hours) (field_writes x.days) (field_writes x.months) (field_writes x.days_of_week) (field_writes x.years) (fed.bool x.star_day) (fed.bool x.star_weekday) (fed.bool x.and)
    (field_writes y.seconds) (field_writes y.minutes) (field_writes y.hours) (field_writes y.days) (field_writes y.months) (field_writes y.days_of_week) (field_writes y.years) (fed.bool y.star_day) (fed.bool y.star_weekday) (fed.bool y.and)
    seconds minutes hours days months weekdays years (ap fed.bool star_day) (ap fed.bool star_weekday) (ap fed.bool both)

pub patterns_alike : (x y : CronPattern) → eq_by_cmp pattern_cmp x y ≡ true → pattern_writes x ≡ pattern_writes y
patterns_alike x y h = meanings_alike (meaning_of x) (meaning_of y) h
