-- Worked rows of pictures of text, computed from the definitions.
use Rattle.std.proofs.Common.{◌≡◌, pos, true, false, [], ◌∷◌, refl}
use Rattle.std.specs.Prelude.{codes}
use Rattle.cronplan_forms.specs.declared.week.Signs.TheVariants as signs
use Rattle.cronplan_forms.specs.Clocks.{second_of_day}
use Rattle.cronplan_forms.specs.Weeks.{block_of, digit_of, outside_line, sign_of, skipped_line}

-- a step more at 1, 2, 4 and so on: 3 starts are of the second step, 4 of the third, 127 of the seventh, 128 and more of the eighth
steps : (digit_of 0 ≡ codes ".") × (digit_of 1 ≡ codes "1") × (digit_of 3 ≡ codes "2") × (digit_of 4 ≡ codes "3") × (digit_of 127 ≡ codes "7") × (digit_of 128 ≡ codes "8") × (digit_of 5_000 ≡ codes "8")
steps = (refl, refl, refl, refl, refl, refl, refl)

-- the dot, the lowest block and the highest as UTF-8
blocks : (block_of 0 ≡ 194 ∷ 183 ∷ []) × (block_of 1 ≡ 226 ∷ 150 ∷ 129 ∷ []) × (block_of 128 ≡ 226 ∷ 150 ∷ 136 ∷ [])
blocks = (refl, refl, refl)

-- an hour that the clock skips, one that isn't in the plan, and one that is
skipped : (sign_of signs.Blocks (record { starts = 0; skipped = true; repeated = false; outside = false }) ≡ codes "x")
    × (sign_of signs.Blocks (record { starts = 0; skipped = false; repeated = false; outside = true }) ≡ codes "-")
    × (sign_of signs.Digits (record { starts = 0; skipped = false; repeated = false; outside = false }) ≡ codes ".")
    × (sign_of signs.Digits (record { starts = 2; skipped = false; repeated = false; outside = false }) ≡ codes "2")
skipped = (refl, refl, refl, refl)

-- these signs are told where they stand alone
told : (skipped_line true ≡ codes "x: the clock skips the hour\n") × (skipped_line false ≡ []) × (outside_line true ≡ codes "-: not in the plan\n") × (outside_line false ≡ [])
told = (refl, refl, refl, refl)

-- 03:00:00 of 2027-03-28, as the clock of Paris shows it when it is put forward
times : second_of_day (pos 1_806_202_800) ≡ 10_800
times = refl
