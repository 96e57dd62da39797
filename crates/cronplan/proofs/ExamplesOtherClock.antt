-- Worked rows of a plan on another clock, computed from the definitions: New York in 2027, where the clock goes from 02:00 to 03:00 on March 14.
use Rattle.std.proofs.Common.{◌≡◌, ◌∙◌, pos, List, [], ◌∷◌, length, map, refl, sym, subst, arith}
use Rattle.std.specs.Prelude.{neg_ℤ}
use Rattle.std.specs.List.{All}
use Rattle.std.proofs.lemmas.Int.{ints}
use Rattle.std.proofs.lemmas.List.{length-map}
use Rattle.std.proofs.lemmas.List.Elements.{All-from_recursion}
use Rattle.std.proofs.lemmas.List.Sorted.{All-permutation, length_permutation}
use Rattle.croner_base.specs.TableZone.{clock}
use Rattle.croner_base.specs.Zone.{Zone}
use Rattle.cronplan.specs.declared.plan.Plan.{Plan}
use Rattle.cronplan.specs.declared.start.JobStart.{JobStart}
use Rattle.cronplan.specs.declared.counts.Unit.TheVariants as units
use Rattle.cronplan.specs.Counts.{starts_at}
use Rattle.cronplan.specs.OtherClock.{IsOnClock, shown_on, all_shown_on}

abbrev new_york : Zone
new_york = clock (neg_ℤ (pos 18_000)) ((pos 1_805_007_600, neg_ℤ (pos 14_400)) ∷ [])

-- two starts of job 3 at 2027-03-28T01:30:00Z, which Paris shows as 03:30
abbrev in_paris : JobStart
in_paris = record { second = pos 1_806_197_400; job = 3; count = 2; wall = pos 1_806_204_600 }

-- in New York it is 21:30 of the day before
abbrev in_new_york : JobStart
in_new_york = record { second = pos 1_806_197_400; job = 3; count = 2; wall = pos 1_806_183_000 }

the_day_before : shown_on new_york in_paris ≡ in_new_york
unfolding clock
the_day_before = refl

-- 07:59:59 and 08:00:00 of March 14 in Paris: New York's clock shows 01:59:59, and then 03:00:00
at_its_change : (shown_on new_york (record { second = pos 1_805_007_599; job = 0; count = 1; wall = pos 1_805_011_199 }) ≡ record { second = pos 1_805_007_599; job = 0; count = 1; wall = pos 1_804_989_599 })
    × (shown_on new_york (record { second = pos 1_805_007_600; job = 0; count = 1; wall = pos 1_805_011_200 }) ≡ record { second = pos 1_805_007_600; job = 0; count = 1; wall = pos 1_804_993_200 })
unfolding clock
at_its_change = (refl, refl)

-- none is left out or added, on any clock
as_many : (z : Zone) (old new : Plan) → IsOnClock z old new → length new.starts.items ≡ length old.starts.items
as_many z old new on = length_permutation (map (shown_on z) old.starts.items) new.starts.items on.starts ∙ length-map old.starts.items (shown_on z)

-- a plan that has that start as Paris shows it isn't on New York's clock
not_as_before : (old new : Plan) → old.starts.items ≡ in_paris ∷ [] → new.starts.items ≡ in_paris ∷ [] → ¬ (IsOnClock new_york old new)
unfolding clock
not_as_before old new had has on =
    let shows : JobStart → Type 0 = λ s. s.wall ≡ pos 1_806_183_000 in
    let first : All shows (map (shown_on new_york) (in_paris ∷ [])) = All-from_recursion shows (in_new_york ∷ []) (refl, tt) in
    let there : All shows (in_paris ∷ []) =
    subst (All shows) has (All-permutation shows (map (shown_on new_york) old.starts.items) new.starts.items on.starts
    (subst (λ (ss : List JobStart). All shows (map (shown_on new_york) ss)) (sym had) first)) in
    let wall : pos 1_806_204_600 ≡ pos 1_806_183_000 = there 0 in_paris (omega arith) in
    absurd (omega (arith, ints, wall))

-- a plan of Paris has that start on the day before, where its dates are asked for on New York's clock; and on its own clock where it is
abbrev paris : Zone
paris = clock (pos 3_600) ((pos 1_806_195_600, pos 7_200) ∷ [])

by_the_clock_that_is_asked_for : (starts_at units.Hour (pos 501_717) (all_shown_on new_york (in_paris ∷ [])) ≡ 2) × (starts_at units.Hour (pos 501_723) (all_shown_on new_york (in_paris ∷ [])) ≡ 0)
    × (starts_at units.Hour (pos 501_723) (all_shown_on paris (in_paris ∷ [])) ≡ 2)
unfolding clock
by_the_clock_that_is_asked_for = (refl, refl, refl)
