-- The zone of civil date-times is calm, and holds what a search needs.
use Rattle.std.proofs.Common.{rules, ◌≡◌, Bool, true, false, ◌≤◌, sym, ◌∙◌, arith, ℤ, ◌≤ℤ◌, List, [], ◌∷◌, length, Some, None, IsSome, if◌then◌else◌}
use Rattle.jiff_core.proofs.SignedLemmas.{signed_arith}
use Rattle.std.specs.List.{All}
use Rattle.croner_base.specs.declared.time.civil.CivilDateTime.{CivilDateTime}
use Rattle.croner_base.specs.declared.time.value.Resolution.{Resolution}
use Rattle.croner_base.specs.declared.time.value.Resolution.TheVariants.{Single, Ambiguous, Gap}
use Rattle.croner_base.specs.Civil.{wall_second}
use Rattle.croner_base.specs.Limits.{most_changes, most_gap_seconds, first_start, last_start}
use Rattle.croner_base.specs.Calm.{IsChange, IsMet, IsCalm, NamesAll, HoldsAround, gap_seconds}
use Rattle.jiff_core.specs.DateTime.{civil_seconds}
use Rattle.jiff_core.specs.declared.civil.datetime.DateTime.{DateTime}
use Rattle.croner_base.specs.CivilZone.{civil_moment, civil_zone, is_jiff_second}
use Rattle.croner_base.proofs.calendar.JiffSeconds.{is_jiff_second-true}

no_change : (d : ℤ) → IsChange civil_zone d → ⊥
no_change d h = h (omega (arith, signed_arith))

exact_by : (w : ℤ) (b : Bool) (r : Resolution ℤ) → (if b then Some (Single w) else None) ≡ Some r → NamesAll civil_zone w r
exact_by w true (Single a) e = let same : w ≡ a = cc in λ i. ((λ h. h ∙ same), (λ h. h ∙ sym same))
exact_by w true (Ambiguous a b) e = absurd (cc)
exact_by w true Gap e = absurd (cc)
exact_by w false r e = absurd (cc)

none_met : (ds : List ℤ) → All (IsMet civil_zone) ds → (length ds ≤ most_changes) × (gap_seconds civil_zone ds ≤ most_gap_seconds)
none_met [] h = (omega arith, omega arith)
none_met (d ∷ ds) h = absurd (no_change d (h 0 d (omega arith)).0)

pub civil_calm : IsCalm civil_zone
civil_calm = record {
  exact = λ c r e. exact_by (wall_second c) (is_jiff_second (wall_second c)) r e;
  small = λ d h. absurd (no_change d h);
  apart = λ d e h k l. absurd (no_change d h);
  few = λ ds r h. none_met ds h;
}

-- each second that is held is one instant
single_by : (w : ℤ) (b : Bool) (r : Resolution ℤ) → (if b then Some (Single w) else None) ≡ Some r → r ≡ Single w
single_by w true r e = cc
single_by w false r e = absurd (cc)

pub civil_single : (c : CivilDateTime) (r : Resolution ℤ) → civil_zone.resolves c ≡ Some r → r ≡ Single (wall_second c)
civil_single c r e = single_by (wall_second c) _ r e

resolved_by : (w : ℤ) → is_jiff_second w ≡ true → IsSome (if is_jiff_second w then Some (Single w) else None)
resolved_by w h = rw h (search rules)

-- where the start is of the years -9997 to 9997
pub civil_holds : (dt : DateTime) → first_start ≤ℤ civil_seconds dt → civil_seconds dt ≤ℤ last_start → HoldsAround (civil_moment dt)
civil_holds dt low high = record {
  years = λ c h. resolved_by (wall_second c) (is_jiff_second-true (wall_second c) (omega (arith, signed_arith, h)) (omega (arith, signed_arith, h)));
  year_instants = λ i h. is_jiff_second-true i (omega (arith, signed_arith, h)) (omega (arith, signed_arith, h));
  near = λ c h. resolved_by (wall_second c) (is_jiff_second-true (wall_second c) (omega (arith, signed_arith, h)) (omega (arith, signed_arith, h)));
  near_instants = λ i h. is_jiff_second-true i (omega (arith, signed_arith, h)) (omega (arith, signed_arith, h));
}
