use Rattle.std.proofs.Common.{◌≡◌, ◌∙◌, refl, sym, ap, ◌≤ℤ◌, ◌+ℤ◌, ◌-ℤ◌, ◌++◌, ℤ, pos, FitsSigned, w64, arith, to_z-of_z, append-nil, Result, Ok, Err}
use Rattle.std.specs.Prelude.{IfOk}
use Rattle.std.proofs.lemmas.Int.{ints, int_min_is, int_max_is}
use Rattle.std.proofs.lemmas.Result.{IfOk-weaker}
use Rattle.std.specs.Int.{int_min, int_max}
use Rattle.jiff_core.proofs.SignedLemmas.{signed_arith}
use Rattle.croner_base.specs.Private.ZoneSteps.{IsHeld, period}
use Rattle.croner_base.specs.ZonedZone.{last_timestamp}
use Rattle.croner_base.specs.ZoneTable.{IsWindow, ahead_at, window_changes}
use Rattle.croner_base.proofs.zones.ZoneChanges.{no_changes}
use Rattle.croner_base.proofs.zones.ZoneStays.{ge_of}
use Rattle.croner_base.proofs.zones.ZoneRepeats.{joined_part}
use Rattle.croner_base.proofs.time.table.of_zone.add_ruled.Goals as goal
use Rattle.croner_base.proofs.time.table.of_zone.add_ruled.Goals.{After-min-end, In_ok-add_asked}

-- the second from which a window goes by the rule, and the last one that is repeated
record Ruled (first last from ruled end : ℤ) : Type 0 where
  pub after : first ≤ℤ ruled
  pub held : ruled ≤ℤ last_timestamp
  pub rule : from ≤ℤ ruled
  pub within : end ≤ℤ last
  pub fits : FitsSigned w64 (end -ℤ ruled)

ruled_at : (first last from ruled end : ℤ) → IsWindow first last → IsHeld from → FitsSigned w64 first → ruled ≡ int_max from first → end ≡ int_min last (pos 253370764799) → Ruled first last from ruled end
ruled_at first last from ruled end w h f e m = record {
  after = omega (arith, signed_arith, e, int_max_is from first);
  held = omega (arith, signed_arith, e, int_max_is from first, h, w.order, w.held_last);
  rule = omega (arith, signed_arith, e, int_max_is from first);
  within = omega (arith, signed_arith, m, int_min_is last (pos 253370764799));
  fits = omega (arith, ints, e, m, int_max_is from first, int_min_is last (pos 253370764799), h, w.order, w.held_last, w.held_first);
}

here : (c : After-min-end) → Ruled c.args.first c.args.last c.ruled_from.result c.max-ruled.result c.min-end.result
here c =
    let f : FitsSigned w64 c.args.first = c.ranges.first in
    let g : FitsSigned w64 c.args.last = c.ranges.last in
    let r : FitsSigned w64 c.ruled_from.result = omega (arith, ints, c.ruled_from.type_inv) in
    let e = simp to_z-of_z at c.max-ruled.ensures.value in
    let m = simp to_z-of_z at c.min-end.ensures.value in
    ruled_at c.args.first c.args.last c.ruled_from.result c.max-ruled.result c.min-end.result c.requires c.ruled_from.ensures.held f e m

pub overflow_sub-end : goal.overflow_sub-end
overflow_sub-end c =
    let m : FitsSigned w64 c.max-ruled.result = omega (arith, ints, c.max-ruled.type_inv) in
    let n : FitsSigned w64 c.min-end.result = omega (arith, ints, c.min-end.type_inv) in
    simp to_z-of_z (here c).fits

pub returns-then-end-ruled-lt-PERIOD_SECONDS-clause-items : goal.returns-then-end-ruled-lt-PERIOD_SECONDS-clause-items
returns-then-end-ruled-lt-PERIOD_SECONDS-clause-items c =
    let f : FitsSigned w64 c.args.first = c.ranges.first in
    let none = no_changes (ahead_at c.args.zone) c.args.first c.args.first refl in
    simp to_z-of_z (sym (ap (λ l. c.args.changes.now.items ++ l) none ∙ append-nil c.args.changes.now.items))

pub add_asked-requires : goal.add_asked-requires
add_asked-requires c =
    let f : FitsSigned w64 c.args.first = c.ranges.first in
    let m : FitsSigned w64 c.max-ruled.result = omega (arith, ints, c.max-ruled.type_inv) in
    let a = here (goal.at.add_asked-requires c).After-min-end in
    simp to_z-of_z (record { held_first = c.requires.held_first; order = a.after; held_last = a.held })

both_ok : {E : Type 0} (P Q : ℤ → Type 0) (r : Result ℤ E) → IfOk r P → IfOk r Q → IfOk r (λ x. P x × Q x)
both_ok P Q (Ok x) p q = (p, q)
both_ok P Q (Err e) p q = tt

-- a period or more is left
enough : (c : In_ok-add_asked) → (d : FitsSigned w64 (c.min-end.result -ℤ c.max-ruled.result)) → (c.max-ruled.result +ℤ pos period) ≤ℤ c.min-end.result
enough c d =
    let m : FitsSigned w64 c.max-ruled.result = omega (arith, ints, c.max-ruled.type_inv) in
    let n : FitsSigned w64 c.min-end.result = omega (arith, ints, c.min-end.type_inv) in
    let t = simp to_z-of_z at c.if-end-ruled-lt-PERIOD_SECONDS.false in
    let more = ge_of (c.min-end.result -ℤ c.max-ruled.result) (pos 12622780800) t in
    omega (arith, signed_arith, more)

pub add_periods-requires-clause-window : goal.add_periods-requires-clause-window
add_periods-requires-clause-window c =
    let m : FitsSigned w64 c.max-ruled.result = omega (arith, ints, c.max-ruled.type_inv) in
    let n : FitsSigned w64 c.min-end.result = omega (arith, ints, c.min-end.type_inv) in
    let a = here (goal.at.add_periods-requires-clause-window c).After-min-end in
    let more = enough (goal.at.add_periods-requires-clause-window c).In_ok-add_asked a.fits in
    simp to_z-of_z (record {
      held_first = omega (arith, signed_arith, c.requires.held_first, a.after);
      order = omega (arith, signed_arith, more);
      held_last = omega (arith, signed_arith, a.within, c.requires.held_last);
    })

pub add_periods-requires-clause-one : goal.add_periods-requires-clause-one
add_periods-requires-clause-one c =
    let m : FitsSigned w64 c.max-ruled.result = omega (arith, ints, c.max-ruled.type_inv) in
    let n : FitsSigned w64 c.min-end.result = omega (arith, ints, c.min-end.type_inv) in
    let a = here (goal.at.add_periods-requires-clause-one c).After-min-end in
    simp to_z-of_z (enough (goal.at.add_periods-requires-clause-one c).In_ok-add_asked a.fits)

pub add_periods-requires-clause-repeats : goal.add_periods-requires-clause-repeats
add_periods-requires-clause-repeats c =
    let m : FitsSigned w64 c.max-ruled.result = omega (arith, ints, c.max-ruled.type_inv) in
    let a = here (goal.at.add_periods-requires-clause-repeats c).After-min-end in
    simp to_z-of_z (λ i low high. c.ruled_from.ensures.repeats i (omega (arith, signed_arith, a.rule, low)) high)

pub returns-clause-order : goal.returns-clause-order
returns-clause-order c =
    let m : FitsSigned w64 c.max-ruled.result = omega (arith, ints, c.max-ruled.type_inv) in
    let n : FitsSigned w64 c.min-end.result = omega (arith, ints, c.min-end.type_inv) in
    let a = here (goal.at.returns-clause-order c).After-min-end in
    let order = simp to_z-of_z at c.add_periods.ensures.order in
    IfOk-weaker c.add_periods.result (λ (r : ℤ). (c.max-ruled.result ≤ℤ r) × (r ≤ℤ c.min-end.result)) (λ (r : ℤ). (c.args.first ≤ℤ r) × (r ≤ℤ c.args.last))
    (λ r h. (omega (arith, signed_arith, a.after, h), omega (arith, signed_arith, a.within, h))) order

pub returns-clause-items : goal.returns-clause-items
returns-clause-items c =
    let tz = c.args.zone in
    let old = c.args.changes.now.items in
    let first = c.args.first in
    let ruled = c.max-ruled.result in
    let f : FitsSigned w64 first = c.ranges.first in
    let m : FitsSigned w64 ruled = omega (arith, ints, c.max-ruled.type_inv) in
    let n : FitsSigned w64 c.min-end.result = omega (arith, ints, c.min-end.type_inv) in
    let a = here (goal.at.returns-clause-items c).After-min-end in
    let order = simp to_z-of_z at c.add_periods.ensures.order in
    let items = simp to_z-of_z at c.add_periods.ensures.items in
    let asked = simp to_z-of_z at c.in_ok-add_asked.ensures in
    let both = both_ok (λ (r : ℤ). (ruled ≤ℤ r) × (r ≤ℤ c.min-end.result)) (λ (r : ℤ). c.add_periods.new.changes.items ≡ c.add_asked.new.changes.items ++ window_changes tz ruled r) c.add_periods.result order items in
    IfOk-weaker c.add_periods.result (λ (r : ℤ). ((ruled ≤ℤ r) × (r ≤ℤ c.min-end.result)) × (c.add_periods.new.changes.items ≡ c.add_asked.new.changes.items ++ window_changes tz ruled r)) (λ (r : ℤ). c.add_periods.new.changes.items ≡ old ++ window_changes tz first r)
    (λ r h. h.1 ∙ ap (λ l. l ++ window_changes tz ruled r) asked ∙ joined_part tz first ruled r old a.after h.0.0) both
