use Rattle.std.proofs.Common.{◌≡◌, ◌≤ℤ◌, ◌<ℤ◌, ◌+ℤ◌, ℤ, pos, FitsSigned, w64, arith, sym, ◌∙◌, ap, Some, None, option_map, to_z-of_z}
use Rattle.std.specs.Int.{int_min, int_max}
use Rattle.std.proofs.lemmas.Int.{ints, int_min_is, int_max_is}
use Rattle.jiff_core.specs.Timestamp.{nanos_of_seconds}
use Rattle.jiff_core.proofs.SignedLemmas.{signed_arith}
use Rattle.jiff_tz.specs.PosixRule.{transition_view}
use Rattle.croner_base.specs.Private.ZoneSteps.{IsFirstSecond}
use Rattle.croner_base.proofs.zones.ZoneStays.{question_is}
use Rattle.croner_base.proofs.time.table.of_zone.next_question.Goals as goal

-- the question at the next transition, or at the second after, but at most at an end
between : (s next end r : ℤ) → r ≡ int_min (int_max next (s +ℤ pos 1)) end → s <ℤ end → (s <ℤ r) × (r ≤ℤ end)
between s next end r e lt =
    (omega (arith, signed_arith, e, lt, int_max_is next (s +ℤ pos 1), int_min_is (int_max next (s +ℤ pos 1)) end), omega (arith, signed_arith, e, int_min_is (int_max next (s +ℤ pos 1)) end))

before : (s next end r n j : ℤ) → IsFirstSecond n next → r ≡ int_min (int_max next (s +ℤ pos 1)) end → s <ℤ j → j <ℤ r → nanos_of_seconds j <ℤ n
before s next end r n j first e low high =
    let past : j <ℤ next = omega (arith, signed_arith, e, low, high, int_max_is next (s +ℤ pos 1), int_min_is (int_max next (s +ℤ pos 1)) end) in
    omega (arith, signed_arith, first.early_enough, past)

ends : (s last end r : ℤ) → r ≡ int_min end last → s <ℤ last → nanos_of_seconds s <ℤ nanos_of_seconds end → (s <ℤ r) × (r ≤ℤ last) × (r ≤ℤ end)
ends s last end r e lt year =
    let m = int_min_is end last in
    (omega (arith, signed_arith, e, lt, year, m), omega (arith, signed_arith, e, m), omega (arith, signed_arith, e, m))

pub returns-in-Some : goal.returns-in-Some
returns-in-Some c =
    let s = c.args.second in
    let last = c.args.last in
    let f : FitsSigned w64 s = c.ranges.second in
    let g : FitsSigned w64 last = c.ranges.last in
    let h : FitsSigned w64 (s +ℤ pos 1) = omega (arith, ints, c.requires) in
    let at = simp to_z-of_z at c.instant_of-instant.ensures in
    let year = rw at at c.year_end.ensures in
    let fy : FitsSigned w64 c.year_end.result = omega (arith, ints, c.year_end.type_inv) in
    let fe : FitsSigned w64 c.min-end.result = omega (arith, ints, c.min-end.type_inv) in
    let ff : FitsSigned w64 c.first_second.result = omega (arith, ints, c.first_second.type_inv) in
    let fm : FitsSigned w64 c.max.result = omega (arith, ints, c.max.type_inv) in
    let fr : FitsSigned w64 c.min.result = omega (arith, ints, c.min.type_inv) in
    let end_is = simp to_z-of_z at c.min-end.ensures.value in
    let max_is = simp to_z-of_z at c.max.ensures.value in
    let min_is = simp to_z-of_z at c.min.ensures.value in
    let is : c.min.result ≡ int_min (int_max c.first_second.result (s +ℤ pos 1)) c.min-end.result = min_is ∙ ap (λ x. int_min x c.min-end.result) max_is in
    let e = ends s last c.year_end.result c.min-end.result end_is c.requires.order year.later in
    let b = between s c.first_second.result c.min-end.result c.min.result is e.0 in
    let next = ap (λ o. option_map transition_view o) (sym c.in-Some.is) ∙ rw at at c.next_transition.ensures in
    simp to_z-of_z (question_is c.args.zone s last c.year_end.result c.min.result (Some (transition_view c.in-Some.transition)) c.requires.held c.requires.held_last year next
    b.0 (omega (arith, signed_arith, b, e)) (omega (arith, signed_arith, b, e))
    (λ j low high. before s c.first_second.result c.min-end.result c.min.result c.in-Some.transition.timestamp.nanosecond j c.first_second.ensures is low high))

pub returns-in-None : goal.returns-in-None
returns-in-None c =
    let s = c.args.second in
    let last = c.args.last in
    let f : FitsSigned w64 s = c.ranges.second in
    let g : FitsSigned w64 last = c.ranges.last in
    let at = simp to_z-of_z at c.instant_of-instant.ensures in
    let year = rw at at c.year_end.ensures in
    let fy : FitsSigned w64 c.year_end.result = omega (arith, ints, c.year_end.type_inv) in
    let fe : FitsSigned w64 c.min-end.result = omega (arith, ints, c.min-end.type_inv) in
    let end_is = simp to_z-of_z at c.min-end.ensures.value in
    let e = ends s last c.year_end.result c.min-end.result end_is c.requires.order year.later in
    let next = ap (λ o. option_map transition_view o) (sym c.in-None.is) ∙ rw at at c.next_transition.ensures in
    simp to_z-of_z (question_is c.args.zone s last c.year_end.result c.min-end.result None c.requires.held c.requires.held_last year next e.0 e.1 e.2 tt)
