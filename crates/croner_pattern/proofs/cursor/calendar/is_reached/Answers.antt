use Rattle.std.proofs.Common.{refl, sym, ◌∙◌, arith}
use Rattle.jiff_core.proofs.SignedLemmas.{signed_arith}
use Rattle.croner_base.specs.declared.time.Direction.TheVariants.{Forward, Backward}
use Rattle.croner_pattern.proofs.civil.CivilOrder.{room_before, at_edge}
use Rattle.croner_pattern.proofs.cursor.calendar.is_reached.Goals as goal

pub returns-then-has_room : goal.returns-then-has_room
returns-then-has_room c =
    let before = room_before c.args.direction c.args.date (sym c.has_room.ensures ∙ c.if-has_room.true) in
    (λ t. omega (arith, signed_arith, before), λ r. refl)

pub returns-in-Forward : goal.returns-in-Forward
returns-in-Forward c =
    let edge = at_edge c.args.direction Forward c.args.date c.in-Forward.is (sym c.has_room.ensures ∙ c.if-has_room.false) in
    (λ t. edge.0 (c.is_ymd.ensures.0 t), λ r. c.is_ymd.ensures.1 (edge.1 r))

pub returns-in-Backward : goal.returns-in-Backward
returns-in-Backward c =
    let edge = at_edge c.args.direction Backward c.args.date c.in-Backward.is (sym c.has_room.ensures ∙ c.if-has_room.false) in
    (λ t. edge.0 (c.is_ymd-in-Backward.ensures.0 t), λ r. c.is_ymd-in-Backward.ensures.1 (edge.1 r))
