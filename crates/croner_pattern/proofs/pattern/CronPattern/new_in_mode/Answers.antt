use Rattle.std.proofs.Common.{◌≡◌, Bool, true, false, cond, [], refl}
use Rattle.croner_base.specs.Field.{empty_field}
use Rattle.croner_pattern.specs.Shapes.{has_field_shapes, new_meaning, weekday_shape}
use Rattle.croner_pattern.proofs.pattern.CronPattern.new_in_mode.Goals as goal

pub returns-clause-ok : goal.returns-clause-ok
returns-clause-ok c =
    rw (c.in_ok-new.ensures.ok, c.in_ok-new-2.ensures.ok, c.in_ok-new-3.ensures.ok, c.in_ok-new-4.ensures.ok, c.in_ok-new-5.ensures.ok, c.in_ok-new-6.ensures.ok, c.in_ok-new-7.ensures.ok, c.in_ok-new-8.ensures, c.weekday_offset.ensures)

shaped : (quartz : Bool) → has_field_shapes (record (new_meaning []) { days_of_week = empty_field (weekday_shape (cond quartz 1 0)) }) ≡ true
shaped true = refl
shaped false = refl

pub returns-clause-shapes : goal.returns-clause-shapes
returns-clause-shapes c =
    rw (c.in_ok-new.ensures.ok, c.in_ok-new-2.ensures.ok, c.in_ok-new-3.ensures.ok, c.in_ok-new-4.ensures.ok, c.in_ok-new-5.ensures.ok, c.in_ok-new-6.ensures.ok, c.in_ok-new-7.ensures.ok, c.weekday_offset.ensures) (shaped c.args.quartz)
