-- Each time of a backend that holds little lies in a second that it holds: the proof of the law of `Clocked`.
use Rattle.croner_base.proofs.tables.TableTests.{between_test}
use Rattle.croner_base.specs.HeldSeconds.{IsHeld, table_held}
use Rattle.croner_backends.specs.declared.narrow.NarrowTime.{NarrowTime}
use Rattle.croner_backends.specs.NarrowMoment.{narrow_moment}

pub narrow_held : (t : NarrowTime) → IsHeld (narrow_moment t)
narrow_held t = rw (between_test t.low t.high t.time.second t.from t.to) (table_held t.time)
