use Rattle.std.proofs.Common.{◌∙◌}
use Rattle.jiff.specs.ZonedView.{plain_zoned}
use Rattle.croner_base.proofs.clocks.ZonedMoments.{nanos_of-zoned}
use Rattle.croner_base.proofs.time.jiff_impl.zoned.ZonedCronDateTime.cmp_instant.Goals as goal

pub returns : goal.returns
returns c = c.cmp.ensures ∙ rw (c.timestamp.ensures, c.timestamp-2.ensures, nanos_of-zoned (plain_zoned c.args.self.now), nanos_of-zoned (plain_zoned c.args.other.now))
