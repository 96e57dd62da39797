use Rattle.std.proofs.Common.{◌∙◌, sym, w64}
use Rattle.std.proofs.lemmas.Int.{to_z-of_z}
use Rattle.crontab_runs.proofs.EachSecond.{each_second}
use Rattle.crontab_runs.proofs.minutes.civil_of.Goals as goal

pub unreachable-requires : goal.unreachable-requires
unreachable-requires c =
    let (civil, fits, at) = each_second c.args.wall c.requires in
    c.in-None.ensures civil fits (at ∙ sym (to_z-of_z w64 c.args.wall c.ranges.wall))
