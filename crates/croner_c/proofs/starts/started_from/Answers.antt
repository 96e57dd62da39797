use Rattle.std.proofs.Common.{rules, FitsSigned, w64}
use Rattle.std.proofs.lemmas.Int.{to_z-of_z}
use Rattle.croner_c.proofs.Started.{started}
use Rattle.croner_c.proofs.starts.started_from.Goals as goal

pub returns-in-Ok-starts_of : goal.returns-in-Ok-starts_of
returns-in-Ok-starts_of c =
    let u : FitsSigned w64 c.args.until = c.ranges.until in
    let l : FitsSigned w64 c.args.clock.now.last = search rules in
    let b : FitsSigned w64 c.bound.result = search rules in
    started c.args.job.now c.args.clock.now c.args.start c.args.until c.args.room c.in-Ok.items.items c.in-Ok.end c.bound.result c.as_slice.result.now
    c.in-Ok-starts_of.starts.items c.end_of.result c.requires (simp to_z-of_z at c.bound.ensures) (simp to_z-of_z at c.in-Ok.ensures) c.as_slice.ensures.value
    c.in-Ok-starts_of.ensures (simp to_z-of_z at c.end_of.ensures)
