use Rattle.std.proofs.Common.{refl, arith, pos, ◌-ℤ◌, FitsSigned, w64}
use Rattle.std.proofs.lemmas.Bool.{false≢true}
use Rattle.std.proofs.lemmas.Int.{ints, to_z-of_z}
use Rattle.cronplan.proofs.SpanSeconds.{Spans, span_at, held_before}
use Rattle.cronplan_jobs.proofs.listing.second_before.Goals as goal

pub unreachable-requires : goal.unreachable-requires
unreachable-requires c =
    let i = c.args.span.first in
    let w : Spans c.args.span.first c.args.span.end = span_at c.args.span.first c.args.span.end c.args.span.held in
    let f : FitsSigned w64 i = omega (arith, ints, w.late, w.order, w.early) in
    let g : FitsSigned w64 (i -ℤ pos 1) = omega (arith, ints, w.late, w.order, w.early) in
    let ok = simp to_z-of_z at c.in-Err.ensures.ok in
    false≢true (ok.1 (held_before c.args.span.first c.args.span.end (i -ℤ pos 1) w refl))
