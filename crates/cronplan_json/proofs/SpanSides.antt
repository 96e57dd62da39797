-- The sides of a span are numbers of 64 bits.
use Rattle.std.proofs.Common.{ℤ, arith, FitsSigned, w64}
use Rattle.std.specs.Prelude.{IsTrue}
use Rattle.std.proofs.lemmas.Int.{ints}
use Rattle.cronplan.specs.Spans.{is_span}
use Rattle.cronplan.proofs.SpanSeconds.{span_at}

pub first_fits : (first end : ℤ) → IsTrue (is_span first end) → FitsSigned w64 first
first_fits first end h = let s = span_at first end h in omega (arith, ints, s.late, s.order, s.early)

pub end_fits : (first end : ℤ) → IsTrue (is_span first end) → FitsSigned w64 end
end_fits first end h = let s = span_at first end h in omega (arith, ints, s.late, s.order, s.early)
