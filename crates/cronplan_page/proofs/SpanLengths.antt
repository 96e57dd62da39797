-- The sides of a span, and how long it is at most.
use Rattle.std.proofs.Common.{◌≡◌, ℕ, ℤ, ◌-ℤ◌, ◌<◌, ◌^◌, unsigned_abs, arith, FitsSigned, w64}
use Rattle.std.specs.Prelude.{IsTrue}
use Rattle.std.proofs.lemmas.Int.{ints}
use Rattle.cronplan.specs.Spans.{is_span}
use Rattle.cronplan.proofs.SpanSeconds.{span_at}

pub span_length : (first end : ℤ) (n : ℕ) → IsTrue (is_span first end) → n ≡ unsigned_abs (first -ℤ end) → n < 2 ^ 50
span_length first end n h e =
    let s = span_at first end h in
    omega (arith, ints, e, s.late, s.order, s.early)

pub first_fits : (first end : ℤ) → IsTrue (is_span first end) → FitsSigned w64 first
first_fits first end h =
    let s = span_at first end h in
    omega (arith, ints, s.late, s.order, s.early)

pub end_fits : (first end : ℤ) → IsTrue (is_span first end) → FitsSigned w64 end
end_fits first end h =
    let s = span_at first end h in
    omega (arith, ints, s.late, s.order, s.early)
