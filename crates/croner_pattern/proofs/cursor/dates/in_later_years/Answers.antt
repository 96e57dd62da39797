use Rattle.std.proofs.Common.{◌≡◌, None, Some, pos, subst, arith}
use Rattle.std.specs.Int.{bit_at}
use Rattle.std.proofs.lemmas.Nat.Bits.{bit_at-zero}
use Rattle.croner_pattern.specs.Private.Cursor.{first_year, last_year, year_kind}
use Rattle.croner_pattern.proofs.civil.DateSearch.{plain_year, has_month, years}
use Rattle.croner_pattern.proofs.civil.Foremost.{found, missed, ended, spent}
use Rattle.croner_pattern.proofs.civil.Ahead.{neighbour-way, fewer_left}
use Rattle.croner_pattern.proofs.cursor.dates.in_later_years.Goals as goal

pub returns-then-kinds-eq0 : goal.returns-then-kinds-eq0
returns-then-kinds-eq0 g c = λ d h.
    let bit = (c.year_kinds-kinds.ensures d.year).1 (has_month (g.P.PatternWords.meaning c.args.pattern.now) d h.among) in
    let none : bit_at 0 (year_kind d.year) ≡ 1 = subst (λ n. bit_at n (year_kind d.year) ≡ 1) c.if-kinds-eq0.true bit in
    omega (arith, bit_at-zero (year_kind d.year), none)

pub loop-year-init : goal.loop-year-init
loop-year-init g c = record { way = c.requires.year_in; leads = λ r f. f }

pub returns-in-Some-in_open_year : goal.returns-in-Some-in_open_year
returns-in-Some-in_open_year g c =
    let m = g.P.PatternWords.meaning c.args.pattern.now in
    let near = c.in-Some.ensures in
    let d = c.in-Some-in_open_year.found in
    c.loop-year.invariant.leads (Some d)
    (found (years m c.args.direction) (pos c.loop-year.from) c.in-Some.year d near (c.in-Some-in_open_year.ensures (plain_year m c.in-Some.year near.is)))

pub returns-in_err-from : goal.returns-in_err-from
returns-in_err-from g c =
    let m = g.P.PatternWords.meaning c.args.pattern.now in
    let near = c.in-Some.ensures in
    rw c.from_residual.ensures
    (c.loop-year.invariant.leads None
    (spent (years m c.args.direction) (pos c.loop-year.from) c.in-Some.year near
    (c.in_default-in_open_year.ensures (plain_year m c.in-Some.year near.is)) c.in_err-from.ensures))

pub loop-year-preserved : goal.loop-year-preserved
loop-year-preserved g c =
    let m = g.P.PatternWords.meaning c.args.pattern.now in
    let near = c.in-Some.ensures in
    record {
      way = neighbour-way c.args.direction first_year last_year c.in-Some.year c.in_ok-from.from near.is.low near.is.high c.in_ok-from.ensures;
      leads = λ r f.
          c.loop-year.invariant.leads r
          (missed (years m c.args.direction) (pos c.loop-year.from) (pos c.in_ok-from.from) c.in-Some.year near
          (c.in_default-in_open_year.ensures (plain_year m c.in-Some.year near.is)) c.in_ok-from.ensures r f);
    }

pub loop-year-smaller : goal.loop-year-smaller
loop-year-smaller g c =
    fewer_left c.args.direction last_year c.loop-year.from c.in-Some.year c.in_ok-from.from c.in-Some.ensures.is.high c.in-Some.ensures.on c.in_ok-from.ensures

pub returns : goal.returns
returns g c =
    c.loop-year.invariant.leads None
    (ended (years (g.P.PatternWords.meaning c.args.pattern.now) c.args.direction) (pos c.loop-year.from) c.in_default.ensures)
