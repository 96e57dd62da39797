use Rattle.std.proofs.Common.{arith}
use Rattle.croner.proofs.search.gap.SideSearch.halve.Goals as goal

pub returns-in-Some-clause-around : goal.returns-in-Some-clause-around
returns-in-Some-clause-around g c =
    let around = c.requires.around in
    let near = around.near in
    let ordered = around.ordered in
    let wide = c.requires.wide in
    let answered = rw c.in-Some.is at c.probe_beyond.ensures in
    record { ordered = omega arith; near = omega arith; skipped = around.skipped; beyond = answered }

pub returns-in-None-clause-around : goal.returns-in-None-clause-around
returns-in-None-clause-around g c =
    let around = c.requires.around in
    let near = around.near in
    let ordered = around.ordered in
    let wide = c.requires.wide in
    let skipped = rw c.in-None.is at c.probe_beyond.ensures in
    record { ordered = omega arith; near = omega arith; skipped = skipped; beyond = around.beyond }
