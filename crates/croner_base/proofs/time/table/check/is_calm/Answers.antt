use Rattle.std.proofs.Common.{◌≡◌, ◌∙◌, sym, refl, true, arith, FitsSigned, w32}
use Rattle.std.proofs.lemmas.Int.{ints, to_z-of_z}
use Rattle.croner_base.specs.Table.{is_offset}
use Rattle.croner_base.proofs.tables.TableCheck.{calm_is, not_calm, stop, go}
use Rattle.croner_base.proofs.time.table.check.is_calm.Goals as goal

pub returns-then-not-is_offset : goal.returns-then-not-is_offset
returns-then-not-is_offset c =
    let f : FitsSigned w32 c.args.first_offset = c.ranges.first_offset in
    let within = simp to_z-of_z at c.is_offset.ensures in
    sym (not_calm c.args.first_offset c.args.changes.now (sym within ∙ c.if-not-is_offset.true))

pub loop-change-init : goal.loop-change-init
loop-change-init c =
    let f : FitsSigned w32 c.args.first_offset = c.ranges.first_offset in
    let within = simp to_z-of_z at c.is_offset.ensures in
    let offset_in : is_offset c.args.first_offset ≡ true = sym within ∙ c.if-not-is_offset.false in
    record {
      offset_in = simp to_z-of_z offset_in;
      earliest_in = omega (arith, ints);
      met_in = omega arith;
      gaps_in = omega arith;
      onward = simp to_z-of_z (calm_is c.args.first_offset c.args.changes.now offset_in);
    }

pub returns-in-None : goal.returns-in-None
returns-in-None c =
    let k = c.loop-change.change-index in
    let cs = c.args.changes.now in
    let f : FitsSigned w32 c.args.first_offset = c.ranges.first_offset in
    let i = simp to_z-of_z at c.loop-change.invariant.onward in
    sym (i ∙ stop _ cs k (omega arith) (λ n. cc (c.in-None.ensures.some.1 n)))

pub loop-change-preserved : goal.loop-change-preserved
loop-change-preserved c =
    let k = c.loop-change.change-index in
    let cs = c.args.changes.now in
    let f : FitsSigned w32 c.args.first_offset = c.ranges.first_offset in
    let i = simp to_z-of_z at c.loop-change.invariant.onward in
    let next = c.in-Some.next in
    record {
      offset_in = next.offset_in;
      earliest_in = next.earliest_in;
      met_in = next.met_in;
      gaps_in = next.gaps_in;
      onward = simp to_z-of_z (i ∙ go _ cs k next (omega arith) c.loop-change.invariant.earliest_in (c.in-Some.ensures.some.0 refl) c.in-Some.ensures.value);
    }
