use Rattle.std.proofs.Common.{◌≡◌, ◌∙◌, sym, true, int_lt, arith, rules, pos, ◌-ℤ◌, ◌<ℤ◌, FitsSigned, w64}
use Rattle.std.proofs.lemmas.Int.{ints, by_lt_z, to_z-of_z}
use Rattle.std.specs.declared.cmp.Ordering.TheVariants.{Less}
use Rattle.croner_base.specs.Civil.{wall_second}
use Rattle.croner_base.specs.Table.{first_instant}
use Rattle.croner_base.specs.TableZone.{table_zone}
use Rattle.croner_base.proofs.tables.TableTests.{lt_test}
use Rattle.croner_backends.proofs.Bounds.{is_less, index_less, index_greater, shows_less}
use Rattle.croner_backends.proofs.narrow.NarrowTime.skips.Goals as goal
use Rattle.croner_backends.proofs.narrow.NarrowTime.skips.Goals.{in-Some, in-None}

pub returns-then-eq : goal.returns-then-eq
returns-then-eq c =
    λ near.
    let t = c.args.self.now in
    let z = table_zone t.time.table.now in
    let w = wall_second c.args.civil in
    let f : FitsSigned w64 t.low = search rules in
    let g : FitsSigned w64 t.high = search rules in
    let less : c.match-checked_sub.less ≡ Less = index_less c.match-checked_sub.less c.if-eq.ensures in
    let first : int_lt (z.reads (t.low -ℤ pos 1)) w ≡ true =
    elim c.match-checked_sub.branch [
      | in-Some v ↦
          let before = simp to_z-of_z at v.in-Some.ensures in
          let h : FitsSigned w64 v.in-Some.before = rw before.1 before.0 in
          let order = simp to_z-of_z at (v.cmp_shown-less.ensures near) in
          is_less (z.reads (t.low -ℤ pos 1)) w (rw before.1 at (sym order ∙ sym v.less-is ∙ less))
      | in-None v ↦
          let far = simp to_z-of_z at v.in-None.ensures in
          let before : (t.low -ℤ pos 1) <ℤ first_instant = by_lt_z _ _ (λ lt. lt) (λ from. absurd (far (omega (arith, ints, from, f)))) in
          lt_test _ _ (shows_less t.time.table.now (t.low -ℤ pos 1) c.args.civil before near)
    ] in
    let last = simp to_z-of_z at (c.cmp_shown.ensures near) in
    let second = index_greater (z.reads t.high) w c.cmp_shown.result c.eq-then-eq.result last c.eq-then-eq.ensures in
    rw first second
