use Rattle.std.proofs.Common.{rules, ◌∙◌, arith, pos, ◌+ℤ◌, ◌-ℤ◌, w64, FitsSigned}
use Rattle.std.proofs.lemmas.Int.{ints, to_z-of_z}
use Rattle.crontab_runs.proofs.TableStretches.{table_stretch, one_before}
use Rattle.crontab_runs.proofs.stretch.Stretch.after_changes.Goals as goal

pub overflow_sub-before : goal.overflow_sub-before
overflow_sub-before c =
    let t = c.args.table.now in
    let s = table_stretch t c.args.changes c.requires in
    let fits : FitsSigned w64 c.begin_of-begin.result = search rules in
    simp to_z-of_z (omega (arith, ints, c.begin_of-begin.ensures, s.begin_low, s.order, s.end_high))

pub overflow_add-before : goal.overflow_add-before
overflow_add-before c =
    let t = c.args.table.now in
    let s = table_stretch t c.args.changes c.requires in
    let fits : FitsSigned w64 c.begin_of-begin.result = search rules in
    let offset : FitsSigned w64 c.offset_of.result = search rules in
    let less : FitsSigned w64 (c.begin_of-begin.result -ℤ pos 1) = omega (arith, ints, c.begin_of-begin.ensures, s.begin_low, s.order, s.end_high) in
    let same = c.offset_of.ensures ∙ one_before t.first_offset t.changes.items c.args.changes c.saturating_sub.result c.saturating_sub.ensures in
    simp to_z-of_z (omega (arith, ints, c.begin_of-begin.ensures, same, s.before_low, s.before_high))

pub invariant_of-result : goal.invariant_of-result
invariant_of-result c =
    let t = c.args.table.now in
    let s = table_stretch t c.args.changes c.requires in
    let fits : FitsSigned w64 c.begin_of-begin.result = search rules in
    let until : FitsSigned w64 c.end_of.result = search rules in
    let own : FitsSigned w64 c.offset_of-2.result = search rules in
    let offset : FitsSigned w64 c.offset_of.result = search rules in
    let less : FitsSigned w64 (c.begin_of-begin.result -ℤ pos 1) = omega (arith, ints, c.begin_of-begin.ensures, s.begin_low, s.order, s.end_high) in
    let same = c.offset_of.ensures ∙ one_before t.first_offset t.changes.items c.args.changes c.saturating_sub.result c.saturating_sub.ensures in
    let sum : FitsSigned w64 (c.begin_of-begin.result -ℤ pos 1 +ℤ c.offset_of.result) = omega (arith, ints, c.begin_of-begin.ensures, same, s.before_low, s.before_high) in
    record { fits = simp to_z-of_z (rw (c.begin_of-begin.ensures, c.end_of.ensures, c.offset_of-2.ensures, same) s) }
