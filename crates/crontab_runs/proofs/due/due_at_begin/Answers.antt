use Rattle.std.proofs.Common.{◌∙◌, sym, ap, arith, ◌+ℤ◌, ℤ, w64, to_z}
use Rattle.std.proofs.lemmas.Int.{ints}
use Rattle.croner_base.specs.TableZone.{table_zone}
use Rattle.crontab_runs.specs.Starts.{minute_of}
use Rattle.crontab_runs.proofs.BeginStarts.{shown_bounds, minute_small, shown_found, minute_found, due_found, other_minute}
use Rattle.crontab_runs.proofs.DueMinutes.{due_near, due_order}
use Rattle.crontab_runs.proofs.due.due_at_begin.Goals as goal

pub returns-then-minute-shown : goal.returns-then-minute-shown
returns-then-minute-shown c =
    let t = c.args.stretch.now in
    sym (minute_found t c.minute_of-minute.result c.minute_of-minute.ensures).1 ∙ ap (to_z w64) c.if-minute-shown.true ∙ (shown_found t c.minute_of-shown.result c.minute_of-shown.ensures).1

pub returns : goal.returns
returns c =
    let t = c.args.stretch.now in
    let starred = c.args.is_starred in
    let a = c.minute_of-shown.result in
    let b = c.minute_of-minute.result in
    let r : ℤ = minute_of t.before in
    let m : ℤ = minute_of (t.begin +ℤ t.offset) in
    let e = c.minute_of-shown.ensures in
    let f = c.minute_of-minute.ensures in
    let at = (minute_found t b f).1 in
    let due = due_found t starred a b c.due_after.result e f c.due_after.ensures in
    let small = minute_small (table_zone t.table.now) t.begin t.end t.offset t.before t.fits in
    record {
      turns = other_minute t a b e f c.if-minute-shown.false;
      after_is = omega (arith, ints, due);
      shown_is = at;
      low = omega (arith, ints, at, due, due_order starred r m, due_near starred r m, small);
      order = omega (arith, ints, at, due, due_order starred r m, due_near starred r m, small);
      near = omega (arith, ints, at, due, due_order starred r m, due_near starred r m, small);
      high = omega (arith, ints, at, small);
    }

pub due_after-requires-clause-shown_low : goal.due_after-requires-clause-shown_low
due_after-requires-clause-shown_low c =
    let t = c.args.stretch.now in
    let at = (shown_found t c.minute_of-shown.result c.minute_of-shown.ensures).1 in
    omega (arith, ints, at, shown_bounds (table_zone t.table.now) t.begin t.end t.offset t.before t.fits)

pub due_after-requires-clause-shown_high : goal.due_after-requires-clause-shown_high
due_after-requires-clause-shown_high c =
    let t = c.args.stretch.now in
    let at = (shown_found t c.minute_of-shown.result c.minute_of-shown.ensures).1 in
    omega (arith, ints, at, shown_bounds (table_zone t.table.now) t.begin t.end t.offset t.before t.fits)

pub due_after-requires-clause-low : goal.due_after-requires-clause-low
due_after-requires-clause-low c =
    let t = c.args.stretch.now in
    let at = (minute_found t c.minute_of-minute.result c.minute_of-minute.ensures).1 in
    omega (arith, ints, at, minute_small (table_zone t.table.now) t.begin t.end t.offset t.before t.fits)

pub due_after-requires-clause-high : goal.due_after-requires-clause-high
due_after-requires-clause-high c =
    let t = c.args.stretch.now in
    let at = (minute_found t c.minute_of-minute.result c.minute_of-minute.ensures).1 in
    omega (arith, ints, at, minute_small (table_zone t.table.now) t.begin t.end t.offset t.before t.fits)
