use Rattle.std.proofs.Common.{◌∙◌, refl, rules, arith, w64, FitsSigned}
use Rattle.std.proofs.lemmas.Int.{ints, to_z-of_z}
use Rattle.croner_base.specs.TableZone.{table_zone}
use Rattle.crontab_runs.specs.Starts.{minute_of}
use Rattle.crontab_runs.proofs.BeginStarts.{shown_bounds, shown_found, minute_found}
use Rattle.crontab_runs.proofs.PartStarts.{one_more_minute}
use Rattle.crontab_runs.proofs.stretch.Stretch.least_after_begin.Goals as goal

pub overflow_add-minute_of : goal.overflow_add-minute_of
overflow_add-minute_of c =
    let t = c.args.self.now in
    let b = shown_bounds (table_zone t.table.now) t.begin t.end t.offset t.before t.fits in
    (one_more_minute c.minute_of-2.result (minute_of t.before) (shown_found t c.minute_of-2.result c.minute_of-2.ensures).1 (omega (arith, ints, b)) (omega (arith, ints, b))).0

pub returns : goal.returns
returns c =
    let t = c.args.self.now in
    let b = shown_bounds (table_zone t.table.now) t.begin t.end t.offset t.before t.fits in
    let shown = (one_more_minute c.minute_of-2.result (minute_of t.before) (shown_found t c.minute_of-2.result c.minute_of-2.ensures).1 (omega (arith, ints, b)) (omega (arith, ints, b))).1 in
    let here = (minute_found t c.minute_of.result c.minute_of.ensures).1 in
    let fits : FitsSigned w64 c.min.result = search rules in
    to_z-of_z w64 c.min.result fits ∙ c.min.ensures.value ∙ rw (here, shown) refl
