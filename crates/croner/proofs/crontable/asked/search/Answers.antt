use Rattle.std.proofs.Common.{List, ℕ, subst, sym}
use Rattle.std.specs.BinaryHeap.{heap_items}
use Rattle.croner.specs.crontable.Tables.{patterns_of, IsTableFound}
use Rattle.croner.proofs.crontable.KeptRuns.{turned_kept, given_again, held_still, not_held}
use Rattle.croner.proofs.crontable.TakenRuns.{shaped_at, held_found, held_refused}
use Rattle.croner.proofs.zone.ErrorsKept.{error_kept}
use Rattle.croner.proofs.crontable.asked.search.Goals as goal

pub returns-in-Ok-clause-kept : goal.returns-in-Ok-clause-kept
returns-in-Ok-clause-kept g c =
    let moment = g.T.CronDateTime.moment in
    let mid = c.nearest.new.kept in
    turned_kept moment (patterns_of c.args.table.now) c.args.direction c.args.inclusive (moment c.args.position.now) (heap_items mid.dues) mid.waiting.items c.reverse.new.self.items mid.is_limited
    c.nearest.ensures.kept c.reverse.ensures.permutation

pub returns-in-Ok-clause-found : goal.returns-in-Ok-clause-found
returns-in-Ok-clause-found g c =
    let moment = g.T.CronDateTime.moment in
    let mid = c.nearest.new.kept in
    let start = moment c.args.position.now in
    let patterns = patterns_of c.args.table.now in
    let P : List ℕ → Type 0 = IsTableFound c.args.direction c.args.inclusive patterns start (moment c.in_ok-run.run') in
    subst P (sym c.in-Ok.ensures.places) (held_found moment patterns c.args.direction c.args.inclusive start (shaped_at c.args.table.now.jobs.items) c.in_ok-run.run' (heap_items mid.dues) mid.waiting.items mid.is_limited
    c.nearest.ensures.kept c.in_ok-run.ensures.held c.in-Ok.ensures.inside)

pub returns-in-Err-clause-refused : goal.returns-in-Err-clause-refused
returns-in-Err-clause-refused g c =
    let moment = g.T.CronDateTime.moment in
    let mid = c.nearest.new.kept in
    held_refused moment (patterns_of c.args.table.now) c.args.direction c.args.inclusive (moment c.args.position.now) (shaped_at c.args.table.now.jobs.items) c.in_ok-run.run' (heap_items mid.dues) mid.waiting.items
    mid.is_limited c.nearest.ensures.kept c.in_ok-run.ensures.held g.T.CronDateTime.can_lack_memory c.in-Err.refused c.in-Err.ensures.refused

pub returns-in-Ok-clause-again : goal.returns-in-Ok-clause-again
returns-in-Ok-clause-again g c =
    given_again c.args.kept.now.found c.in_ok-run.run' c.args.kept.now.waiting.items c.nearest.new.kept.waiting.items c.in-Ok.item.1.items c.in_ok-run.ensures.again c.in-Ok.ensures.places

pub returns-in-Err-clause-stays : goal.returns-in-Err-clause-stays
returns-in-Err-clause-stays g c =
    held_still c.args.kept.now.found c.in_ok-run.run' c.args.kept.now.waiting.items c.nearest.new.kept.waiting.items c.in_ok-run.ensures.again

pub returns-in_err-run-clause-stays : goal.returns-in_err-run-clause-stays
returns-in_err-run-clause-stays g c =
    error_kept c.from_residual.result c.in_err-run.field-0.0 _ c.from_residual.ensures.1 (not_held c.args.kept.now.found c.in_err-run.field-0.0 c.args.kept.now.waiting.items c.nearest.new.kept.waiting.items _ c.in_err-run.ensures.again)
