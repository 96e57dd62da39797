use Rattle.std.proofs.Common.{rules, SFits, w64}
use Rattle.std.proofs.lemmas.Int.{to_z-of_z}
use Rattle.croner_jobs.specs.Runs.{window_runs}
use Rattle.croner_jobs.specs.Private.Sought.{in_window}
use Rattle.croner_jobs.proofs.Windows.{renamed_found, renamed_refused, ends_in, ends_out}
use Rattle.croner_jobs.proofs.within.Within.search.Goals as goal

pub returns-clause-found : goal.returns-clause-found
returns-clause-found g c =
    let moment = g.T.CronDateTime.moment in
    let runs = g.J.Recurring.runs c.args.self.now.job in
    let it = c.args.self.now in
    let f = c.first_in-first in
    let l = c.last_in-last in
    let from : SFits w64 it.from = search rules in
    let until : SFits w64 it.until = search rules in
    let low : SFits w64 f.result = search rules in
    let high : SFits w64 l.result = search rules in
    let fs = simp to_z-of_z at f.ensures in
    let ls = simp to_z-of_z at l.ensures in
    renamed_found moment c.args.direction (in_window f.result l.result runs) (window_runs it.from it.until runs) (moment c.args.start.now)
    (ends_in it.from it.until f.result l.result fs.value fs.from fs.served ls.value ls.until ls.served runs)
    (ends_out it.from it.until f.result l.result fs.value ls.value runs) c.search_in.result (simp to_z-of_z at c.search_in.ensures.found)

pub returns-clause-refused : goal.returns-clause-refused
returns-clause-refused g c =
    let moment = g.T.CronDateTime.moment in
    let runs = g.J.Recurring.runs c.args.self.now.job in
    let it = c.args.self.now in
    let f = c.first_in-first in
    let l = c.last_in-last in
    let from : SFits w64 it.from = search rules in
    let until : SFits w64 it.until = search rules in
    let low : SFits w64 f.result = search rules in
    let high : SFits w64 l.result = search rules in
    let fs = simp to_z-of_z at f.ensures in
    let ls = simp to_z-of_z at l.ensures in
    renamed_refused g.T.CronDateTime.can_lack_memory c.args.direction (in_window f.result l.result runs) (window_runs it.from it.until runs)
    (moment c.args.start.now) (ends_out it.from it.until f.result l.result fs.value ls.value runs) c.search_in.result
    (simp to_z-of_z at c.search_in.ensures.refused)
