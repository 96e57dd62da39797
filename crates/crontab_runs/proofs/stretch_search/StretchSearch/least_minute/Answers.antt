use Rattle.std.proofs.Common.{◌∙◌, sym, rules, w64, FitsSigned}
use Rattle.std.proofs.lemmas.Int.{to_z-of_z}
use Rattle.crontab_runs.proofs.PartStarts.{begin_minute, shown_minute, least_starred, least_starless}
use Rattle.crontab_runs.proofs.stretch_search.StretchSearch.least_minute.Goals as goal

pub overflow_add-first : goal.overflow_add-first
overflow_add-first c = (begin_minute c.args.self.now c.minute_of-first.result c.minute_of-first.ensures).0

pub returns-then-self : goal.returns-then-self
returns-then-self c =
    let p = c.args.self.now in
    (begin_minute p c.minute_of-first.result c.minute_of-first.ensures).1 ∙ sym (least_starred p.job.now.is_starred p.stretch.begin p.stretch.offset p.stretch.before c.if-self.true)

pub returns-else-self : goal.returns-else-self
returns-else-self c =
    let p = c.args.self.now in
    let a = (begin_minute p c.minute_of-first.result c.minute_of-first.ensures).1 in
    let b = (shown_minute p c.minute_of.result c.minute_of.ensures).1 in
    let fits : FitsSigned w64 c.max.result = search rules in
    let least = least_starless p.job.now.is_starred p.stretch.begin p.stretch.offset p.stretch.before c.if-self.false in
    to_z-of_z w64 c.max.result fits ∙ c.max.ensures.value ∙ rw (a, b) (sym least)
