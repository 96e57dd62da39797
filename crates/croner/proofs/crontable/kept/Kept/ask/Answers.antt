use Rattle.std.proofs.Common.{◌≡◌, List, ℕ, refl, ap, sym, subst, arith, rules}
use Rattle.std.specs.BinaryHeap.{heap_items}
use Rattle.croner.specs.Private.crontable.Kept.{WaitedBefore}
use Rattle.croner_base.specs.declared.errors.CronError.TheVariants.{TimeSearchLimitExceeded}
use Rattle.croner.specs.crontable.Tables.{patterns_of}
use Rattle.croner.specs.Views.{job_of}
use Rattle.croner.proofs.crontable.KeptRuns.{found_kept, limited_kept, same_kept, last_waits, fewer_wait}
use Rattle.croner.proofs.crontable.TableRuns.{place_refused}
use Rattle.croner.proofs.crontable.kept.Kept.ask.Goals as goal

pub returns-in-Err-TimeSearchLimitExceeded-clause-kept : goal.returns-in-Err-TimeSearchLimitExceeded-clause-kept
returns-in-Err-TimeSearchLimitExceeded-clause-kept g c =
    let moment = g.T.CronDateTime.moment in
    let old = c.args.self.now in
    let popped = c.pop-in-Err-TimeSearchLimitExceeded in
    limited_kept moment (patterns_of c.args.table.now) c.args.direction c.args.inclusive (moment c.args.position.now) (heap_items old.dues) old.waiting.items popped.new.self.items old.is_limited
    c.index-place.result.now (job_of c.job_at.result.now) c.requires.kept
    (last_waits old.waiting old.waiting popped.new.self.items c.len.result c.index-place.result.now popped.result refl c.len.ensures c.requires.some popped.ensures.items popped.ensures.value c.index-place.ensures)
    c.job_at.ensures.stands (λ calm. c.in-Err-TimeSearchLimitExceeded.ensures.refused.limit calm c.in-Err-TimeSearchLimitExceeded.field-0-is)

pub returns-in-Err : goal.returns-in-Err
returns-in-Err g c =
    let other : c.in-Err.refused ≡ TimeSearchLimitExceeded → ⊥ = search rules in
    record {
      kept = c.requires.kept;
      held = refl;
      begun = refl;
      waited = λ k. omega arith;
      fewer = tt;
      refused = place_refused g.T.CronDateTime.can_lack_memory c.args.direction c.args.inclusive (patterns_of c.args.table.now) (g.T.CronDateTime.moment c.args.position.now) c.index-place.result.now
          (job_of c.job_at.result.now) c.in-Err.refused c.job_at.ensures.stands c.in-Err.ensures.refused other;
    }

pub returns-in_ok-keep-in-Ok-clause-kept : goal.returns-in_ok-keep-in-Ok-clause-kept
returns-in_ok-keep-in-Ok-clause-kept g c =
    let moment = g.T.CronDateTime.moment in
    let old = c.args.self.now in
    let mid = c.keep.new.self in
    let popped = c.pop in
    let start = moment c.args.position.now in
    let patterns = patterns_of c.args.table.now in
    let kept = same_kept moment patterns c.args.direction c.args.inclusive start (heap_items old.dues) (heap_items old.dues) old.waiting.items mid.waiting.items old.is_limited mid.is_limited
    refl (ap (λ v. v.items) c.keep.ensures.waiting) c.keep.ensures.limited c.requires.kept in
    found_kept moment patterns c.args.direction c.args.inclusive start (heap_items old.dues) (heap_items mid.dues) mid.waiting.items popped.new.self.items mid.is_limited
    (record { run = c.in-Ok.run'; place = c.index-place.result.now; direction = c.args.direction }) (job_of c.job_at.result.now) kept
    (last_waits old.waiting mid.waiting popped.new.self.items c.len.result c.index-place.result.now popped.result c.keep.ensures.waiting c.len.ensures c.requires.some popped.ensures.items popped.ensures.value c.index-place.ensures)
    c.in_ok-keep-in-Ok.ensures.kept refl c.job_at.ensures.stands c.in-Ok.ensures.found

pub returns-in_err-keep-in-Ok-clause-kept : goal.returns-in_err-keep-in-Ok-clause-kept
returns-in_err-keep-in-Ok-clause-kept g c =
    let moment = g.T.CronDateTime.moment in
    let old = c.args.self.now in
    let mid = c.keep.new.self in
    same_kept moment (patterns_of c.args.table.now) c.args.direction c.args.inclusive (moment c.args.position.now) (heap_items old.dues) (heap_items mid.dues) old.waiting.items mid.waiting.items
    old.is_limited mid.is_limited c.in_err-keep-in-Ok.ensures.err.1 (ap (λ v. v.items) c.keep.ensures.waiting) c.keep.ensures.limited c.requires.kept

pub returns-in-Err-TimeSearchLimitExceeded-clause-waited : goal.returns-in-Err-TimeSearchLimitExceeded-clause-waited
returns-in-Err-TimeSearchLimitExceeded-clause-waited g c =
    let old = c.args.self.now in
    let popped = c.pop-in-Err-TimeSearchLimitExceeded in
    fewer_wait old.waiting.items popped.new.self.items c.index-place.result.now
    (last_waits old.waiting old.waiting popped.new.self.items c.len.result c.index-place.result.now popped.result refl c.len.ensures c.requires.some popped.ensures.items popped.ensures.value c.index-place.ensures)

pub returns-in_ok-keep-in-Ok-clause-waited : goal.returns-in_ok-keep-in-Ok-clause-waited
returns-in_ok-keep-in-Ok-clause-waited g c =
    let old = c.args.self.now in
    let mid = c.keep.new.self in
    let P : List ℕ → Type 0 = λ xs. WaitedBefore xs c.pop.new.self.items in
    subst P (ap (λ v. v.items) c.keep.ensures.waiting) (fewer_wait mid.waiting.items c.pop.new.self.items c.index-place.result.now
    (last_waits old.waiting mid.waiting c.pop.new.self.items c.len.result c.index-place.result.now c.pop.result c.keep.ensures.waiting c.len.ensures c.requires.some c.pop.ensures.items c.pop.ensures.value
    c.index-place.ensures))

pub returns-in_err-keep-in-Ok-clause-waited : goal.returns-in_err-keep-in-Ok-clause-waited
returns-in_err-keep-in-Ok-clause-waited g c =
    let P : List ℕ → Type 0 = WaitedBefore c.args.self.now.waiting.items in
    subst P (sym (ap (λ v. v.items) c.keep.ensures.waiting)) (λ k. omega arith)
