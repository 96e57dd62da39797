use Rattle.std.proofs.Common.{◌≡◌, length, refl, ap, ◌∙◌, arith}
use Rattle.std.specs.BinaryHeap.{heap_items, heap_len}
use Rattle.croner.specs.crontable.Tables.{patterns_of}
use Rattle.croner.proofs.crontable.KeptRuns.{same_kept}
use Rattle.croner.proofs.crontable.TakenRuns.{shaped_at, taken_first, taken_again, held_taken, nothing_found}
use Rattle.croner.proofs.crontable.asked.take_nearest.Goals as goal

pub returns-then-is_err-clause-kept : goal.returns-then-is_err-clause-kept
returns-then-is_err-clause-kept g c =
    let moment = g.T.CronDateTime.moment in
    let all = c.ask_all.new.self in
    same_kept moment (patterns_of c.args.table.now) c.args.direction c.args.inclusive (moment c.args.position.now) (heap_items all.dues) (heap_items all.dues) all.waiting.items c.reserve.new.self.items
    all.is_limited all.is_limited refl c.reserve.ensures.items refl c.ask_all.ensures.kept

pub returns-in-None-clause-kept : goal.returns-in-None-clause-kept
returns-in-None-clause-kept g c =
    let moment = g.T.CronDateTime.moment in
    let all = c.ask_all.new.self in
    let gone = c.pop.new.self in
    same_kept moment (patterns_of c.args.table.now) c.args.direction c.args.inclusive (moment c.args.position.now) (heap_items all.dues) (heap_items gone.dues) all.waiting.items gone.waiting.items
    all.is_limited gone.is_limited c.in-None.ensures.same.0 (ap (λ v. v.items) c.in-None.ensures.same.1 ∙ c.reserve.ensures.items) c.pop.ensures.limited c.ask_all.ensures.kept

pub tied-init : goal.tied-init
tied-init g c =
    let moment = g.T.CronDateTime.moment in
    let all = c.ask_all.new.self in
    let one = c.pop.new.self in
    let kept = same_kept moment (patterns_of c.args.table.now) c.args.direction c.args.inclusive (moment c.args.position.now) (heap_items all.dues) (heap_items all.dues) all.waiting.items c.reserve.new.self.items
    all.is_limited one.is_limited refl c.reserve.ensures.items c.pop.ensures.limited c.ask_all.ensures.kept in
    let none : length c.reserve.new.self.items ≡ 0 = ap length c.reserve.ensures.items ∙ omega (arith, c.in_ok-ask_all.ensures.none, all.waiting.ok.0) in
    record {
      taken = taken_first moment (patterns_of c.args.table.now) c.args.direction c.args.inclusive (moment c.args.position.now) (shaped_at c.args.table.now.jobs.items) (heap_items all.dues) (heap_items one.dues)
          c.reserve.new.self.items one.waiting.items one.is_limited c.in-Some.run' kept c.in-Some.ensures.popped none;
      room = c.pop.ensures.room;
      same = refl;
      begun = refl;
    }

pub returns-in-None-clause-refused : goal.returns-in-None-clause-refused
returns-in-None-clause-refused g c =
    let moment = g.T.CronDateTime.moment in
    let all = c.ask_all.new.self in
    nothing_found moment (patterns_of c.args.table.now) c.args.direction c.args.inclusive (moment c.args.position.now) (shaped_at c.args.table.now.jobs.items) (heap_items all.dues) all.waiting.items all.is_limited
    c.ask_all.ensures.kept (omega (arith, c.in-None.ensures.none, all.dues.data.ok.0)) (omega (arith, c.in_ok-ask_all.ensures.none, all.waiting.ok.0))

pub tied-preserved-in-tied : goal.tied-preserved-in-tied
tied-preserved-in-tied g c =
    let moment = g.T.CronDateTime.moment in
    let old = c.tied.kept in
    let more = c.pop-in-tied.new.self in
    record {
      taken = taken_again moment (patterns_of c.args.table.now) c.args.direction c.args.inclusive (moment c.args.position.now) (shaped_at c.args.table.now.jobs.items) (heap_items old.dues) (heap_items more.dues)
          old.waiting.items more.waiting.items old.is_limited more.is_limited c.in-Some.run' (heap_len old.dues) c.pop-in-tied.result c.pop-in-tied.ensures.limited c.pop-in-tied.ensures.popped
          c.pop-in-tied.ensures.none (c.is_tied.ensures.some c.tied-test.true) c.tied.invariant.taken (c.is_tied.ensures.tied c.tied-test.true);
      room = c.pop-in-tied.ensures.room;
      same = c.pop-in-tied.ensures.held ∙ c.tied.invariant.same;
      begun = c.pop-in-tied.ensures.begun ∙ c.tied.invariant.begun;
    }

pub returns-clause-held : goal.returns-clause-held
returns-clause-held g c =
    let moment = g.T.CronDateTime.moment in
    let last = c.tied.kept in
    held_taken moment (patterns_of c.args.table.now) c.args.direction c.args.inclusive (moment c.args.position.now) (shaped_at c.args.table.now.jobs.items) c.in-Some.run' (heap_items last.dues) last.waiting.items
    last.is_limited c.tied.invariant.taken (λ some. c.is_tied.ensures.apart c.tied-test.false (omega (arith, some, last.dues.data.ok.0)))
