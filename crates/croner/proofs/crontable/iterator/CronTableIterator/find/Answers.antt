use Rattle.std.proofs.Common.{◌≡◌, ◌&&◌, Bool, Some, sym, subst}
use Rattle.std.specs.BinaryHeap.{heap_items}
use Rattle.croner.specs.crontable.Tables.{patterns_of}
use Rattle.croner.specs.Private.crontable.Kept.{AreKept, IsHeld}
use Rattle.croner.proofs.crontable.KeptRuns.{begun_either, begun_by, held_either, held_by, if_some, some_of}
use Rattle.croner.proofs.crontable.iterator.CronTableIterator.find.Goals as goal

pub search-requires-clause-kept : goal.search-requires-clause-kept
search-requires-clause-kept g c =
    let moment = g.T.CronDateTime.moment in
    let old = c.args.self.now in
    let new = c.begin.new.self in
    let begun = c.in_ok-begin.ensures in
    let kept = begun_either moment (patterns_of old.table.now) old.direction (old.is_first && old.inclusive) (moment old.position) old.kept new c.len.result c.len.ensures
    old.known begun.kept begun.none begun.below begun.once begun.other in
    let P : Bool → Type 0 = λ b. AreKept moment (patterns_of old.table.now) old.direction b (moment old.position) (heap_items new.dues) new.waiting.items new.is_limited in
    subst P (sym c.counts_position-inclusive.ensures) kept

pub search-requires-clause-held : goal.search-requires-clause-held
search-requires-clause-held g c =
    let moment = g.T.CronDateTime.moment in
    let old = c.args.self.now in
    let new = c.begin.new.self in
    let begun = c.in_ok-begin.ensures in
    let inclusive = c.counts_position-inclusive.result in
    let H : Bool → g.row.T.Denot → Type 0 = λ b run. IsHeld moment (patterns_of old.table.now) old.direction b (moment old.position) run (heap_items new.dues) new.waiting.items in
    let P : Bool → Type 0 = λ b. (run : g.row.T.Denot) → new.found ≡ Some run → H b run in
    if_some new.found (H inclusive) (subst P (sym c.counts_position-inclusive.ensures)
    (held_either moment (patterns_of old.table.now) old.direction (old.is_first && old.inclusive) (moment old.position) old.kept new old.held begun.kept begun.unheld))

pub invariant_of-self-clause-known : goal.invariant_of-self-clause-known
invariant_of-self-clause-known g c =
    let moment = g.T.CronDateTime.moment in
    let old = c.args.self.now in
    let new = c.begin.new.self in
    let begin = c.begin.ensures in
    begun_by moment (patterns_of old.table.now) old.direction (old.is_first && old.inclusive) (moment old.position) old.kept new c.len.result c.begin.result c.len.ensures
    old.known begin.kept begin.none begin.below begin.once begin.other begin.refused

pub invariant_of-self-2-clause-known : goal.invariant_of-self-2-clause-known
invariant_of-self-2-clause-known g c = λ begun.
    let moment = g.T.CronDateTime.moment in
    let old = c.args.self.now in
    let new = c.search.new.kept in
    let P : Bool → Type 0 = λ b. AreKept moment (patterns_of old.table.now) old.direction b (moment old.position) (heap_items new.dues) new.waiting.items new.is_limited in
    subst P c.counts_position-inclusive.ensures c.search.ensures.kept

pub invariant_of-self-clause-held : goal.invariant_of-self-clause-held
invariant_of-self-clause-held g c =
    let moment = g.T.CronDateTime.moment in
    let old = c.args.self.now in
    let begin = c.begin.ensures in
    held_by moment (patterns_of old.table.now) old.direction (old.is_first && old.inclusive) (moment old.position) old.kept c.begin.new.self c.begin.result old.held begin.kept begin.unheld begin.refused

pub invariant_of-self-2-clause-held : goal.invariant_of-self-2-clause-held
invariant_of-self-2-clause-held g c = λ begun.
    let moment = g.T.CronDateTime.moment in
    let old = c.args.self.now in
    let new = c.search.new.kept in
    let H : Bool → g.row.T.Denot → Type 0 = λ b run. IsHeld moment (patterns_of old.table.now) old.direction b (moment old.position) run (heap_items new.dues) new.waiting.items in
    let P : Bool → Type 0 = λ b. (run : g.row.T.Denot) → new.found ≡ Some run → H b run in
    subst P c.counts_position-inclusive.ensures (some_of new.found (H c.counts_position-inclusive.result) c.search.ensures.held)
