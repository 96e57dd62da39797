use Rattle.std.proofs.Common.{◌≡◌, ◌<◌, ℕ, ℤ, pos, List, length, get_or, refl, sym, subst, w64, FitsSigned, rules, arith}
use Rattle.std.proofs.lemmas.Int.{to_z-of_z}
use Rattle.croner_base.specs.TableZone.{table_zone}
use Rattle.croner.specs.Views.{job_of}
use Rattle.croncheck_changes.specs.Changes.{MeetsFirst}
use Rattle.croncheck_changes.specs.declared.changes.Change.{Change}
use Rattle.croncheck_changes.specs.Private.Met.{IsNoneIn}
use Rattle.croncheck_changes.proofs.WatchedYears.{in_years}
use Rattle.croncheck_changes.proofs.Meetings.{IsNoneOf, none_more, none_meets, first_meets, told_at, read_at}
use Rattle.croncheck_changes.proofs.changes.Changes.first_meeting.Goals as goal

-- what stands for a change past the end
abbrev nothing : Change
nothing = record { instant = pos 0; before = pos 0; after = pos 0 }

pub second_in-requires : goal.second_in-requires
second_in-requires c =
    let me = c.args.self.now in
    in_years me.start (get_or c.deref-change-items.result.now c.loop-change.change-index nothing)
    (told_at me.start me.items.items c.deref-change-items.result.now c.loop-change.change-index nothing c.deref-change-items.ensures.value me.all c.loop-change-test.true)

pub fate_of-requires-clause-years : goal.fate_of-requires-clause-years
fate_of-requires-clause-years c =
    let me = c.args.self.now in
    in_years me.start (get_or c.deref-change-items.result.now c.loop-change.change-index nothing)
    (told_at me.start me.items.items c.deref-change-items.result.now c.loop-change.change-index nothing c.deref-change-items.ensures.value me.all c.loop-change-test.true)

pub fate_of-requires-clause-told : goal.fate_of-requires-clause-told
fate_of-requires-clause-told c =
    let me = c.args.self.now in
    told_at me.start me.items.items c.deref-change-items.result.now c.loop-change.change-index nothing c.deref-change-items.ensures.value me.all c.loop-change-test.true

pub returns-in-Some : goal.returns-in-Some
returns-in-Some c =
    let me = c.args.self.now in
    let z = table_zone me.start.table.now in
    let m = job_of c.args.job.now in
    let items = me.items.items in
    let read = c.deref-change-items.result.now in
    let n = c.loop-change.change-index in
    let same = c.deref-change-items.ensures.value in
    let item = get_or read n nothing in
    let inside : n < length items = subst (λ (xs : List Change). n < length xs) same c.loop-change-test.true in
    let fits : FitsSigned w64 c.in-Some.second = search rules in
    let met = first_meets z me.start.second c.args.runner m c.args.range items n item c.in-Some.second (sym c.if-is_never_met.ensures) me.all c.loop-change.invariant inside
    (read_at items read n nothing same c.loop-change-test.true) c.in-Some.ensures in
    record {
      range_is = refl;
      first = subst (λ (w : ℤ). MeetsFirst z me.start.second c.args.runner m c.args.range item w) (sym (to_z-of_z w64 c.in-Some.second fits)) met;
      fate = c.fate_of.ensures;
    }

pub loop-change-preserved : goal.loop-change-preserved
loop-change-preserved c =
    let me = c.args.self.now in
    let m = job_of c.args.job.now in
    let read = c.deref-change-items.result.now in
    let n = c.loop-change.change-index in
    let at = read_at me.items.items read n nothing c.deref-change-items.ensures.value c.loop-change-test.true in
    none_more m c.args.range me.items.items n c.loop-change.invariant (λ d. subst (λ (x : Change). IsNoneIn m c.args.range x) (sym (at d)) c.in_default.ensures)

pub returns : goal.returns
returns c =
    let me = c.args.self.now in
    let m = job_of c.args.job.now in
    let all : c.loop-change.change-index ≡ length me.items.items =
    subst (λ (xs : List Change). c.loop-change.change-index ≡ length xs) c.deref-change-items.ensures.value (omega (arith, c.loop-change-test.false, c.loop-change.auto.change-index-end)) in
    none_meets (table_zone me.start.table.now) me.start.second c.args.runner m c.args.range me.items.items me.all
    (subst (λ (k : ℕ). IsNoneOf m c.args.range me.items.items k) all c.loop-change.invariant)
