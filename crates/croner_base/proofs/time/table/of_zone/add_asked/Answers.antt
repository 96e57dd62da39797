use Rattle.std.proofs.Common.{◌≡◌, ◌∙◌, sym, refl, arith, rules, FitsSigned, w64, w32, to_z, to_z-of_z, of_z, ap, ℤ, List, [], ◌∷◌, ◌++◌, append_assoc, append-nil}
use Rattle.std.proofs.lemmas.Int.{ints}
use Rattle.jiff_core.proofs.SignedLemmas.{signed_arith}
use Rattle.croner_base.specs.Private.ZoneSteps.{IsReading, IsNextQuestion}
use Rattle.croner_base.specs.ZoneTable.{ahead_at, window_changes}
use Rattle.croner_base.specs.declared.time.table.of_zone.Reading.{Reading}
use Rattle.jiff_tz.specs.declared.timezone.TimeZone.{TimeZone}
use Rattle.croner_base.proofs.zones.ZoneChanges.{no_changes, changes_kept, changes_added}
use Rattle.croner_base.proofs.time.table.of_zone.add_asked.Goals as goal

-- nothing is added yet
none_added : (items none : List (ℤ × ℤ)) → none ≡ [] → items ≡ items ++ none
none_added items none e = sym (ap (λ l. items ++ l) e ∙ append-nil items)

-- one change more after those that were there
added_behind : (old items all more : List (ℤ × ℤ)) (change : ℤ × ℤ) → items ≡ old ++ all → more ≡ all ++ change ∷ [] → items ++ change ∷ [] ≡ old ++ more
added_behind old items all more change h m = ap (λ l. l ++ change ∷ []) h ∙ append_assoc old all (change ∷ []) ∙ ap (λ l. old ++ l) (sym m)

-- what is shown at a second is shown at its own
own_second : (tz : TimeZone) (i : ℤ) (s : Reading) → IsReading tz i s → IsReading tz s.second s
own_second tz i s h = record { second_is = refl; ahead_is = h.ahead_is ∙ ap (ahead_at tz) (sym h.second_is) }

own_question : (tz : TimeZone) (a last i : ℤ) (s : Reading) → IsReading tz i s → IsNextQuestion tz a last i → IsNextQuestion tz a last s.second
own_question tz a last i s h q = rw h.second_is q

pub loop-shown-init : goal.loop-shown-init
loop-shown-init c =
    let f : FitsSigned w64 c.args.first = c.ranges.first in
    let g : FitsSigned w64 c.args.last = c.ranges.last in
    let is = simp to_z-of_z at c.reading_at-shown.ensures in
    let order = c.requires.order in
    simp to_z-of_z (record {
      shown = own_second c.args.zone c.args.first c.reading_at-shown.result is;
      from = omega (arith, signed_arith, is.second_is);
      until = omega (arith, signed_arith, is.second_is, order);
      items = none_added c.args.changes.now.items (window_changes c.args.zone c.args.first c.reading_at-shown.result.second) (no_changes (ahead_at c.args.zone) c.args.first c.reading_at-shown.result.second is.second_is);
    })

pub loop-shown-preserved-in_ok-push : goal.loop-shown-preserved-in_ok-push
loop-shown-preserved-in_ok-push c =
    let tz = c.args.zone in
    let first = c.args.first in
    let last = c.args.last in
    let now = c.loop-shown.shown in
    let next = c.reading_at-next.result in
    let f : FitsSigned w64 first = c.ranges.first in
    let g : FitsSigned w64 last = c.ranges.last in
    let i = simp to_z-of_z at c.loop-shown.invariant in
    let fs : FitsSigned w64 now.second = omega (arith, ints, f, g, i.from, i.until) in
    let fq : FitsSigned w64 c.next_question.result = omega (arith, ints, c.next_question.type_inv) in
    let q = simp to_z-of_z at c.next_question.ensures in
    let b = simp to_z-of_z at c.reading_at-next.ensures in
    let on = own_question tz now.second last c.next_question.result next b q in
    let own = own_second tz c.next_question.result next b in
    let fn : FitsSigned w64 next.second = search rules in
    let fa : FitsSigned w32 next.ahead = search rules in
    let items = simp to_z-of_z at c.in_ok-push.ensures.items in
    simp to_z-of_z (record {
      shown = own;
      from = omega (arith, signed_arith, i.from, on.later);
      until = on.within;
      items = items ∙ added_behind c.args.changes.now.items c.loop-shown.changes.items (window_changes tz first now.second) (window_changes tz first next.second) (next.second, next.ahead) i.items (changes_added tz first last now.second next.second now.ahead next.ahead i.from on i.shown.ahead_is own.ahead_is (λ e. c.if-next-shown.true (ap (λ z. of_z w32 z) e)));
    })

pub loop-shown-preserved : goal.loop-shown-preserved
loop-shown-preserved c =
    let tz = c.args.zone in
    let first = c.args.first in
    let last = c.args.last in
    let now = c.loop-shown.shown in
    let next = c.reading_at-next.result in
    let f : FitsSigned w64 first = c.ranges.first in
    let g : FitsSigned w64 last = c.ranges.last in
    let i = simp to_z-of_z at c.loop-shown.invariant in
    let fs : FitsSigned w64 now.second = omega (arith, ints, f, g, i.from, i.until) in
    let fq : FitsSigned w64 c.next_question.result = omega (arith, ints, c.next_question.type_inv) in
    let fa : FitsSigned w32 next.ahead = search rules in
    let fb : FitsSigned w32 now.ahead = search rules in
    let q = simp to_z-of_z at c.next_question.ensures in
    let b = simp to_z-of_z at c.reading_at-next.ensures in
    let on = own_question tz now.second last c.next_question.result next b q in
    let own = own_second tz c.next_question.result next b in
    let same : next.ahead ≡ now.ahead = sym (to_z-of_z fa) ∙ ap (λ n. to_z w32 n) c.if-next-shown.false ∙ to_z-of_z fb in
    simp to_z-of_z (record {
      shown = own;
      from = omega (arith, signed_arith, i.from, on.later);
      until = on.within;
      items = i.items ∙ ap (λ l. c.args.changes.now.items ++ l) (changes_kept tz first last now.second next.second now.ahead next.ahead i.from on i.shown.ahead_is own.ahead_is same);
    })
