use Rattle.std.proofs.Common.{rules, ◌≡◌, ℤ, sym, ap, ◌∙◌, subst, true, cond, Result, Ok, Err, IsOk, OnOk, w64, SFits}
use Rattle.std.proofs.lemmas.Bool.{false≢true}
use Rattle.std.proofs.lemmas.Int.{to_z-of_z}
use Rattle.std.specs.BinaryHeap.{heap_items}
use Rattle.croner_scheduler.proofs.TurnOrder.{with_turn}
use Rattle.croner_scheduler.specs.Private.Turns.{has_turn, is_turn, is_next_turn}
use Rattle.croner_scheduler.proofs.turns.put.Goals as goal

of_ok : {A E : Type 0} (P : Type 0) (r : Result A E) → IsOk r → OnOk r P → P
of_ok P (Ok a) is h = h
of_ok P (Err e) is h = absurd (false≢true is)

pub returns-in-Run-clause-put : goal.returns-in-Run-clause-put
returns-in-Run-clause-put c second other =
    let run = c.in-Run.second in
    let fits : SFits w64 run = search rules in
    let old = heap_items c.args.turns.now in
    let new = heap_items c.push.new.self in
    subst (λ (z : ℤ). has_turn new second other ≡ cond (is_turn z c.args.id second other) true (has_turn old second other)) (to_z-of_z w64 run fits)
    (with_turn _ old new (of_ok _ c.push.result (c.push.ensures.succeeds c.requires) c.push.ensures.permutation) second other)
    ∙ ap (λ n. cond (is_next_turn n c.args.id second other) true (has_turn old second other)) (sym c.in-Run.is)
