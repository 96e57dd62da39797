use Rattle.std.proofs.Common.{rules, ◌<◌, ◌^◌, length, lit<, arith, eqb}
use Rattle.std.proofs.lemmas.List.{length_push}
use Rattle.std.proofs.lemmas.List.Splits.{length-slice_split}
use Rattle.std.proofs.lemmas.List.Sums.{count_by-le-length}
use Rattle.std.proofs.lemmas.Iterator.Splits.{YieldsList-from_str_split}
use Rattle.std.proofs.lemmas.Iterator.Consumers.{YieldsList-turn, YieldsList-end}
use Rattle.croner_base.specs.Part.{pieces_at}
use Rattle.croner_base.proofs.fields.PartsInTurn.{IsNextPiece, parts-next, parts-fault, parts-end}
use Rattle.croner_base.proofs.component.CronComponent.parse_list.Goals as goal

pub overflow_add-number : goal.overflow_add-number
overflow_add-number c =
    let t = YieldsList-turn (YieldsList-from_str_split 44 c.args.list.now (lit< tt) (cc) (cc) (cc)) c.loop-part.yielded _ c.loop-part.yielded_by _ _ c.in-Some.part c.in-Some.is c.next.ensures.steps in
    let within : length c.loop-part.yielded < length (pieces_at 44 c.args.list.now) = t.0 in
    let small : length c.args.list.now < 2 ^ 63 = search rules in
    omega (arith, within, small, c.loop-part.invariant.number, length-slice_split (λ b. eqb b 44) c.args.list.now, count_by-le-length (λ b. eqb b 44) c.args.list.now)

pub loop-part-preserved : goal.loop-part-preserved
loop-part-preserved c =
    let t = YieldsList-turn (YieldsList-from_str_split 44 c.args.list.now (lit< tt) (cc) (cc) (cc)) c.loop-part.yielded _ c.loop-part.yielded_by _ _ c.in-Some.part c.in-Some.is c.next.ensures.steps in
    let next : IsNextPiece (pieces_at 44 c.args.list.now) (length c.loop-part.yielded) c.in-Some.part.now = record { within = t.0; is = t.1 } in
    rw (length_push c.loop-part.yielded c.in-Some.part) (record {
      number = omega (arith, c.loop-part.invariant.number);
      read = parts-next c.args.self.now.shape (pieces_at 44 c.args.list.now) (length c.loop-part.yielded) c.in-Some.part.now c.trim.result.now next c.trim.ensures.trim (search rules) c.loop-part.invariant.read;
    })

pub returns-in-Err : goal.returns-in-Err
returns-in-Err c =
    let t = YieldsList-turn (YieldsList-from_str_split 44 c.args.list.now (lit< tt) (cc) (cc) (cc)) c.loop-part.yielded _ c.loop-part.yielded_by _ _ c.in-Some.part c.in-Some.is c.next.ensures.steps in
    let next : IsNextPiece (pieces_at 44 c.args.list.now) (length c.loop-part.yielded) c.in-Some.part.now = record { within = t.0; is = t.1 } in
    parts-fault c.args.self.now.shape (pieces_at 44 c.args.list.now) (length c.loop-part.yielded) c.in-Some.part.now c.trim.result.now next c.trim.ensures.trim (search rules) c.loop-part.invariant.number c.loop-part.invariant.read

pub returns : goal.returns
returns c =
    let t = YieldsList-end (YieldsList-from_str_split 44 c.args.list.now (lit< tt) (cc) (cc) (cc)) c.loop-part.yielded _ c.loop-part.yielded_by _ _ c.in-None.is c.next.ensures.steps in
    parts-end c.args.self.now.shape (pieces_at 44 c.args.list.now) (length c.loop-part.yielded) t.1 c.loop-part.invariant.read
