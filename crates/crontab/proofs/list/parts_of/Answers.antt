use Rattle.std.proofs.Common.{rules, ◌≡◌, ◌==◌, length, sym, true, false, Some, None}
use Rattle.std.proofs.lemmas.List.{length_push}
use Rattle.std.proofs.lemmas.Iterator.Splits.{YieldsList-from_slice_split}
use Rattle.std.proofs.lemmas.Iterator.Consumers.{YieldsList-turn, YieldsList-end}
use Rattle.std.specs.List.{slice_split}
use Rattle.crontab.specs.Bytes.{begins_with}
use Rattle.crontab.specs.Field.{part_of}
use Rattle.crontab.specs.List.{parts_of}
use Rattle.crontab.proofs.Parts.{follows_piece, follows_next, follows_last, follows_end_of_file, follows_end}
use Rattle.crontab.proofs.list.parts_of.Goals as goal

pub returns-in_default : goal.returns-in_default
returns-in_default c =
    let t = YieldsList-turn (YieldsList-from_slice_split _ (λ b. b == 44) c.args.field.now (cc) (cc) (cc) (λ x b q k. search rules)) c.loop-piece.yielded _ c.loop-piece.yielded_by _ _ c.in-Some.piece c.in-Some.is c.next.ensures.steps in
    let found : part_of c.args.bounds c.in-Some.piece.now ≡ None = search rules in
    sym (follows_piece c.args.bounds (slice_split (λ b. b == 44) c.args.field.now) (length c.loop-piece.yielded) c.in-Some.piece.now (parts_of c.args.bounds c.args.field.now) c.loop-piece.parts.items None t.0 t.1 found c.loop-piece.invariant)

pub returns-then-begins_with : goal.returns-then-begins_with
returns-then-begins_with c =
    let t = YieldsList-turn (YieldsList-from_slice_split _ (λ b. b == 44) c.args.field.now (cc) (cc) (cc) (λ x b q k. search rules)) c.loop-piece.yielded _ c.loop-piece.yielded_by _ _ c.in-Some.piece c.in-Some.is c.next.ensures.steps in
    let found : part_of c.args.bounds c.in-Some.piece.now ≡ Some (c.in-Some-part_of.part, c.in-Some-part_of.tail.now) = search rules in
    let ends : begins_with 255 c.in-Some-part_of.tail.now ≡ true = search rules in
    follows_end_of_file (parts_of c.args.bounds c.args.field.now) c.loop-piece.parts.items c.in-Some-part_of.part c.in-Some-part_of.tail.now _ ends (follows_piece c.args.bounds (slice_split (λ b. b == 44) c.args.field.now) (length c.loop-piece.yielded) c.in-Some.piece.now (parts_of c.args.bounds c.args.field.now) c.loop-piece.parts.items _ t.0 t.1 found c.loop-piece.invariant)

pub returns-then-not-is_empty : goal.returns-then-not-is_empty
returns-then-not-is_empty c =
    let t = YieldsList-turn (YieldsList-from_slice_split _ (λ b. b == 44) c.args.field.now (cc) (cc) (cc) (λ x b q k. search rules)) c.loop-piece.yielded _ c.loop-piece.yielded_by _ _ c.in-Some.piece c.in-Some.is c.next.ensures.steps in
    let found : part_of c.args.bounds c.in-Some.piece.now ≡ Some (c.in-Some-part_of.part, c.in-Some-part_of.tail.now) = search rules in
    let ends : begins_with 255 c.in-Some-part_of.tail.now ≡ false = search rules in
    let some : (length c.in-Some-part_of.tail.now == 0) ≡ false = search rules in
    rw c.in_ok-push.ensures.items (follows_last (parts_of c.args.bounds c.args.field.now) c.loop-piece.parts.items c.in-Some-part_of.part c.in-Some-part_of.tail.now _ ends some (follows_piece c.args.bounds (slice_split (λ b. b == 44) c.args.field.now) (length c.loop-piece.yielded) c.in-Some.piece.now (parts_of c.args.bounds c.args.field.now) c.loop-piece.parts.items _ t.0 t.1 found c.loop-piece.invariant))

pub loop-piece-preserved : goal.loop-piece-preserved
loop-piece-preserved c =
    let t = YieldsList-turn (YieldsList-from_slice_split _ (λ b. b == 44) c.args.field.now (cc) (cc) (cc) (λ x b q k. search rules)) c.loop-piece.yielded _ c.loop-piece.yielded_by _ _ c.in-Some.piece c.in-Some.is c.next.ensures.steps in
    let found : part_of c.args.bounds c.in-Some.piece.now ≡ Some (c.in-Some-part_of.part, c.in-Some-part_of.tail.now) = search rules in
    let ends : begins_with 255 c.in-Some-part_of.tail.now ≡ false = search rules in
    let none : (length c.in-Some-part_of.tail.now == 0) ≡ true = search rules in
    rw (c.in_ok-push.ensures.items, length_push c.loop-piece.yielded c.in-Some.piece) (follows_next (parts_of c.args.bounds c.args.field.now) c.loop-piece.parts.items c.in-Some-part_of.part c.in-Some-part_of.tail.now _ ends none (follows_piece c.args.bounds (slice_split (λ b. b == 44) c.args.field.now) (length c.loop-piece.yielded) c.in-Some.piece.now (parts_of c.args.bounds c.args.field.now) c.loop-piece.parts.items _ t.0 t.1 found c.loop-piece.invariant))

pub returns : goal.returns
returns c =
    let t = YieldsList-end (YieldsList-from_slice_split _ (λ b. b == 44) c.args.field.now (cc) (cc) (cc) (λ x b q k. search rules)) c.loop-piece.yielded _ c.loop-piece.yielded_by _ _ c.in-None.is c.next.ensures.steps in
    follows_end c.args.bounds (slice_split (λ b. b == 44) c.args.field.now) (length c.loop-piece.yielded) (parts_of c.args.bounds c.args.field.now) c.loop-piece.parts.items t.1 c.loop-piece.invariant
