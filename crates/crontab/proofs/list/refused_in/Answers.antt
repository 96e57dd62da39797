use Rattle.std.proofs.Common.{rules, ◌≡◌, ◌≤◌, ◌+◌, ◌==◌, length, true, false, Some, None, arith, Fits, w64}
use Rattle.std.proofs.lemmas.List.{length_push}
use Rattle.std.proofs.lemmas.Iterator.Splits.{YieldsList-from_slice_split}
use Rattle.std.proofs.lemmas.Iterator.Consumers.{YieldsList-turn, YieldsList-end}
use Rattle.std.specs.List.{slice_split}
use Rattle.crontab.specs.Bytes.{begins_with}
use Rattle.crontab.specs.Field.{part_of}
use Rattle.crontab.specs.List.{refused_in}
use Rattle.crontab.proofs.RefusedParts.{goes_first, ends_within, refused_whole, refused_ended, refused_none, goes_next, goes_end}
use Rattle.crontab.proofs.list.refused_in.Goals as goal

pub loop-piece-init : goal.loop-piece-init
loop-piece-init c = goes_first c.args.bounds c.args.field.now

pub returns-in_default-clause-place : goal.returns-in_default-clause-place
returns-in_default-clause-place c =
    let t = YieldsList-turn (YieldsList-from_slice_split _ (λ b. b == 44) c.args.field.now (cc) (cc) (cc) (λ x b q k. search rules)) c.loop-piece.yielded _ c.loop-piece.yielded_by _ _ c.in-Some.piece c.in-Some.is c.next.ensures.steps in
    let found : part_of c.args.bounds c.in-Some.piece.now ≡ None = search rules in
    refused_whole c.args.bounds (slice_split (λ b. b == 44) c.args.field.now) (length c.loop-piece.yielded) c.in-Some.piece.now (refused_in c.args.bounds c.args.field.now)
    (length c.args.field.now) c.loop-piece.start t.0 t.1 c.loop-piece.invariant found

pub returns-in_default-clause-within : goal.returns-in_default-clause-within
returns-in_default-clause-within c =
    let t = YieldsList-turn (YieldsList-from_slice_split _ (λ b. b == 44) c.args.field.now (cc) (cc) (cc) (λ x b q k. search rules)) c.loop-piece.yielded _ c.loop-piece.yielded_by _ _ c.in-Some.piece c.in-Some.is c.next.ensures.steps in
    ends_within c.args.bounds (slice_split (λ b. b == 44) c.args.field.now) (length c.loop-piece.yielded) c.in-Some.piece.now (refused_in c.args.bounds c.args.field.now)
    (length c.args.field.now) c.loop-piece.start t.0 t.1 c.loop-piece.invariant

pub returns-then-begins_with-clause-place : goal.returns-then-begins_with-clause-place
returns-then-begins_with-clause-place c =
    let t = YieldsList-turn (YieldsList-from_slice_split _ (λ b. b == 44) c.args.field.now (cc) (cc) (cc) (λ x b q k. search rules)) c.loop-piece.yielded _ c.loop-piece.yielded_by _ _ c.in-Some.piece c.in-Some.is c.next.ensures.steps in
    let found : part_of c.args.bounds c.in-Some.piece.now ≡ Some (c.in-Some-part_of.field-0-0, c.in-Some-part_of.tail.now) = search rules in
    let ends : begins_with 255 c.in-Some-part_of.tail.now ≡ true = search rules in
    refused_ended c.args.bounds (slice_split (λ b. b == 44) c.args.field.now) (length c.loop-piece.yielded) c.in-Some.piece.now (refused_in c.args.bounds c.args.field.now)
    (length c.args.field.now) c.loop-piece.start t.0 t.1 c.loop-piece.invariant c.in-Some-part_of.field-0-0 c.in-Some-part_of.tail.now found ends

pub returns-then-begins_with-clause-within : goal.returns-then-begins_with-clause-within
returns-then-begins_with-clause-within c =
    let t = YieldsList-turn (YieldsList-from_slice_split _ (λ b. b == 44) c.args.field.now (cc) (cc) (cc) (λ x b q k. search rules)) c.loop-piece.yielded _ c.loop-piece.yielded_by _ _ c.in-Some.piece c.in-Some.is c.next.ensures.steps in
    ends_within c.args.bounds (slice_split (λ b. b == 44) c.args.field.now) (length c.loop-piece.yielded) c.in-Some.piece.now (refused_in c.args.bounds c.args.field.now)
    (length c.args.field.now) c.loop-piece.start t.0 t.1 c.loop-piece.invariant

pub returns-then-not-is_empty-clause-place : goal.returns-then-not-is_empty-clause-place
returns-then-not-is_empty-clause-place c =
    let t = YieldsList-turn (YieldsList-from_slice_split _ (λ b. b == 44) c.args.field.now (cc) (cc) (cc) (λ x b q k. search rules)) c.loop-piece.yielded _ c.loop-piece.yielded_by _ _ c.in-Some.piece c.in-Some.is c.next.ensures.steps in
    let found : part_of c.args.bounds c.in-Some.piece.now ≡ Some (c.in-Some-part_of.field-0-0, c.in-Some-part_of.tail.now) = search rules in
    let goes_on : begins_with 255 c.in-Some-part_of.tail.now ≡ false = search rules in
    let some : (length c.in-Some-part_of.tail.now == 0) ≡ false = search rules in
    refused_none c.args.bounds (slice_split (λ b. b == 44) c.args.field.now) (length c.loop-piece.yielded) c.in-Some.piece.now (refused_in c.args.bounds c.args.field.now)
    (length c.args.field.now) c.loop-piece.start t.0 t.1 c.loop-piece.invariant c.in-Some-part_of.field-0-0 c.in-Some-part_of.tail.now found goes_on some

pub overflow_add-start : goal.overflow_add-start
overflow_add-start c =
    let t = YieldsList-turn (YieldsList-from_slice_split _ (λ b. b == 44) c.args.field.now (cc) (cc) (cc) (λ x b q k. search rules)) c.loop-piece.yielded _ c.loop-piece.yielded_by _ _ c.in-Some.piece c.in-Some.is c.next.ensures.steps in
    let within = ends_within c.args.bounds (slice_split (λ b. b == 44) c.args.field.now) (length c.loop-piece.yielded) c.in-Some.piece.now (refused_in c.args.bounds c.args.field.now)
    (length c.args.field.now) c.loop-piece.start t.0 t.1 c.loop-piece.invariant in
    let few : Fits w64 (length c.args.field.now + 1) = search rules in
    omega (arith, within, few)

pub loop-piece-preserved : goal.loop-piece-preserved
loop-piece-preserved c =
    let t = YieldsList-turn (YieldsList-from_slice_split _ (λ b. b == 44) c.args.field.now (cc) (cc) (cc) (λ x b q k. search rules)) c.loop-piece.yielded _ c.loop-piece.yielded_by _ _ c.in-Some.piece c.in-Some.is c.next.ensures.steps in
    let found : part_of c.args.bounds c.in-Some.piece.now ≡ Some (c.in-Some-part_of.field-0-0, c.in-Some-part_of.tail.now) = search rules in
    let goes_on : begins_with 255 c.in-Some-part_of.tail.now ≡ false = search rules in
    let none : (length c.in-Some-part_of.tail.now == 0) ≡ true = search rules in
    rw (length_push c.loop-piece.yielded c.in-Some.piece) (goes_next c.args.bounds (slice_split (λ b. b == 44) c.args.field.now) (length c.loop-piece.yielded) c.in-Some.piece.now (refused_in c.args.bounds c.args.field.now)
    (length c.args.field.now) c.loop-piece.start t.0 t.1 c.loop-piece.invariant c.in-Some-part_of.field-0-0 c.in-Some-part_of.tail.now found goes_on none)

pub returns-clause-place : goal.returns-clause-place
returns-clause-place c =
    let t = YieldsList-end (YieldsList-from_slice_split _ (λ b. b == 44) c.args.field.now (cc) (cc) (cc) (λ x b q k. search rules)) c.loop-piece.yielded _ c.loop-piece.yielded_by _ _ c.in-None.is c.next.ensures.steps in
    goes_end c.args.bounds (slice_split (λ b. b == 44) c.args.field.now) (length c.loop-piece.yielded) (refused_in c.args.bounds c.args.field.now) (length c.args.field.now) c.loop-piece.start t.1 c.loop-piece.invariant
