use Rattle.std.proofs.Common.{rules, ◌≡◌, ◌==◌, length, true, false, lit<}
use Rattle.std.proofs.lemmas.List.{length_push}
use Rattle.std.proofs.lemmas.Iterator.Splits.{YieldsList-from_str_split}
use Rattle.std.proofs.lemmas.Iterator.Consumers.{YieldsList-turn, YieldsList-end}
use Rattle.std.specs.List.{slice_split}
use Rattle.croner_presets.specs.Parts.{is_of, has_part}
use Rattle.croner_presets.proofs.Items.{any_here, any_next, any_end}
use Rattle.croner_presets.proofs.part.has_part.Goals as goal

pub returns-then-is_of : goal.returns-then-is_of
returns-then-is_of c =
    let t = YieldsList-turn (YieldsList-from_str_split 44 c.args.field.now (lit< tt) (cc) (cc) (cc)) c.loop-part.yielded _ c.loop-part.yielded_by _ _ c.in-Some.part c.in-Some.is c.next.ensures.steps in
    let e : is_of c.args.form c.in-Some.part.now ≡ true = search rules in
    any_here (is_of c.args.form) (slice_split (λ b. b == 44) c.args.field.now) (length c.loop-part.yielded) c.in-Some.part.now (has_part c.args.form c.args.field.now) t.0 t.1 e c.loop-part.invariant

pub loop-part-preserved : goal.loop-part-preserved
loop-part-preserved c =
    let t = YieldsList-turn (YieldsList-from_str_split 44 c.args.field.now (lit< tt) (cc) (cc) (cc)) c.loop-part.yielded _ c.loop-part.yielded_by _ _ c.in-Some.part c.in-Some.is c.next.ensures.steps in
    let e : is_of c.args.form c.in-Some.part.now ≡ false = search rules in
    rw (length_push c.loop-part.yielded c.in-Some.part) (any_next (is_of c.args.form) (slice_split (λ b. b == 44) c.args.field.now) (length c.loop-part.yielded) c.in-Some.part.now (has_part c.args.form c.args.field.now) t.0 t.1 e c.loop-part.invariant)

pub returns : goal.returns
returns c =
    let t = YieldsList-end (YieldsList-from_str_split 44 c.args.field.now (lit< tt) (cc) (cc) (cc)) c.loop-part.yielded _ c.loop-part.yielded_by _ _ c.in-None.is c.next.ensures.steps in
    any_end (is_of c.args.form) (slice_split (λ b. b == 44) c.args.field.now) (length c.loop-part.yielded) (has_part c.args.form c.args.field.now) t.1 c.loop-part.invariant
