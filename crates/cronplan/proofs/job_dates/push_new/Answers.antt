use Rattle.std.proofs.Common.{◌≡◌, ◌∙◌, ℕ, ℤ, Bool, true, false, cond, ap, sym, subst}
use Rattle.std.specs.Bool.{OnFalse}
use Rattle.std.specs.BTreeMap.{is_at}
use Rattle.std.specs.BTreeSet.{contains}
use Rattle.std.proofs.lemmas.Bool.{not-true, not-false}
use Rattle.cronplan.specs.Private.Once.{key_cmp, key_of}
use Rattle.cronplan.proofs.FoundOnce.{seen_kept, seen_more}
use Rattle.cronplan.proofs.job_dates.push_new.Goals as goal

pub returns-in_ok-push : goal.returns-in_ok-push
returns-in_ok-push c = λ seen.
    let old = c.args.seen.now in
    let absent : contains key_cmp old (key_of c.args.per c.args.start.now) ≡ false =
    ap (contains key_cmp old) (sym c.key_of.ensures) ∙ not-true (contains key_cmp old c.key_of.result) (sym c.in_ok-insert.ensures.added ∙ c.if-branch.true) in
    seen_more c.args.per c.args.start.now old c.insert.new.self c.args.found.now.items c.push.new.self.items seen absent
    (λ key. c.in_ok-insert.ensures.updates.0 key ∙ ap (λ (k : ℤ × ℕ). cond (is_at (key_cmp k) key) true (contains key_cmp old key)) c.key_of.ensures) c.in_ok-push.ensures.items

pub returns-else-branch : goal.returns-else-branch
returns-else-branch c = λ seen.
    let old = c.args.seen.now in
    let had : contains key_cmp old (key_of c.args.per c.args.start.now) ≡ true =
    ap (contains key_cmp old) (sym c.key_of.ensures) ∙ not-false (contains key_cmp old c.key_of.result) (sym c.in_ok-insert.ensures.added ∙ c.if-branch.false) in
    seen_kept c.args.per c.args.start.now old c.insert.new.self c.args.found.now.items seen had
    (subst (λ (b : Bool). OnFalse b (c.insert.new.self.keys ≡ old.keys)) c.if-branch.false c.in_ok-insert.ensures.unchanged)
