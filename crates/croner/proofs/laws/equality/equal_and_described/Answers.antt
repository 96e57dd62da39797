use Rattle.std.proofs.Common.{rules, ◌≡◌, ◌∙◌, ap, sym, string_bytes}
use Rattle.std.specs.Ordering.{eq_by_cmp}
use Rattle.croner_pattern.specs.Description.{description}
use Rattle.croner_pattern.specs.Order.{pattern_cmp}
use Rattle.croner.specs.Views.{job_of}
use Rattle.croner.proofs.laws.EqualJobs.{answers_same}
use Rattle.croner.proofs.laws.equality.equal_and_described.Goals as goal

pub returns-clause-equal : goal.returns-clause-equal
returns-clause-equal g c =
    let e : c.eq.result ≡ eq_by_cmp pattern_cmp c.args.one.now.pattern c.args.other.now.pattern = search rules in
    answers_same (job_of c.args.one.now) (job_of c.args.other.now) c.eq.result e

pub returns-clause-same : goal.returns-clause-same
returns-clause-same g c = λ h.
    let w = g.L.Language.meaning c.args.language.now in
    let one : string_bytes c.in_ok-text.text ≡ description w (job_of c.args.one.now) = search rules in
    let other : string_bytes c.in_ok-other_text.other_text ≡ description w (job_of c.args.other.now) = search rules in
    one ∙ ap (description w) (sym ((returns-clause-equal g c).0 h)) ∙ sym other
