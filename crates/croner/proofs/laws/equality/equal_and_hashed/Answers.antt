use Rattle.std.proofs.Common.{rules, ◌≡◌, ◌∙◌, ap, sym}
use Rattle.std.specs.Ordering.{eq_by_cmp}
use Rattle.croner_pattern.specs.Order.{pattern_cmp}
use Rattle.croner_pattern.specs.Written.{pattern_writes, patterns_alike}
use Rattle.croner.specs.laws.Equality.{hash_of_writes}
use Rattle.croner.specs.Views.{job_of}
use Rattle.croner.proofs.laws.EqualJobs.{answers_same}
use Rattle.croner.proofs.laws.equality.equal_and_hashed.Goals as goal

pub returns-clause-equal : goal.returns-clause-equal
returns-clause-equal c =
    let e : c.eq.result ≡ eq_by_cmp pattern_cmp c.args.one.now.pattern c.args.other.now.pattern = search rules in
    answers_same (job_of c.args.one.now) (job_of c.args.other.now) c.eq.result e

pub returns-clause-fed : goal.returns-clause-fed
returns-clause-fed c = λ h.
    let e : c.eq.result ≡ eq_by_cmp pattern_cmp c.args.one.now.pattern c.args.other.now.pattern = search rules in
    patterns_alike c.args.one.now.pattern c.args.other.now.pattern (sym e ∙ h)

pub returns-clause-hashes : goal.returns-clause-hashes
returns-clause-hashes c = λ h.
    let one : c.hash_of.result ≡ hash_of_writes (pattern_writes c.args.one.now.pattern) = c.hash_of.ensures in
    let other : c.hash_of-2.result ≡ hash_of_writes (pattern_writes c.args.other.now.pattern) = c.hash_of-2.ensures in
    one ∙ ap hash_of_writes (returns-clause-fed c h) ∙ sym other
