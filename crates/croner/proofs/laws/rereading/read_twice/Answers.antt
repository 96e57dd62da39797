use Rattle.std.proofs.Common.{◌≡◌, ◌∙◌, ap, subst, Ok}
use Rattle.std.specs.Cmp.{tied_itself}
use Rattle.std.specs.Ordering.{eq_by_cmp, is_eq}
use Rattle.std.specs.Str.{IsUtf8}
use Rattle.croner_pattern.specs.Order.{meaning_cmp, meaning_cmp_total}
use Rattle.croner.specs.parser.Gives.{Fails}
use Rattle.croner.specs.parser.Grammar.{outcome}
use Rattle.croner.specs.Views.{job_of}
use Rattle.croner.proofs.laws.ReadAgain.{read_same, fails_first}
use Rattle.croner.proofs.zone.ErrorsKept.{error_kept}
use Rattle.croner.proofs.laws.rereading.read_twice.Goals as goal

pub returns-clause-same : goal.returns-clause-same
returns-clause-same c =
    let s = c.args.parser.now in
    let first = job_of c.in_ok-first.first in
    let read : outcome s c.args.text.now ≡ Ok first = c.in_ok-first.ensures in
    let again : outcome s first.text ≡ Ok (job_of c.in_ok-second.second) =
    subst (λ t. outcome s t ≡ Ok (job_of c.in_ok-second.second)) c.as_str.ensures c.in_ok-second.ensures in
    let is_text : IsUtf8 first.text = subst IsUtf8 c.as_str.ensures c.as_str.utf8 in
    read_same s c.args.text.now first (job_of c.in_ok-second.second) c.utf8.text is_text read again

pub returns-clause-equal : goal.returns-clause-equal
returns-clause-equal c =
    let first = job_of c.in_ok-first.first in
    ap (λ m. eq_by_cmp meaning_cmp first m) (returns-clause-same c) ∙ ap is_eq (tied_itself meaning_cmp_total first)

pub returns-in_err-second-clause-err : goal.returns-in_err-second-clause-err
returns-in_err-second-clause-err c =
    let e = c.in_err-second.field-0.0 in
    let s = c.args.parser.now in
    let first = job_of c.in_ok-first.first in
    let read : outcome s c.args.text.now ≡ Ok first = c.in_ok-first.ensures in
    let is_text : IsUtf8 first.text = subst IsUtf8 c.as_str.ensures c.as_str.utf8 in
    let fails : Fails e (outcome s first.text) =
    subst (λ t. Fails e (outcome s t)) c.as_str.ensures c.in_err-second.ensures in
    error_kept c.from_residual-in_err-second.result e _ c.from_residual-in_err-second.ensures.1 (fails_first s c.args.text.now first e c.utf8.text is_text read fails)
