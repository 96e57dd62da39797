use Rattle.std.proofs.Common.{inl, inr}
use Rattle.croner.specs.Private.search.Sought.{start_of}
use Rattle.croner.proofs.zone.ErrorsKept.{error_kept}
use Rattle.croner.proofs.zone.HalfEdges.{refuted, start_within, start_outside}
use Rattle.croner.proofs.zone.SearchLimit.{limit_alone, limit_late, second_found, limit_twice, second_error, own_error, refused_limit, refused_half, refused_backend, none_outside}
use Rattle.croner.proofs.search.Search.after_limit.Goals as goal

pub returns-then-not-counts_both-clause-refused : goal.returns-then-not-counts_both-clause-refused
returns-then-not-counts_both-clause-refused g c =
    refused_limit _ _ _ _ _ (limit_alone g.T.CronDateTime.moment _ _ _ _ (λ h. inl (refuted _ _ c.if-not-counts_both.true c.counts_both.ensures)) c.requires.out)

pub returns-then-not-is_within-clause-refused : goal.returns-then-not-is_within-clause-refused
returns-then-not-is_within-clause-refused g c =
    refused_limit _ _ _ _ _ (λ calm. none_outside _ _ _ _ (start_outside _ (start_of g.T.CronDateTime.moment c.args.self.now) _ _ c.if-not-is_within.true c.requires.shown c.is_within.ensures))

pub returns-in_err-edge-clause-refused : goal.returns-in_err-edge-clause-refused
returns-in_err-edge-clause-refused g c =
    let within = start_within _ (start_of g.T.CronDateTime.moment c.args.self.now) _ _ c.if-not-is_within.false c.requires.shown c.is_within.ensures in
    error_kept c.from_residual.result c.in_err-edge.field-0.0 _ c.from_residual.ensures.1 (refused_half _ _ _ _ _ _ (λ past. past.0 within) c.in_err-edge.ensures.err)

pub returns-in_default-clause-refused : goal.returns-in_default-clause-refused
returns-in_default-clause-refused g c =
    let none = rw c.in_default.is at c.in_ok-edge.ensures.value in
    refused_limit _ _ _ _ _ (limit_alone g.T.CronDateTime.moment _ _ _ _ (λ h. inr (none h)) c.requires.out)

pub returns-in_err-own_last-clause-refused : goal.returns-in_err-own_last-clause-refused
returns-in_err-own_last-clause-refused g c =
    let half = rw c.in-Some.is at c.in_ok-edge.ensures.value in
    let within = start_within _ (start_of g.T.CronDateTime.moment c.args.self.now) _ _ c.if-not-is_within.false c.requires.shown c.is_within.ensures in
    error_kept c.from_residual-in_err-own_last.result c.in_err-own_last.field-0.0 _ c.from_residual-in_err-own_last.ensures.1
    (refused_backend _ _ _ _ _ _ (λ past. past.0 within)
    (own_error g.T.CronDateTime.moment c.args.self.now.direction _ (start_of g.T.CronDateTime.moment c.args.self.now) _ _ _ c.opposite_way.ensures half c.in_err-own_last.ensures.err))

pub returns-then-not-is_within-2-clause-refused : goal.returns-then-not-is_within-2-clause-refused
returns-then-not-is_within-2-clause-refused g c =
    let half = rw c.in-Some.is at c.in_ok-edge.ensures.value in
    refused_limit _ _ _ _ _ (limit_late g.T.CronDateTime.moment _ _ _ _ _ (c.counts_both.ensures.0 c.if-not-counts_both.false) half c.in_ok-own_last.own_last _ c.opposite_way.ensures c.in_ok-own_last.ensures.value (start_outside _ (g.T.CronDateTime.moment c.in_ok-own_last.own_last) _ _ c.if-not-is_within-2.true c.to_civil.ensures c.is_within-2.ensures) c.requires.out)

pub returns-clause-found : goal.returns-clause-found
returns-clause-found g c =
    let half = rw c.in-Some.is at c.in_ok-edge.ensures.value in
    let there = rw c.in-Some-2.is at c.in_ok-run.ensures.value in
    let within = start_within _ (start_of g.T.CronDateTime.moment c.args.self.now) _ _ c.if-not-is_within.false c.requires.shown c.is_within.ensures in
    second_found g.T.CronDateTime.moment _ _ _ _ _ (c.counts_both.ensures.0 c.if-not-counts_both.false) half c.in_ok-own_last.own_last _ c.opposite_way.ensures c.in_ok-own_last.ensures.value (λ past. past.0 within) _ (start_within _ (g.T.CronDateTime.moment c.in_ok-own_last.own_last) _ _ c.if-not-is_within-2.false c.to_civil.ensures c.is_within-2.ensures) c.requires.out there

pub returns-in_err-run-clause-refused : goal.returns-in_err-run-clause-refused
returns-in_err-run-clause-refused g c =
    let half = rw c.in-Some.is at c.in_ok-edge.ensures.value in
    let within = start_within _ (start_of g.T.CronDateTime.moment c.args.self.now) _ _ c.if-not-is_within.false c.requires.shown c.is_within.ensures in
    error_kept c.from_residual-in_err-run.result c.in_err-run.field-0.0 _ c.from_residual-in_err-run.ensures.1
    (refused_backend _ _ _ _ _ _ (λ past. past.0 within) (second_error _ (start_of g.T.CronDateTime.moment c.args.self.now) _ _ half.0 c.in_err-run.ensures.err.error))

pub returns-in_default-2-clause-refused : goal.returns-in_default-2-clause-refused
returns-in_default-2-clause-refused g c =
    let half = rw c.in-Some.is at c.in_ok-edge.ensures.value in
    let there = rw c.in_default-2.is at c.in_ok-run.ensures.value in
    refused_limit _ _ _ _ _ (limit_twice g.T.CronDateTime.moment _ _ _ _ _ (c.counts_both.ensures.0 c.if-not-counts_both.false) half c.requires.out there)
