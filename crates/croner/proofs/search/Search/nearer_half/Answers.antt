use Rattle.std.proofs.Common.{inl, inr}
use Rattle.croner.specs.Private.search.Sought.{start_of}
use Rattle.croner.proofs.zone.ErrorsKept.{error_kept}
use Rattle.croner.proofs.zone.HalfEdges.{refuted}
use Rattle.croner.proofs.zone.SearchLimit.{found_alone, first_before, second_nearer, first_nearer, second_none, second_error, refused_half, refused_limit, refused_backend}
use Rattle.croner.proofs.search.Search.nearer_half.Goals as goal

pub returns-then-not-counts_both-clause-found : goal.returns-then-not-counts_both-clause-found
returns-then-not-counts_both-clause-found g c =
    found_alone g.T.CronDateTime.moment _ _ _ _ (λ p. c.requires.walked.ahead p.1) _ (λ h. inl (refuted _ _ c.if-not-counts_both.true c.counts_both.ensures)) c.requires.walked

pub returns-in_err-edge-clause-refused : goal.returns-in_err-edge-clause-refused
returns-in_err-edge-clause-refused g c =
    error_kept c.from_residual.result c.in_err-edge.field-0.0 _ c.from_residual.ensures.1
    (refused_half _ _ _ _ _ _ (λ p. c.requires.walked.ahead p.1) c.in_err-edge.ensures.err)

pub returns-in_default-clause-found : goal.returns-in_default-clause-found
returns-in_default-clause-found g c =
    let none = rw c.in_default.is at c.in_ok-edge.ensures.value in
    found_alone g.T.CronDateTime.moment _ _ _ _ (λ p. c.requires.walked.ahead p.1) _ (λ h. inr (none h)) c.requires.walked

pub returns-then-precedes-clause-found : goal.returns-then-precedes-clause-found
returns-then-precedes-clause-found g c =
    let half = rw c.in-Some.is at c.in_ok-edge.ensures.value in
    first_before g.T.CronDateTime.moment _ _ _ _ _ (c.counts_both.ensures.0 c.if-not-counts_both.false) half (λ p. c.requires.walked.ahead p.1) _ (c.precedes.ensures.0 c.if-precedes.true) c.requires.walked

pub returns-in_err-second-clause-refused : goal.returns-in_err-second-clause-refused
returns-in_err-second-clause-refused g c =
    let half = rw c.in-Some.is at c.in_ok-edge.ensures.value in
    error_kept c.from_residual-in_err-second.result c.in_err-second.field-0.0 _ c.from_residual-in_err-second.ensures.1
    (refused_backend _ _ _ _ _ _ (λ p. c.requires.walked.ahead p.1) (second_error _ (start_of g.T.CronDateTime.moment c.args.self.now) _ _ half.0 c.in_err-second.ensures.err.error))

pub returns-in_default-2-clause-refused : goal.returns-in_default-2-clause-refused
returns-in_default-2-clause-refused g c =
    let half = rw c.in-Some.is at c.in_ok-edge.ensures.value in
    let there = rw c.in_default-2.is at c.in_ok-second.ensures.value in
    refused_limit _ _ _ _ _ (second_none g.T.CronDateTime.moment _ _ _ _ _ (c.counts_both.ensures.0 c.if-not-counts_both.false) half _ (refuted _ _ c.if-precedes.false c.precedes.ensures) c.requires.walked there)

pub returns-then-precedes-2-clause-found : goal.returns-then-precedes-2-clause-found
returns-then-precedes-2-clause-found g c =
    let half = rw c.in-Some.is at c.in_ok-edge.ensures.value in
    let there = rw c.in-Some-2.is at c.in_ok-second.ensures.value in
    second_nearer g.T.CronDateTime.moment _ _ _ _ _ (c.counts_both.ensures.0 c.if-not-counts_both.false) half (λ p. c.requires.walked.ahead p.1) _ _ (c.precedes-2.ensures.0 c.if-precedes-2.true) c.requires.walked there

pub returns-else-precedes-2-clause-found : goal.returns-else-precedes-2-clause-found
returns-else-precedes-2-clause-found g c =
    let half = rw c.in-Some.is at c.in_ok-edge.ensures.value in
    let there = rw c.in-Some-2.is at c.in_ok-second.ensures.value in
    first_nearer g.T.CronDateTime.moment _ _ _ _ _ (c.counts_both.ensures.0 c.if-not-counts_both.false) half (λ p. c.requires.walked.ahead p.1) _ _ (refuted _ _ c.if-precedes-2.false c.precedes-2.ensures) c.requires.walked there
