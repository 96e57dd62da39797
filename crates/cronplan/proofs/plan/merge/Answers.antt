use Rattle.std.proofs.Common.{arith, ◌≡◌, ◌∙◌, ◌≤ℤ◌, ap, sym, subst, rules, w64, FitsSigned, to_z, of_z, ℤ, List}
use Rattle.std.proofs.lemmas.Fn.{filter_same}
use Rattle.std.proofs.lemmas.Int.{ints, to_z-of_z}
use Rattle.cronplan.specs.declared.start.JobStart.{JobStart}
use Rattle.std.proofs.lemmas.List.Sorted.{All-permutation}
use Rattle.std.specs.List.{All}
use Rattle.std.specs.Prelude.{IsTrue}
use Rattle.cronplan.specs.Spans.{is_span}
use Rattle.cronplan.specs.Starts.{second_at, earlier_of, most_starts, IsMerged}
use Rattle.cronplan.proofs.SpanSeconds.{Spans, span_at, at_span}
use Rattle.cronplan.proofs.StartOrder.{merged_are, earlier_late, earlier_early}
use Rattle.cronplan.proofs.plan.merge.Goals as goal

pub returns-clause-starts : goal.returns-clause-starts
returns-clause-starts c =
    let fits : FitsSigned w64 c.earlier_of-end.result = search rules in
    let end_fits : FitsSigned w64 c.args.span.end = search rules in
    let first_fits : FitsSigned w64 c.args.span.first = search rules in
    let ordered : List JobStart = c.sort_unstable.new.self.items in
    let kept : c.earlier_of-end.result ≡ earlier_of c.args.span.end (second_at ordered most_starts) =
    c.earlier_of-end.ensures ∙ ap (λ (i : ℤ). earlier_of i c.second_at.result) (to_z-of_z w64 c.args.span.end end_fits)
    ∙ ap (earlier_of c.args.span.end) (c.second_at.ensures ∙ ap (λ (xs : List JobStart). second_at xs most_starts) c.as_slice.ensures.value) in
    record {
      from = to_z-of_z w64 c.args.span.first first_fits;
      merged =
          subst (λ (i : ℤ). IsMerged c.args.starts.items c.args.span.end c.retain.new.self.items i) (sym (to_z-of_z w64 c.earlier_of-end.result fits))
          (merged_are c.args.starts.items ordered c.truncate.new.self.items c.retain.new.self.items c.args.span.end c.earlier_of-end.result c.sort_unstable.ensures.permutation c.sort_unstable.ensures.sorted
          kept c.truncate.ensures.items (filter_same _ _ _ (λ x b f' k. search (rules, ints, to_z-of_z)) _ _ c.retain.ensures.filtered));
    }

pub invariant_of-span : goal.invariant_of-span
invariant_of-span c =
    let fits : FitsSigned w64 c.earlier_of-end.result = search rules in
    let end_fits : FitsSigned w64 c.args.span.end = search rules in
    let first_fits : FitsSigned w64 c.args.span.first = search rules in
    let w : Spans c.args.span.first c.args.span.end = span_at c.args.span.first c.args.span.end c.args.span.held in
    let ordered : List JobStart = c.sort_unstable.new.self.items in
    let kept : earlier_of c.args.span.end (second_at ordered most_starts) ≡ c.earlier_of-end.result =
    sym (c.earlier_of-end.ensures ∙ ap (λ (i : ℤ). earlier_of i c.second_at.result) (to_z-of_z w64 c.args.span.end end_fits)
    ∙ ap (earlier_of c.args.span.end) (c.second_at.ensures ∙ ap (λ (xs : List JobStart). second_at xs most_starts) c.as_slice.ensures.value)) in
    let all : All (λ (s : JobStart). c.args.span.first ≤ℤ s.second) ordered = All-permutation (λ (s : JobStart). c.args.span.first ≤ℤ s.second) c.args.starts.items ordered c.sort_unstable.ensures.permutation c.requires in
    let late : c.args.span.first ≤ℤ c.earlier_of-end.result = subst (λ (i : ℤ). c.args.span.first ≤ℤ i) kept (earlier_late ordered most_starts c.args.span.first c.args.span.end all w.order) in
    let early : c.earlier_of-end.result ≤ℤ c.args.span.end = subst (λ (i : ℤ). i ≤ℤ c.args.span.end) kept (earlier_early c.args.span.end (second_at ordered most_starts)) in
    record {
      held =
          subst (λ (i : ℤ). IsTrue (is_span i (to_z w64 (of_z w64 c.earlier_of-end.result)))) (sym (to_z-of_z w64 c.args.span.first first_fits))
          (subst (λ (i : ℤ). IsTrue (is_span c.args.span.first i)) (sym (to_z-of_z w64 c.earlier_of-end.result fits))
          (at_span c.args.span.first c.earlier_of-end.result (record { late = w.late; order = late; early = omega (arith, ints, early, w.early) })));
    }
