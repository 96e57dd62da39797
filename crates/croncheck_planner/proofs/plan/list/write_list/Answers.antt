use Rattle.std.proofs.Common.{◌≡◌, ◌∙◌, ℕ, ℤ, List, Bool, Option, length, string_bytes, ap, subst}
use Rattle.std.specs.Prelude.{◌==◌}
use Rattle.cronplan.specs.declared.start.JobStart.{JobStart}
use Rattle.croncheck_planner.specs.declared.plan.Ending.{Ending}
use Rattle.croncheck_output.specs.Output.{written_of, WritesApart}
use Rattle.croncheck_planner.specs.Plan.{starts_listed, ending_of}
use Rattle.croncheck_planner.specs.PlanList.{head_text, labels, IsListEnd, WritesStarts}
use Rattle.croncheck_report.specs.Settings.{window_end}
use Rattle.croncheck_output.proofs.OkResults.{if_ok}
use Rattle.croncheck_planner.proofs.plan.list.write_list.Goals as goal

pub returns : goal.returns
returns g c =
    let s = c.args.terms.now.settings.now in
    let shared = c.args.terms.now.shared.now in
    let found = c.args.found.now in
    let begun = written_of g.W.Write.contents c.write_apart.new.self in
    let between = written_of g.W.Write.contents c.write_starts.new.output in
    let text : List ℕ = string_bytes c.in_ok-text.text in
    let listed = c.listed_starts-starts.ensures in
    let is_empty : c.is_empty-is_empty.result ≡ (length (starts_listed s.listing found) == 0) =
    c.is_empty-is_empty.ensures ∙ ap (λ (starts : List JobStart). length starts == 0) listed in
    if_ok c.write_apart-2.result
    (λ writes. record {
      begun = begun;
      between = between;
      text = text;
      head = subst (λ (head : List ℕ). WritesApart head (written_of g.W.Write.contents c.args.output.now) begun)
          (c.head_text.ensures ∙ ap (λ (empty : Bool). head_text c.args.front.now empty) is_empty) c.in_ok-write_apart.ensures.written;
      starts = subst (λ (starts : List JobStart). WritesStarts s shared (labels c.args.jobs.now) starts begun between) listed c.in_ok-write_starts.ensures;
      end_is = subst (λ (empty : Bool). IsListEnd s shared (ending_of s.listing (window_end s) found) empty text) is_empty
          (subst (λ (ending : Ending). IsListEnd s shared ending c.is_empty-is_empty.result text)
          (c.ending-ending.ensures ∙ ap (λ (last : Option ℤ). ending_of s.listing last found) c.last.ensures) c.in_ok-text.ensures);
      end = subst (λ (end : List ℕ). WritesApart end between (written_of g.W.Write.contents c.write_apart-2.new.self)) c.as_str.ensures.value writes;
    })
    c.write_apart-2.ensures.written
