use Rattle.std.proofs.Common.{List, subst}
use Rattle.croncheck_findings.specs.declared.findings.Finding.{Finding}
use Rattle.croncheck_output.proofs.OkResults.{if_ok}
use Rattle.croncheck_output.specs.Output.{WritesApart, written_of}
use Rattle.croncheck_planner.specs.Ignored.{ignored_text}
use Rattle.croncheck_planner.proofs.planner.ignored.write_ignored.Goals as goal

pub returns : goal.returns
returns g c =
    let contents = g.W.Write.contents in
    if_ok c.write_told.result
    (λ written. record {
      found = c.in_ok-found.found.items;
      found_is = c.in_ok-found.ensures;
      written = subst (λ (found : List Finding). WritesApart (ignored_text c.args.place.file.now c.args.place.line c.args.report.now found) (written_of contents c.args.output.now) (written_of contents c.write_told.new.output))
          c.as_slice.ensures.value written;
    })
    c.write_told.ensures
