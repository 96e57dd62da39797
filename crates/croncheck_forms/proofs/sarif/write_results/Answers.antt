use Rattle.std.proofs.Common.{rules, ◌<◌, length, option_map}
use Rattle.croncheck_forms.specs.SarifForm.{WritesResult}
use Rattle.croncheck_output.proofs.InTurn.{in_turn_next}
use Rattle.croncheck_forms.proofs.sarif.write_results.Goals as goal

pub loop-k-preserved : goal.loop-k-preserved
loop-k-preserved g c =
    let within : c.loop-k.k < length c.args.found.now = search rules in
    in_turn_next (WritesResult c.args.head.now c.args.place.file.now c.args.place.line (option_map (λ l. l.now) c.args.line)) _ _ _ c.args.found.now c.loop-k.k c.index-found-k.result _ within c.index-found-k.is c.loop-k.invariant c.in_ok-write_result.ensures
