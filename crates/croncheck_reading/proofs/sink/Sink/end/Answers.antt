use Rattle.std.proofs.Common.{refl}
use Rattle.croncheck_reading.specs.Sink.{state_of}
use Rattle.croncheck_output.proofs.OkResults.{always}
use Rattle.croncheck_reading.proofs.sink.Sink.end.Goals as goal

pub returns : goal.returns
returns g c =
    let self = c.args.self.now in
    always c.flush.result (
      state_of g.W.Write.contents self.form self.progress c.end.new.output,
      (refl, refl, c.in_ok-end.ensures),
      (refl, refl, c.flush.ensures.kept),
    )
