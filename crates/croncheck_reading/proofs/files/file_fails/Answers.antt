use Rattle.croncheck_files.specs.Names.{asked_seen}
use Rattle.croncheck_reading.specs.Sink.{state_of}
use Rattle.croncheck_reading.proofs.ToldFiles.{told_as}
use Rattle.croncheck_reading.proofs.files.file_fails.Goals as goal

pub returns-in-Ok-read : goal.returns-in-Ok-read
returns-in-Ok-read g c = λ m has ok.
    told_as g.F.Form.takes g.F.Form.ends_file c.args.kinds.now m (asked_seen c.args.file) c.of-terms.result c.dialect.result c.unfit-unfit.result
    (state_of g.W.Write.contents c.args.sink.now.form c.args.sink.now.progress c.args.sink.now.output)
    (state_of g.W.Write.contents c.read.new.self.form c.read.new.self.progress c.read.new.self.output) _
    c.of-terms.ensures c.dialect.ensures (has.fitness _ c.unfit-unfit.result c.unfit-unfit.ensures) (has.texts _ _ c.in-Ok.ensures) c.in-Ok-read.ensures
