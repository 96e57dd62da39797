use Rattle.std.proofs.Common.{take}
use Rattle.std.specs.Prelude.{string_bytes}
use Rattle.croncheck_reading.specs.Files.{HaveContents}
use Rattle.croncheck_files.specs.Names.{asked_seen}
use Rattle.croncheck_reading.specs.Sink.{state_of, IsToldEntry}
use Rattle.croncheck_reading.proofs.ToldFiles.{SoFar}
use Rattle.croncheck_reading.proofs.files.any_fails.Given as goal

abbrev pub invariant-loop-k : goal.invariant-loop-k
invariant-loop-k g l =
    SoFar (HaveContents (g.S.Sources.holds l.fn.sources) (g.S.Sources.says_unfit l.fn.sources) (g.S.Sources.says_folder l.fn.sources) (g.S.Sources.lists l.fn.sources)) (λ name. string_bytes name)
    (λ m. IsToldEntry g.F.Form.takes g.F.Form.ends_file l.fn.kinds m (asked_seen l.fn.folder)) (take l.k l.fn.names)
    (state_of g.W.Write.contents l.initial.sink.form l.initial.sink.progress l.initial.sink.output)
    (state_of g.W.Write.contents l.sink.form l.sink.progress l.sink.output) l.is_failed
