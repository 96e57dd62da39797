use Rattle.std.proofs.Common.{◌≡◌, rules, ℕ, List, ◌<◌, ◌≤◌, length, get_or, subst}
use Rattle.std.specs.Prelude.{string_bytes}
use Rattle.croncheck_reading.specs.Files.{HaveContents}
use Rattle.croncheck_files.specs.Names.{asked_seen}
use Rattle.croncheck_reading.specs.Sink.{IsToldEntry, state_of}
use Rattle.croncheck_reading.proofs.ToldFiles.{so_far_next, so_far_all}
use Rattle.croncheck_reading.proofs.files.any_fails.Goals as goal

pub loop-k-preserved : goal.loop-k-preserved
loop-k-preserved g c =
    let within : c.loop-k.k < length c.args.names.now = search rules in
    let is : c.index-names-k.result ≡ get_or c.args.names.now c.loop-k.k c.index-names-k.result = search rules in
    so_far_next (HaveContents (g.S.Sources.holds c.args.sources.now) (g.S.Sources.says_unfit c.args.sources.now) (g.S.Sources.says_folder c.args.sources.now) (g.S.Sources.lists c.args.sources.now))
    (λ name. string_bytes name) (λ m. IsToldEntry g.F.Form.takes g.F.Form.ends_file c.args.kinds.now m (asked_seen c.args.folder))
    c.args.names.now c.loop-k.k c.index-names-k.result c.index-names-k.result _ _
    (state_of g.W.Write.contents c.entry_fails.new.sink.form c.entry_fails.new.sink.progress c.entry_fails.new.sink.output)
    c.loop-k.is_failed c.in_ok-fails.fails c.either_failed-is_failed.result within is c.either_failed-is_failed.ensures
    c.loop-k.invariant
    (λ m has ok. subst (λ (name : List ℕ). IsToldEntry g.F.Form.takes g.F.Form.ends_file c.args.kinds.now m (asked_seen c.args.folder)
    (state_of g.W.Write.contents c.loop-k.sink.form c.loop-k.sink.progress c.loop-k.sink.output) name
    (state_of g.W.Write.contents c.entry_fails.new.sink.form c.entry_fails.new.sink.progress c.entry_fails.new.sink.output))
    c.as_str.ensures.value (c.in_ok-fails.ensures m has ok))

pub returns : goal.returns
returns g c =
    let all : length c.args.names.now ≤ c.loop-k.k = search rules in
    so_far_all (HaveContents (g.S.Sources.holds c.args.sources.now) (g.S.Sources.says_unfit c.args.sources.now) (g.S.Sources.says_folder c.args.sources.now) (g.S.Sources.lists c.args.sources.now))
    (λ name. string_bytes name) (λ m. IsToldEntry g.F.Form.takes g.F.Form.ends_file c.args.kinds.now m (asked_seen c.args.folder))
    c.args.names.now c.loop-k.k _ _ _ all c.loop-k.invariant
