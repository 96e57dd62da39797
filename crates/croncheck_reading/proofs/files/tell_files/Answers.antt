use Rattle.std.proofs.Common.{rules, ◌<◌, ◌≤◌, length, refl}
use Rattle.croncheck_reading.specs.Files.{HaveContents}
use Rattle.croncheck_files.specs.Names.{asked_seen}
use Rattle.croncheck_reading.specs.Sink.{IsToldAsked}
use Rattle.croncheck_output.proofs.OkResults.{if_value}
use Rattle.croncheck_reading.proofs.ToldFiles.{so_far_next, so_far_all, told_of, told_status}
use Rattle.croncheck_reading.proofs.files.tell_files.Goals as goal

pub loop-k-preserved : goal.loop-k-preserved
loop-k-preserved g c =
    let within : c.loop-k.k < length c.args.files.now = search rules in
    so_far_next (HaveContents (g.S.Sources.holds c.args.sources.now) (g.S.Sources.says_unfit c.args.sources.now) (g.S.Sources.says_folder c.args.sources.now) (g.S.Sources.lists c.args.sources.now))
    asked_seen (IsToldAsked g.F.Form.takes g.F.Form.ends_file c.args.kinds.now) c.args.files.now c.loop-k.k _ _ _ _ _
    c.loop-k.is_failed c.in_ok-fails.fails c.either_failed-is_failed.result within refl c.either_failed-is_failed.ensures c.loop-k.invariant
    (λ m has ok. told_of g.F.Form.takes g.F.Form.ends_file c.args.kinds.now m _ c.is_folder.result c.sort_of-sort.result _ _ c.sort_of-sort.ensures
    (has.folders _ c.is_folder.result c.is_folder.ensures) (c.in_ok-fails.ensures m has ok))

pub returns : goal.returns
returns g c = λ m has.
    let all : length c.args.files.now ≤ c.loop-k.k = search rules in
    if_value c.conclude.result
    (λ status told. told_status g.F.Form.takes g.F.Form.ends_file g.F.Form.ends c.args.kinds.now m _ c.of.result _ _ told.0 _ c.loop-k.is_failed status
    c.of.ensures (so_far_all (HaveContents (g.S.Sources.holds c.args.sources.now) (g.S.Sources.says_unfit c.args.sources.now) (g.S.Sources.says_folder c.args.sources.now)
    (g.S.Sources.lists c.args.sources.now)) asked_seen (IsToldAsked g.F.Form.takes g.F.Form.ends_file c.args.kinds.now) c.args.files.now c.loop-k.k _ _ _ all
    c.loop-k.invariant m has) told.1 told.2 told.3)
    c.conclude.ensures
