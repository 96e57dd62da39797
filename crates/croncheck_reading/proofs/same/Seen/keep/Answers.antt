use Rattle.croncheck_reading.proofs.Kept.{kept_after}
use Rattle.croncheck_reading.proofs.same.Seen.keep.Goals as goal

pub returns-clause-kept : goal.returns-clause-kept
returns-clause-kept c =
    kept_after c.args.self.now (record { jobs = c.insert.new.self }) c.args.key (c.args.place.file.now, c.args.place.line) c.in_ok-same.same
    c.in_ok-insert.ensures.updates.0 c.in_ok-same.ensures
