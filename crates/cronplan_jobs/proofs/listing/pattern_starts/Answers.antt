use Rattle.cronplan_jobs.proofs.listing.pattern_starts.Goals as goal

pub returns-clause-lists : goal.returns-clause-lists
returns-clause-lists c = c.runs_from.ensures.lists c.args.cron.now c.args.after c.requires c.in_ok-runs.ensures.ok
