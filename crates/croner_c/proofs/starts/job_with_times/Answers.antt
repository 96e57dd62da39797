use Rattle.std.proofs.Common.{ap, string_bytes}
use Rattle.crontab.specs.Entries.{times_seen}
use Rattle.crontab.specs.Star.{has_clock_star}
use Rattle.croner_c.proofs.LineJobs.{accepted, refused}
use Rattle.croner_c.proofs.starts.job_with_times.Goals as goal

pub returns-in-Ok-Accepted : goal.returns-in-Ok-Accepted
returns-in-Ok-Accepted c =
    let job = c.args.entry.now in
    let read = rw c.in-Ok-Accepted.field-0-is at c.in-Ok-Accepted.ensures in
    accepted (times_seen job.times) (string_bytes c.in-Named.text) c.in-Named.both_days c.parser_of_lines.result c.as_str.result.now c.in-Ok-Accepted.cron
    (has_clock_star job.schedule.now) c.has_clock_star.result (ap times_seen c.in-Named.is) c.parser_of_lines.ensures c.as_str.ensures.value read c.has_clock_star.ensures

pub returns-in-Ok-Refused : goal.returns-in-Ok-Refused
returns-in-Ok-Refused c =
    let job = c.args.entry.now in
    let read = rw c.in-Ok-Refused.field-0-is at c.in-Ok-Refused.ensures in
    refused (times_seen job.times) (string_bytes c.in-Named.text) c.in-Named.both_days c.parser_of_lines.result c.as_str.result.now read.0 (ap times_seen c.in-Named.is)
    c.parser_of_lines.ensures c.as_str.ensures.value read.1
