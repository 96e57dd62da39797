use Rattle.std.proofs.Common.{refl}
use Rattle.croncheck_files.proofs.root.root_at.Goals as goal

pub returns : goal.returns
returns c = rw (c.in_ok-crontab.ensures, c.in_ok-cron_d.ensures, c.in_ok-spool.ensures, c.in_ok-users.ensures, c.in_ok-clock.ensures) refl
