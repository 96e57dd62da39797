-- What contracts see of a job.
use Rattle.croner.specs.Views.{job_of}
use Rattle.crontab_runs.specs.declared.job.CrontabJob.{CrontabJob}
use Rattle.crontab_runs.specs.Starts.{CronJob, cron_job}

-- what cron goes by
abbrev pub cron_job_of : CrontabJob → CronJob
cron_job_of j = cron_job (job_of j.cron) j.is_starred
