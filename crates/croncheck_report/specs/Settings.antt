-- What reports are made by. Source: this crate's documentation of `Settings`.
use Rattle.std.specs.Prelude.{ℤ, Option, Some, None, option_map, if◌then◌else◌}
use Rattle.croner_base.specs.declared.time.table.TableTime.{TableTime}
use Rattle.crontab.specs.declared.line.Dialect.{Dialect}
use Rattle.crontab.specs.declared.line.Dialect.TheVariants as dialects
use Rattle.croncheck_runs.specs.declared.clock.stop.Stop.{Stop}
use Rattle.croncheck_runs.specs.declared.previous.Previous.{Previous}
use Rattle.croncheck_report.specs.declared.settings.Settings.{Settings}
use Rattle.croncheck_report.specs.declared.settings.SettingsByKind.{SettingsByKind}
use Rattle.croncheck_runs.specs.Clock.{last_before}
use Rattle.croncheck_often.specs.Often.{span_end}

-- where runs are listed from: the start whose changes of the clock are told
abbrev pub start_of : Settings → TableTime
start_of s = s.changes.now.start

-- where the window of the clock stops before year 5000 does: that of the clock whose changes are told
abbrev pub stop_of : Settings → Option Stop
stop_of s = s.changes.now.clock.now.stop

-- the last second of that window, where it stops so
abbrev pub window_end : Settings → Option ℤ
window_end s = last_before (stop_of s)

-- the second from which on it is said how far off a run is: the start, where that is the call's own
abbrev pub off_from : Settings → Option ℤ
off_from s = if s.is_from_now then Some (start_of s).second else None

-- what is asked of the runs up to the start, if these are told too
abbrev pub asked_of : Settings → Option Previous
asked_of s = option_map (λ asked. asked.now) s.previous

-- the second from which on the clock of these runs is followed, where they are told
abbrev pub followed_from : Settings → Option ℤ
followed_from s = option_map (λ asked. asked.from) (asked_of s)

-- the second up to which it is counted how often a job starts, if that is told
abbrev pub asked_until : Settings → Option ℤ
asked_until s = if s.tells_often then Some (span_end (start_of s).second s.listing) else None

-- these settings, for files of a dialect
abbrev pub in_dialect : Dialect → Settings → Settings
in_dialect d s = record s { dialect = d }

-- the settings for the files of a kind
abbrev pub of_kind : SettingsByKind → Dialect → Settings
of_kind k dialects.User = k.user
of_kind k dialects.System = k.system
of_kind k dialects.Patterns = k.patterns
