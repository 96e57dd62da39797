-- Worked rows of what is shown of a clock, of another zone's and of the front of a text, and of what is said at the end of a file.
use Rattle.std.proofs.Common.{◌≡◌, true, pos, [], ◌∷◌, Some, refl, arith}
use Rattle.std.specs.Fmt.{digits}
use Rattle.std.specs.Path.{path_file_name, path_parent, split_last_component, trim_trailing, rsplit_once}
use Rattle.std.specs.Prelude.{codes, neg_ℤ}
use Rattle.croner_base.specs.declared.time.civil.CivilDateTime.{CivilDateTime}
use Rattle.crontab.specs.declared.line.Dialect.TheVariants as dialects
use Rattle.croncheck_files.specs.declared.fitness.Unfit.TheVariants as unfits
use Rattle.croncheck_report.specs.declared.settings.Tongue.TheVariants as tongues
use Rattle.croncheck_report.specs.FileSeen.{File, unread, ending_of}
use Rattle.croncheck_shown.specs.Shown.{weekday_text, other_clock_text}
use Rattle.cronplan_forms.specs.Clocks.{ahead_text}
use Rattle.croncheck_output.specs.Front.{start_at, cut_at}

-- ---- the clock

two_hours_ahead : ahead_text (pos 7_200) ≡ codes "+02:00"
unfolding digits
two_hours_ahead = refl

behind_by_half_an_hour_more : ahead_text (neg_ℤ (pos 12_600)) ≡ codes "-03:30"
unfolding digits
behind_by_half_an_hour_more = refl

with_seconds : ahead_text (pos 20_708) ≡ codes "+05:45:08"
unfolding digits
with_seconds = refl

first_day : weekday_text tongues.English 0 ≡ codes "Sun"
first_day = refl

last_day : weekday_text tongues.English 6 ≡ codes "Sat"
last_day = refl

first_day_in_swedish : weekday_text tongues.Swedish 0 ≡ 115 ∷ 195 ∷ 182 ∷ 110 ∷ []
first_day_in_swedish = refl

last_day_in_swedish : weekday_text tongues.Swedish 6 ≡ 108 ∷ 195 ∷ 182 ∷ 114 ∷ []
last_day_in_swedish = refl

thursday_in_swedish : weekday_text tongues.Swedish 4 ≡ codes "tor"
thursday_in_swedish = refl

-- ---- the clock of another zone

-- what New York's clock shows as that of Paris shows 02:30:00 for the first time
abbrev evening : CivilDateTime
evening = record {
  date = record { year = pos 2024; month = 10; day = 26; real = ((omega arith, omega arith), (omega arith, omega arith)) };
  time = record { hour = 20; minute = 30; second = 0; hour_in = omega arith; minute_in = omega arith; second_in = omega arith };
}

in_new_york : other_clock_text (weekday_text tongues.English 6) evening (neg_ℤ (pos 14_400)) ≡ codes "  = Sat 2024-10-26 20:30:00 -04:00"
unfolding digits
in_new_york = refl

-- ---- the front of a text

-- a letter and a character of four bytes: up to its last byte, and after it
four_bytes : start_at 4 (97 ∷ 240 ∷ 159 ∷ 152 ∷ 128 ∷ []) ≡ 1
four_bytes = refl

all_of_them : cut_at 5 (97 ∷ 240 ∷ 159 ∷ 152 ∷ 128 ∷ []) ≡ 5
all_of_them = refl

-- bytes that begin no character are cut where they are
no_character : start_at 4 (128 ∷ 128 ∷ 128 ∷ 128 ∷ 128 ∷ []) ≡ 4
no_character = refl

-- ---- the end of a file

-- a file with a refused line, and one whose last line has no line feed
abbrev refused : File
refused = record (unread (codes "backup")) { has_refused = true }

abbrev unfed : File
unfed = record (unread (codes "backup")) { is_unfed = true }

a_refused_line : ending_of dialects.User 3 refused ≡ codes "backup: cron ignores the whole file: a line is refused\n"
unfolding path_file_name path_parent split_last_component trim_trailing rsplit_once
a_refused_line = refl

no_line_feed : ending_of dialects.System 3 unfed ≡ codes "backup: cron ignores the whole file: its last line has no line feed (no-newline)\n"
unfolding path_file_name path_parent split_last_component trim_trailing rsplit_once
no_line_feed = refl

too_many_lines : ending_of dialects.User 10_001 (unread (codes "backup")) ≡ codes "backup: cron ignores the whole file: it has more than 10000 lines (many-lines)\n"
unfolding path_file_name path_parent split_last_component trim_trailing rsplit_once
too_many_lines = refl

as_many_lines_as_cron_takes : ending_of dialects.User 10_000 (unread (codes "backup")) ≡ []
unfolding path_file_name path_parent split_last_component trim_trailing rsplit_once
as_many_lines_as_cron_takes = refl

-- one of a user that is installed
abbrev installed : File
installed = unread (codes "/var/spool/cron/crontabs/ann")

as_many_lines_as_crontab_writes : ending_of dialects.User 10_003 installed ≡ []
unfolding path_file_name path_parent split_last_component trim_trailing rsplit_once
as_many_lines_as_crontab_writes = refl

a_late_job_of_a_user : ending_of dialects.User 10_004 (record installed { has_late = true })
    ≡ codes "/var/spool/cron/crontabs/ann: cron ignores the whole file: a job or a setting stands after line 10003 (many-lines)\n"
unfolding path_file_name path_parent split_last_component trim_trailing rsplit_once
a_late_job_of_a_user = refl

a_late_job : ending_of dialects.System 10_004 (record (unread (codes "backup")) { has_late = true })
    ≡ codes "backup: cron ignores the whole file: a job or a setting stands after line 10003 (many-lines)\n"
unfolding path_file_name path_parent split_last_component trim_trailing rsplit_once
a_late_job = refl

two_hard_links : ending_of dialects.System 3 (record refused { unfit = Some unfits.Links })
    ≡ codes "backup: cron ignores the whole file: it has more than one hard link\nbackup: cron ignores the whole file: a line is refused\n"
unfolding path_file_name path_parent split_last_component trim_trailing rsplit_once
two_hard_links = refl

a_misnamed_file : ending_of dialects.System 3 (unread (codes "cron.d/backup.sh"))
    ≡ codes "cron.d/backup.sh: warning: file-name: cron passes over a file of this name: write letters, digits, _ and - alone\n"
unfolding path_file_name path_parent split_last_component trim_trailing rsplit_once
a_misnamed_file = refl

patterns_are_read_whole : ending_of dialects.Patterns 10_001 refused ≡ []
patterns_are_read_whole = refl
