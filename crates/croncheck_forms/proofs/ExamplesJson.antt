-- Worked objects of lines, written by hand from docs/CRONTAB.md ("JSON"), and computed from the definitions.
use Rattle.std.proofs.Common.{None, ◌≡◌, ◌∷◌, [], pos, String, Global, Some, false, string_bytes, refl, ℕ, List, Bor, Vec}
use Rattle.serde_json.specs.Data.{null, number, unsigned, string, array, object, no_items, item, member, no_members}
use Rattle.croncheck_forms.specs.Json.{times_object, Origin, object_of}
use Rattle.croncheck_often.specs.declared.often.Reach.TheVariants as reaches
use Rattle.std.specs.Prelude.{codes}
use Rattle.std.specs.Fmt.{digits}
use Rattle.serde_json.proofs.OnLiterals.{serde_json_on_literals}
use Rattle.serde_json.specs.Written.{compact_text}
use Rattle.jiff_core.specs.declared.Offset.{Offset}
use Rattle.jiff_tz.specs.declared.timezone.TimeZone.TheVariants as zones
use Rattle.jiff_tz.specs.Zone.{offset_at}
use Rattle.croncheck_output.specs.declared.severity.Severity.TheVariants as severities
use Rattle.croncheck_report.specs.declared.report.Report.TheVariants as reports
use Rattle.croncheck_report.specs.declared.told.Told.TheVariants as tolds
use Rattle.croncheck_report.specs.declared.report.Why.{Why}
use Rattle.croncheck_runs.specs.declared.runs.End.TheVariants as ends
use Rattle.croncheck_runs.specs.declared.runs.Run.{Run}
use Rattle.croncheck_runs.specs.declared.runs.Runs.{Runs}
use Rattle.croncheck_warnings.specs.declared.warnings.Warning.{Warning}
use Rattle.croncheck_changes.specs.Changes.{none_met}
use Rattle.croncheck_output.specs.Escaped.{exact_text}

-- a line of the file `f` in UTC
abbrev line_of : List ℕ → ℕ → Origin
line_of kind line = record { zone = zones.UTC; kind = kind; file = codes "f"; line = line }

a_blank_line : compact_text (object_of (line_of (codes "blank") 1) reports.Silent [])
    ≡ codes "{\"file\":\"f\",\"findings\":[],\"job\":null,\"kind\":\"blank\",\"line\":1,\"version\":2}"
unfolding serde_json_on_literals digits
a_blank_line = refl

-- a refusal, which is called `m` and says `s`
a_refused_line : (m : Bor (List ℕ)) (s : String Global) (why : Why) → m.now ≡ codes "m" → string_bytes s ≡ codes "s"
    → object_of (line_of (codes "job") 12) (reports.Refused 1 6 why)
    (record { severity = severities.Error; name = m; field = None; extent = record { start = 1; end = 6 }; text = s } ∷ [])
    ≡ object
    (member (codes "file") (string (codes "f"))
    (member (codes "findings") (array (item (object
    (member (codes "end") (number (unsigned 6))
    (member (codes "field") null
    (member (codes "name") (string (codes "m"))
    (member (codes "severity") (string (codes "error"))
    (member (codes "start") (number (unsigned 1))
    (member (codes "text") (string (codes "s")) no_members))))))) no_items))
    (member (codes "job") null
    (member (codes "kind") (string (codes "refused"))
    (member (codes "line") (number (unsigned 12))
    (member (codes "version") (number (unsigned 2)) no_members))))))
a_refused_line m s why m_is s_is = rw (m_is, s_is) refl

-- a job in a zone an hour ahead of UTC, with two runs
a_job : (hour : Offset) (schedule command : Bor (List ℕ)) (found : Vec Warning Global) (unneeded : Vec (Bor (List ℕ)) Global) (text : String Global) (runs : Runs) (first second : Run)
    → hour.seconds ≡ pos 3_600 → runs.items.items ≡ first ∷ second ∷ [] → runs.end ≡ ends.More
    → first.time.second ≡ pos 1_731_279_600 → first.count ≡ 1 → first.made_up ≡ None → second.time.second ≡ pos 1_732_489_200 → second.count ≡ 2 → second.made_up ≡ Some (pos 1_732_492_200)
    → object_of (record (line_of (codes "job") 8) { zone = zones.Fixed hour }) (reports.Job (record {
      schedule = schedule;
      user = None;
      command = Some command;
      same = None;
      times = tolds.Runs text runs None None false;
      warnings = found;
      meetings = none_met;
      unneeded = unneeded;
    })) []
    ≡ object
    (member (codes "file") (string (codes "f"))
    (member (codes "findings") (array no_items)
    (member (codes "job") (object
    (member (codes "changes") (array no_items)
    (member (codes "command") (string (exact_text command.now))
    (member (codes "schedule") (string (exact_text schedule.now))
    (member (codes "times") (object
    (member (codes "description") (string (string_bytes text))
    (member (codes "end") (string (codes "more"))
    (member (codes "runs") (array
    (item (object (member (codes "makes_up_for") null (member (codes "offset") (number (unsigned 3_600)) (member (codes "second") (number (unsigned 1_731_279_600)) (member (codes "starts") (number (unsigned 1)) no_members)))))
    (item (object (member (codes "makes_up_for") (number (unsigned 1_732_492_200)) (member (codes "offset") (number (unsigned 3_600)) (member (codes "second") (number (unsigned 1_732_489_200)) (member (codes "starts") (number (unsigned 2)) no_members)))))
    no_items)))
    (member (codes "when") (string (codes "named")) no_members)))))
    (member (codes "user") null no_members))))))
    (member (codes "kind") (string (codes "job"))
    (member (codes "line") (number (unsigned 8))
    (member (codes "version") (number (unsigned 2)) no_members))))))
unfolding offset_at digits
a_job hour schedule command found unneeded text runs first second hour_is runs_are more first_is once alone second_is twice skipped =
    rw (runs_are, more, first_is, once, alone, second_is, twice, skipped, hour_is) refl

-- ---- the times of a job

-- 672 starts in seven days, of which no run is listed
as_json : (text : String Global) (runs : Runs) → runs.items.items ≡ [] → runs.end ≡ ends.More → times_object zones.UTC (tolds.Runs text runs None (Some (record {
  from = pos 1_794_831_000;
  until = pos 1_795_435_800;
  reach = reaches.Whole;
  starts = 672;
  most_a_day = 96;
  shortest = Some 900;
})) false)
    ≡ object
    (member (codes "description") (string (string_bytes text))
    (member (codes "end") (string (codes "more"))
    (member (codes "often") (object
    (member (codes "end") (string (codes "whole"))
    (member (codes "from") (number (unsigned 1_794_831_000))
    (member (codes "most_a_day") (number (unsigned 96))
    (member (codes "shortest") (number (unsigned 900))
    (member (codes "starts") (number (unsigned 672))
    (member (codes "until") (number (unsigned 1_795_435_800)) no_members)))))))
    (member (codes "runs") (array no_items)
    (member (codes "when") (string (codes "named")) no_members)))))
as_json text runs none more = rw (none, more) refl

-- ---- the runs before the start

-- no run is listed after the start, and one before it, in a zone an hour ahead of UTC
one_before : (hour : Offset) (text : String Global) (runs previous : Runs) (first : Run) → hour.seconds ≡ pos 3_600 → runs.items.items ≡ [] → runs.end ≡ ends.More
    → previous.items.items ≡ first ∷ [] → previous.end ≡ ends.Window → first.time.second ≡ pos 1_731_279_600 → first.count ≡ 1 → first.made_up ≡ None
    → times_object (zones.Fixed hour) (tolds.Runs text runs (Some previous) None false)
    ≡ object
    (member (codes "description") (string (string_bytes text))
    (member (codes "end") (string (codes "more"))
    (member (codes "previous") (object
    (member (codes "end") (string (codes "cut"))
    (member (codes "runs") (array
    (item (object (member (codes "makes_up_for") null (member (codes "offset") (number (unsigned 3_600)) (member (codes "second") (number (unsigned 1_731_279_600)) (member (codes "starts") (number (unsigned 1)) no_members)))))
    no_items)) no_members)))
    (member (codes "runs") (array no_items)
    (member (codes "when") (string (codes "named")) no_members)))))
unfolding offset_at digits
one_before hour text runs previous first hour_is none more listed cut second_is count_is alone = rw (none, more, listed, cut, second_is, count_is, alone, hour_is) refl
