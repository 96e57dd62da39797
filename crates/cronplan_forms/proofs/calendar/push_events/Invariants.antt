use Rattle.std.proofs.Common.{◌≡◌, ◌++◌, drop, string_bytes}
use Rattle.std.specs.List.{flat_map}
use Rattle.cronplan_forms.specs.Calendars.{event_text}
use Rattle.cronplan_forms.proofs.calendar.push_events.Given as goal

abbrev pub invariant-loop-event : goal.invariant-loop-event
invariant-loop-event l =
    string_bytes l.text ++ flat_map (event_text l.calendar) (drop l.event-index l.events) ≡ string_bytes l.initial.text ++ flat_map (event_text l.calendar) l.events
