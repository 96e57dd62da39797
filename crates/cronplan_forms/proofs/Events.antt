-- The events of a calendar, one after the other.
use Rattle.std.proofs.Common.{◌≡◌, ◌∙◌, ◌+◌, ◌<◌, ℕ, List, ◌++◌, length, get_or, drop, ap, sym}
use Rattle.std.specs.List.{flat_map}
use Rattle.std.proofs.lemmas.List.{at_drop_more}
use Rattle.cronplan_forms.specs.declared.calendar.Calendar.{Calendar}
use Rattle.cronplan_forms.specs.declared.calendar.event.Event.{Event}
use Rattle.cronplan_forms.specs.Calendars.{event_text}

-- one event more
pub events_step : (c : Calendar) (es : List Event) (i : ℕ) (e : Event) → i < length es → e ≡ get_or es i e
    → flat_map (event_text c) (drop i es) ≡ event_text c e ++ flat_map (event_text c) (drop (i + 1) es)
events_step c es i e h is =
    at_drop_more (flat_map (event_text c)) es i e h ∙ ap (λ (x : Event). event_text c x ++ flat_map (event_text c) (drop (i + 1) es)) (sym is)
