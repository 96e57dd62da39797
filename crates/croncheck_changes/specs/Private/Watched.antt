-- The changes of a table that are watched, one by one.
use Rattle.std.specs.Prelude.{◌&&◌, Bool, ℤ, pos, ◌+ℤ◌, int_lt, int_le, if◌then◌else◌, List, [], ◌∷◌}
use Rattle.croncheck_changes.specs.Changes.{watched_seconds, first_watched, end_watched}
use Rattle.croncheck_changes.specs.declared.changes.Change.{Change}

-- a change at an instant is watched from a start
abbrev pub is_watched : ℤ → ℤ → Bool
is_watched start i =
    int_lt start i && (int_le i (start +ℤ pos watched_seconds) && (int_le first_watched i && int_lt i end_watched))

-- a change to an offset, after another
abbrev pub change_of : ℤ → ℤ → ℤ → Change
change_of offset instant next = record { instant = instant; before = instant +ℤ offset; after = instant +ℤ next }

-- it alone, if it is watched
abbrev pub watched_at : ℤ → ℤ → ℤ → ℤ → List Change
watched_at start offset instant next = if is_watched start instant then change_of offset instant next ∷ [] else []
