-- Texts one below the other. Source: this crate's documentation.
use Rattle.std.specs.Prelude.{◌==◌, ◌&&◌, ℕ, not, List, ◌∷◌, ◌++◌, length, if◌then◌else◌}

-- a text after another one, with an empty line between where there is anything of both
abbrev pub set_apart : List ℕ → List ℕ → List ℕ
set_apart text part = if not (length text == 0) && not (length part == 0) then text ++ (10 ∷ part) else text ++ part
