-- What reaches a writer, text by text. Source: this crate's documentation of `Output`.
use Rattle.std.specs.Prelude.{◌≡◌, ◌&&◌, ◌||◌, ℕ, Bool, true, false, List, [], ◌∷◌, ◌++◌, Option, if◌then◌else◌}
use Rattle.std.specs.Io.KnownBytes.{Appends, Keeps}
use Rattle.croncheck_output.specs.declared.output.Output.{Output}

-- what was written so far: the writer's bytes, where they are known, and whether a text was set apart
pub record Written : Type 0 where
  pub contents : Option (List ℕ)
  pub is_begun : Bool

-- the same of an output, whose writer holds these bytes
abbrev pub written_of : {W : Type 0} → (W → Option (List ℕ)) → Output W → Written
written_of contents output = record { contents = contents output.out; is_begun = output.is_begun }

-- there is a text
abbrev pub is_some_text : List ℕ → Bool
is_some_text [] = false
is_some_text (byte ∷ bytes) = true

-- what a text adds to what was written: an empty line stands in front of it, unless it is the first. No text adds nothing
abbrev pub set_apart : Bool → List ℕ → List ℕ
set_apart is_begun text = if is_begun && is_some_text text then 10 ∷ text else text

-- a text was written as it is
abbrev pub WritesText : List ℕ → Written → Written → Type 0
WritesText text old new = Appends old.contents new.contents text × (new.is_begun ≡ old.is_begun)

-- a text was written, set apart
abbrev pub WritesApart : List ℕ → Written → Written → Type 0
WritesApart text old new =
    Appends old.contents new.contents (set_apart old.is_begun text) × (new.is_begun ≡ (old.is_begun || is_some_text text))

-- what was written was passed on, and is as it was
abbrev pub IsFlushed : Written → Written → Type 0
IsFlushed old new = Keeps old.contents new.contents × (new.is_begun ≡ old.is_begun)

-- ---- items of a list

-- a text was written as the next item of a list: this head in front of the first, and this between it and the one before
abbrev pub WritesItem : List ℕ → List ℕ → List ℕ → Written → Written → Type 0
WritesItem head between text old new =
    Appends old.contents new.contents ((if old.is_begun then between else head) ++ text) × (new.is_begun ≡ true)

-- the end of a list was written: the head in front of it, where there is no item
abbrev pub EndsItems : List ℕ → List ℕ → Written → Written → Type 0
EndsItems head tail old new = WritesText (if old.is_begun then tail else head ++ tail) old new
