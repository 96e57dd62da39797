-- Texts that are written one after the other.
use Rattle.std.proofs.Common.{◌≡◌, ◌∙◌, ◌<◌, ◌&&◌, ◌||◌, ℕ, Bool, true, false, List, [], ◌∷◌, ◌++◌, Option, length, sym, subst, refl, arith}
use Rattle.std.specs.Prelude.{if◌then◌else◌}
use Rattle.std.specs.Io.KnownBytes.{Appends}
use Rattle.std.proofs.KnownBytes.{Appends-nil, Appends-trans}
use Rattle.croncheck_output.specs.Output.{Written, WritesText, WritesApart, WritesItem}

none_added : (is_begun : Bool) (a : Option (List ℕ)) → Appends a a (if is_begun && false then 10 ∷ [] else [])
none_added true a = Appends-nil a
none_added false a = Appends-nil a

or_none : (b : Bool) → b ≡ (b || false)
or_none true = refl
or_none false = refl

or_some : (b : Bool) → true ≡ (b || true)
or_some true = refl
or_some false = refl

-- nothing is written of no text
pub no_text : (text : List ℕ) (old : Written) → length text ≡ 0 → WritesApart text old old
no_text [] old none = (none_added old.is_begun old.contents, or_none old.is_begun)
no_text (x ∷ xs) old none = absurd (omega (arith, none))

-- a first text is written as it is
pub first_text : (text : List ℕ) (old new : Written) → 0 < length text → old.is_begun ≡ false → WritesText text (record old { is_begun = true }) new
    → WritesApart text old new
first_text [] old new some first writes = absurd (omega (arith, some))
first_text (x ∷ xs) old new some first writes =
    let P : Bool → Type 0 = λ b. Appends old.contents new.contents (if b && true then 10 ∷ (x ∷ xs) else (x ∷ xs)) in
    (subst P (sym first) writes.0, writes.1 ∙ or_some old.is_begun)

-- a next one with an empty line in front
pub next_text : (text : List ℕ) (old new : Written) → 0 < length text → old.is_begun ≡ true → WritesText (10 ∷ text) old new → WritesApart text old new
next_text [] old new some next writes = absurd (omega (arith, some))
next_text (x ∷ xs) old new some next writes =
    let P : Bool → Type 0 = λ b. Appends old.contents new.contents (if b && true then 10 ∷ (x ∷ xs) else (x ∷ xs)) in
    (subst P (sym next) writes.0, writes.1 ∙ next ∙ or_some old.is_begun)

-- a text after a line feed
pub text_put_after : (text : List ℕ) (old between new : Written) → WritesText (10 ∷ []) old between → WritesText text between new
    → WritesText (10 ∷ text) old new
text_put_after text old between new first next =
    (Appends-trans old.contents between.contents new.contents (10 ∷ []) text first.0 next.0, next.1 ∙ first.1)

-- a text after another
pub both_texts : (front text : List ℕ) (old between new : Written) → WritesText front old between → WritesText text between new
    → WritesText (front ++ text) old new
both_texts front text old between new first next =
    (Appends-trans old.contents between.contents new.contents front text first.0 next.0, next.1 ∙ first.1)

-- the first item of a list
pub first_item : (head between text : List ℕ) (old new : Written) → old.is_begun ≡ false → WritesText (head ++ text) (record old { is_begun = true }) new
    → WritesItem head between text old new
first_item head between text old new first writes =
    let P : Bool → Type 0 = λ b. Appends old.contents new.contents ((if b then between else head) ++ text) in (subst P (sym first) writes.0, writes.1)

-- the next one
pub next_item : (head between text : List ℕ) (old new : Written) → old.is_begun ≡ true → WritesText (between ++ text) old new
    → WritesItem head between text old new
next_item head between text old new next writes =
    let P : Bool → Type 0 = λ b. Appends old.contents new.contents ((if b then between else head) ++ text) in (subst P (sym next) writes.0, writes.1 ∙ next)
