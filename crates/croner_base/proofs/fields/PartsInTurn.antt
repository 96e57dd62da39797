-- Reading the parts of a list, from the front.
use Rattle.std.proofs.Common.{◌≡◌, ℕ, ◌+◌, ◌<◌, Bool, true, false, cond, eqb, List, [], ◌∷◌, ◌++◌, length, drop, get_or, Ok, Err, ap, sym, ◌∙◌, arith, subst, inl, inr}
use Rattle.std.proofs.lemmas.Bool.{cases_Bool}
use Rattle.std.proofs.lemmas.List.{at_drop_more, at_drop_all}
use Rattle.std.specs.Str.{trim}
use Rattle.croner_base.specs.declared.component.parts.RefusedPart.{RefusedPart}
use Rattle.croner_base.specs.Field.{Shape, Field}
use Rattle.croner_base.specs.Part.{part_of, parts_of, parts_read}
use Rattle.croner_base.specs.Reading.{Reading, nothing, ◌then◌, Reads, ReadsParts}
use Rattle.croner_base.proofs.fields.ReadingsInTurn.{Completes, Completes-next, Reads-fault, shape-Reads, Reads-end}

-- the text p is the next of the pieces
pub record IsNextPiece (pieces : List (List ℕ)) (n : ℕ) (p : List ℕ) : Type 0 where
  pub within : n < length pieces
  pub is : p ≡ get_or pieces n p

-- a part of a list, trimmed
abbrev part_read : Shape → List ℕ → Reading
part_read shape t = cond (eqb (length t) 0) nothing (part_of shape t)

parts_more : (shape : Shape) (pieces : List (List ℕ)) (n : ℕ) (p : List ℕ) → IsNextPiece pieces n p → parts_of shape (drop n pieces) ≡ part_read shape (trim p) then parts_of shape (drop (n + 1) pieces)
parts_more shape pieces n p h =
    at_drop_more (parts_of shape) pieces n p h.within
    ∙ ap (λ q. part_read shape (trim q) then parts_of shape (drop (n + 1) pieces)) (sym h.is)

parts_first : (shape : Shape) (pieces : List (List ℕ)) (n : ℕ) (p t : List ℕ) {whole : Reading} {here start : Field} → IsNextPiece pieces n p → t ≡ trim p → here.shape ≡ shape → Completes (parts_of shape (drop n pieces)) here whole start → Completes (part_read here.shape t then parts_of shape (drop (n + 1) pieces)) here whole start
parts_first shape pieces n p t {whole} {here} {start} h e same c =
    let r : Reading = parts_of shape (drop (n + 1) pieces) in
    subst (λ x. Completes x here whole start)
    (parts_more shape pieces n p h ∙ ap (λ q. part_read shape q then r) (sym e) ∙ ap (λ s. part_read s t then r) (sym same)) c

-- ---- how many are read

then_nothing : (r : Reading) → (r then nothing).accepted ≡ r.accepted
then_nothing r = elim (cases_Bool r.accepted) [
  | inl is_so ↦ ap (λ b. (cond b (record { done = r.done ++ []; accepted = true }) r).accepted) is_so ∙ sym is_so
  | inr is_not ↦ ap (λ b. (cond b (record { done = r.done ++ []; accepted = true }) r).accepted) is_not
]

one_read : (shape : Shape) (pieces : List (List ℕ)) (n : ℕ) (p t : List ℕ) (b : Bool) → t ≡ trim p → (part_read shape t).accepted ≡ b → (parts_of shape (p ∷ [])).accepted ≡ b
one_read shape pieces n p t b e h =
    then_nothing (part_read shape (trim p)) ∙ ap (λ q. (part_read shape q).accepted) (sym e) ∙ h

count_more : (shape : Shape) (pieces : List (List ℕ)) (n : ℕ) (p : List ℕ) → IsNextPiece pieces n p → parts_read shape (drop n pieces) ≡ cond (parts_of shape (p ∷ [])).accepted (parts_read shape (drop (n + 1) pieces) + 1) 0
count_more shape pieces n p h =
    at_drop_more (parts_read shape) pieces n p h.within
    ∙ ap (λ q. cond (parts_of shape (q ∷ [])).accepted (parts_read shape (drop (n + 1) pieces) + 1) 0) (sym h.is)

-- ---- the next part

-- so many parts are read, and the rest completes the whole
pub record HasRead (f : Shape) (pieces : List (List ℕ)) (n : ℕ) (here : Field) (whole : Reading) (start : Field) : Type 0 where
  pub shape : here.shape ≡ f
  pub completes : Completes (parts_of f (drop n pieces)) here whole start
  pub counted : parts_read f pieces ≡ n + parts_read f (drop n pieces)

pub parts-next : (shape : Shape) (pieces : List (List ℕ)) (n : ℕ) (p t : List ℕ) {whole : Reading} {here start new : Field} {x : Unit {0}} → IsNextPiece pieces n p → t ≡ trim p → Reads (part_read here.shape t) here new (Ok x) → HasRead shape pieces n here whole start → HasRead shape pieces (n + 1) new whole start
parts-next shape pieces n p t {here = here} h e one c =
    let read : (part_read shape t).accepted ≡ true = ap (λ s. (part_read s t).accepted) (sym c.shape) ∙ one.answer in
    let more = count_more shape pieces n p h ∙ ap (λ b. cond b (parts_read shape (drop (n + 1) pieces) + 1) 0) (one_read shape pieces n p t true e read) in
    record {
      shape = shape-Reads one ∙ c.shape;
      completes = Completes-next (parts_of shape (drop (n + 1) pieces)) one (parts_first shape pieces n p t h e c.shape c.completes);
      counted = omega (arith, c.counted, more);
    }

pub parts-fault : (shape : Shape) (pieces : List (List ℕ)) (n : ℕ) (p t : List ℕ) {whole : Reading} {here start new : Field} {error : RefusedPart} → IsNextPiece pieces n p → t ≡ trim p → Reads {X = Unit {0}} (part_read here.shape t) here new (Err error.error) → error.part ≡ n → HasRead shape pieces n here whole start → ReadsParts whole (parts_read shape pieces) start new (Err error)
parts-fault shape pieces n p t {here = here} h e one number c =
    let refused : (part_read shape t).accepted ≡ false = ap (λ s. (part_read s t).accepted) (sym c.shape) ∙ one.answer.0 in
    let none = count_more shape pieces n p h ∙ ap (λ b. cond b (parts_read shape (drop (n + 1) pieces) + 1) 0) (one_read shape pieces n p t false e refused) in
    let whole_read = Reads-fault {X = Unit {0}} {Y = Unit {0}} (parts_of shape (drop (n + 1) pieces)) one (parts_first shape pieces n p t h e c.shape c.completes) in
    record { answer = (whole_read.answer.0, omega (arith, number, none, c.counted), whole_read.answer.1); state = whole_read.state }

pub parts-end : (shape : Shape) (pieces : List (List ℕ)) (n : ℕ) {whole : Reading} {here start : Field} → n ≡ length pieces → HasRead shape pieces n here whole start → ReadsParts whole (parts_read shape pieces) start here (Ok tt)
parts-end shape pieces n {whole} {here} {start} e c =
    let r = Reads-end (subst (λ x. Completes x here whole start) (at_drop_all (parts_of shape) pieces n (omega arith)) c.completes) in
    record { answer = r.answer; state = r.state }
