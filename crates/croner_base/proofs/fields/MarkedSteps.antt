-- Marking a range of values, or each step of it, at once.
use Rattle.std.proofs.Common.{◌≡◌, ◌≢◌, ℕ, zero, suc, ◌+◌, ◌-◌, ◌*◌, ◌/◌, ◌%◌, ◌<◌, ◌≤◌, true, false, Bool, List, ◌∷◌, length, get_or, set, bit_or, Result, Ok, Err, refl, ap, sym, ◌∙◌, arith, subst, inl, inr, length-set, get_or-set_same, get_or-set_other, ltb}
use Rattle.std.specs.List.{range_with_len}
use Rattle.std.proofs.Math.Nat.{mul-mod_left, div-one}
use Rattle.std.proofs.lemmas.Bool.Decides.{nat_tests}
use Rattle.std.proofs.lemmas.Bool.{cases_eq, cases_lt, false≢true}
use Rattle.std.proofs.lemmas.List.{ext_get_or, append-nil}
use Rattle.std.proofs.lemmas.Nat.{div-add-mod', le-div}
use native.Mathlib.Nat.{le-div_iff_mul-le}
use Rattle.croner_base.specs.declared.errors.CronError.{CronError}
use Rattle.croner_base.specs.Answers.{SucceedsIff, IsFieldError}
use Rattle.croner_base.specs.Field.{Shape, Field, with_mark, can_mark, room, values_between}
use Rattle.croner_base.specs.Part.{all_marked, stepped, stepped_marks}
use Rattle.croner_base.specs.Reading.{Reading, refused, nothing, ◌then◌, wants, applied, Reads}
use Rattle.croner_base.specs.Private.words.Marked.{Marked, Gains, SteppedTo}
use Rattle.croner_base.proofs.fields.ReadingsInTurn.{Completes-all, all_marked-fault}

-- n sums from place a on, each a step after the one before, with the bits
abbrev pub filled : List ℕ → ℕ → ℕ → ℕ → ℕ → List ℕ
filled xs a zero step bits = xs
filled xs a (suc n) step bits = filled (set xs a (bit_or (get_or xs a 0) bits)) (a + step) n step bits

length-filled : (xs : List ℕ) (a n step bits : ℕ) → length (filled xs a n step bits) ≡ length xs
length-filled xs a zero step bits = refl
length-filled xs a (suc n) step bits = length-filled (set xs a (bit_or (get_or xs a 0) bits)) (a + step) n step bits ∙ length-set xs a _

-- where one value can be marked, so can each further one up to the maximum
can_mark-between : (shape : Shape) (v w bits : ℕ) → can_mark shape v bits ≡ true → v ≤ w → w ≤ shape.max + shape.offset → can_mark shape w bits ≡ true
can_mark-between shape v w bits h o m = grind (arith, nat_tests)

can_mark-offset : (shape : Shape) (v bits : ℕ) → can_mark shape v bits ≡ true → shape.offset ≤ v
can_mark-offset shape v bits h = grind (arith, nat_tests)

can_mark-some : (shape : Shape) (v bits : ℕ) → can_mark shape v bits ≡ true → 0 < shape.max
can_mark-some shape v bits h = grind (arith, nat_tests)

-- and has its place
can_mark-within : (shape : Shape) (first last bits end size : ℕ) → can_mark shape first bits ≡ true → first ≤ last → last ≤ shape.max + shape.offset → size ≡ room shape.max → end ≡ (last + 1) - shape.offset → end ≤ size
can_mark-within shape first last bits end size h o m held e =
    let some : 0 < shape.max = can_mark-some shape first bits h in
    grind (arith, nat_tests)

-- each of the values up to one can be marked
abbrev EachCan : Shape → ℕ → ℕ → ℕ → Type 0
EachCan shape v last bits = (w : ℕ) → v ≤ w → w ≤ last → can_mark shape w bits ≡ true

pub record MarksAll (r : Reading) (old new : Field) : Type 0 where
  pub accepted : r.accepted ≡ true
  pub state : applied r.done old ≡ new

all_marked-filled : (f : Field) (bits v n step : ℕ) → EachCan f.shape v (v + n * step) bits → MarksAll (all_marked f.shape bits (stepped v n step)) f (record f { marks = filled f.marks (v - f.shape.offset) (suc n) step bits })
all_marked-filled f bits v zero step h = rw (h v (omega arith) (omega arith)) (record { accepted = refl; state = refl })
all_marked-filled f bits v (suc n) step h =
    let can : can_mark f.shape v bits ≡ true = h v (omega arith) (omega arith) in
    let next = all_marked-filled (with_mark f (v - f.shape.offset) bits) bits (v + step) n step (λ w a b. h w (omega (arith, a)) (omega (arith, b))) in
    let low : f.shape.offset ≤ v = can_mark-offset f.shape v bits can in
    let place : (v + step) - f.shape.offset ≡ (v - f.shape.offset) + step = omega (arith, low) in
    rw can (record {
      accepted = next.accepted;
      state = next.state ∙ ap (λ k. let g : Field = record f { marks = filled (set f.marks (v - f.shape.offset) (bit_or (get_or f.marks (v - f.shape.offset) 0) bits)) k (suc n) step bits } in g) place;
    })

-- what a filled list has, outside its places and at them
filled-outside : (xs : List ℕ) (a n step bits v : ℕ) → ((j : ℕ) → j < n → v ≢ a + j * step) → get_or (filled xs a n step bits) v 0 ≡ get_or xs v 0
filled-outside xs a zero step bits v h = refl
filled-outside xs a (suc n) step bits v h =
    filled-outside (set xs a (bit_or (get_or xs a 0) bits)) (a + step) n step bits v (λ j lt e. h (suc j) (omega (arith, lt)) (omega (arith, e)))
    ∙ get_or-set_other xs a v _ 0 (λ e. h 0 (omega arith) (omega (arith, e)))

filled-inside : (xs : List ℕ) (a n step bits v j : ℕ) → 0 < step → j < n → v ≡ a + j * step → v < length xs → get_or (filled xs a n step bits) v 0 ≡ bit_or (get_or xs v 0) bits
filled-inside xs a zero step bits v j some lt e l = absurd (omega (arith, lt))
filled-inside xs a (suc n) step bits v zero some lt e l =
    let same : v ≡ a = omega (arith, e) in
    filled-outside (set xs a (bit_or (get_or xs a 0) bits)) (a + step) n step bits v (λ i less at. absurd (omega (arith, same, at, some)))
    ∙ subst (λ u. get_or (set xs a (bit_or (get_or xs a 0) bits)) u 0 ≡ bit_or (get_or xs u 0) bits) (sym same) (get_or-set_same xs a (bit_or (get_or xs a 0) bits) 0 (omega (arith, same, l)))
filled-inside xs a (suc n) step bits v (suc j) some lt e l =
    let other : v ≢ a = λ same. omega (arith, same, e, some) in
    filled-inside (set xs a (bit_or (get_or xs a 0) bits)) (a + step) n step bits v j some (omega (arith, lt)) (omega (arith, e)) (omega (arith, l, length-set xs a (bit_or (get_or xs a 0) bits)))
    ∙ ap (λ x. bit_or x bits) (get_or-set_other xs a v (bit_or (get_or xs a 0) bits) 0 other)

-- the places are the steps of the range
record IsPlace (a b step v : ℕ) : Type 0 where
  count : ℕ
  bound : count ≤ (b - a) / step
  is : v ≡ a + count * step

place_of-step : (a b step v : ℕ) → 0 < step → SteppedTo a b step v → IsPlace a b step v
place_of-step a b step v some is =
    let whole : (v - a) / step * step ≡ v - a = omega (arith, div-add-mod' (v - a) step, is.0.1) in
    record {
      count = (v - a) / step;
      bound = le-div ((v - a) / step) (b - a) step some (omega (arith, whole, is.1));
      is = omega (arith, whole, is.0.0);
    }

step_of-place : (a b step v j : ℕ) → 0 < step → a ≤ b → j ≤ (b - a) / step → v ≡ a + j * step → SteppedTo a b step v
step_of-place a b step v j some order bound is =
    let within : j * step ≤ b - a = (le-div_iff_mul-le some).0 bound in
    let d : v - a ≡ j * step = omega (arith, is) in
    ((omega (arith, is), ap (λ x. x % step) d ∙ mul-mod_left j step), omega (arith, is, within, order))

-- the same as code does it: the steps of the range gain the bits
gained-filled : (f : Field) (old new : Marked) (bits a b step : ℕ) → old.marks ≡ f.marks → Gains old new bits (SteppedTo a b step) → 0 < step → a ≤ b → b < length f.marks → filled f.marks a (suc ((b - a) / step)) step bits ≡ new.marks
gained-filled f old new bits a b step is g some order here = ext_get_or 0 _ _ (length-filled f.marks a (suc ((b - a) / step)) step bits ∙ sym (g.length ∙ ap length is)) (λ v lt. elim (cases_lt v a) [
  | inl low ↦ outside v (λ at. omega (arith, low, at.0.0))
  | inr from ↦ elim (cases_lt b v) [
    | inl high ↦ outside v (λ at. omega (arith, high, at.1))
    | inr to ↦ elim (cases_eq ((v - a) % step) 0) [
      | inr between ↦ outside v (λ at. between at.0.1)
      | inl on ↦ inside v ((from, on), omega (arith, to))
    ]
  ]
])
  where
    outside : (v : ℕ) → (SteppedTo a b step v → ⊥) → get_or (filled f.marks a (suc ((b - a) / step)) step bits) v 0 ≡ get_or new.marks v 0
    outside v off =
        filled-outside f.marks a (suc ((b - a) / step)) step bits v (λ j lt e. off (step_of-place a b step v j some order (omega (arith, lt)) e))
        ∙ sym (g.kept v off ∙ ap (λ xs. get_or xs v 0) is)

    inside : (v : ℕ) → SteppedTo a b step v → get_or (filled f.marks a (suc ((b - a) / step)) step bits) v 0 ≡ get_or new.marks v 0
    inside v on =
        let p = place_of-step a b step v some on in
        filled-inside f.marks a (suc ((b - a) / step)) step bits v p.count some (omega (arith, p.bound)) p.is (omega (arith, on.1, here))
        ∙ sym (g.inside v on ∙ ap (λ xs. bit_or (get_or xs v 0) bits) is)

-- each step of a range, from its first value
pub MarksAll-gained : (f : Field) (bits first last step a b : ℕ) (old new : Marked) → can_mark f.shape first bits ≡ true → 0 < step → first ≤ last → last ≤ f.shape.max + f.shape.offset → length f.marks ≡ room f.shape.max → old.marks ≡ f.marks → a ≡ first - f.shape.offset → b ≡ last - f.shape.offset → Gains old new bits (SteppedTo a b step)
    → MarksAll (all_marked f.shape bits (stepped first ((last - first) / step) step)) f (record f { marks = new.marks })
MarksAll-gained f bits first last step a b old new h some o m held is at to g =
    let low : f.shape.offset ≤ first = can_mark-offset f.shape first bits h in
    let order : a ≤ b = omega (arith, at, to, o) in
    let count : (b - a) / step ≡ (last - first) / step = ap (λ n. n / step) (let e : b - a ≡ last - first = omega (arith, at, to, low, o) in e) in
    let within = can_mark-within f.shape first last bits (b + 1) (length f.marks) h o m held (omega (arith, to, low, o)) in
    let reach : (last - first) / step * step ≤ last - first = omega (arith, div-add-mod' (last - first) step) in
    let all = all_marked-filled f bits first ((last - first) / step) step (λ w x y. can_mark-between f.shape first w bits h x (omega (arith, y, reach, o, m))) in
    let same : filled f.marks (first - f.shape.offset) (suc ((last - first) / step)) step bits ≡ new.marks =
    ap (λ k. filled f.marks k (suc ((last - first) / step)) step bits) (sym at) ∙ ap (λ n. filled f.marks a (suc n) step bits) (sym count) ∙ gained-filled f old new bits a b step is g some order (omega (arith, within)) in
    record { accepted = all.accepted; state = all.state ∙ ap (λ ys. let g : Field = record f { marks = ys } in g) same }

-- ---- a range

range_stepped : (v n : ℕ) → range_with_len v (suc n) ≡ stepped v n 1
range_stepped v zero = refl
range_stepped v (suc n) = ap (λ vs. v ∷ vs) (range_stepped (v + 1) n)

-- a whole range
pub Reads-gained : (f : Field) (bits first last a b : ℕ) (old new : Marked) → can_mark f.shape first bits ≡ true → first ≤ last → last ≤ f.shape.max + f.shape.offset → length f.marks ≡ room f.shape.max → old.marks ≡ f.marks → a ≡ first - f.shape.offset → b ≡ last - f.shape.offset → Gains old new bits (SteppedTo a b 1) → Reads {X = Unit {0}} (all_marked f.shape bits (values_between first last)) f (record f { marks = new.marks }) (Ok tt)
Reads-gained f bits first last a b old new h o m held is at to g =
    let all = MarksAll-gained f bits first last 1 a b old new h (omega arith) o m held is at to g in
    let count : (last - first) / 1 ≡ last - first = div-one (last - first) in
    let long : (last + 1) - first ≡ suc (last - first) = omega (arith, o) in
    let same : stepped first ((last - first) / 1) 1 ≡ values_between first last = ap (λ n. stepped first n 1) count ∙ sym (ap (range_with_len first) long ∙ range_stepped first (last - first)) in
    subst (λ vs. Reads {X = Unit {0}} (all_marked f.shape bits vs) f (record f { marks = new.marks }) (Ok tt)) same (record { answer = all.accepted; state = sym all.state })

-- or nothing of it, where its first value can't be marked
pub Reads-unfilled : (f : Field) (bits first last : ℕ) (e : CronError) → first ≤ last → (can_mark f.shape first bits ≡ false) × IsFieldError e → Reads {X = Unit {0}} (all_marked f.shape bits (values_between first last)) f f (Err e)
Reads-unfilled f bits first last e o a = all_marked-fault f.shape bits first last refl o a refl (Completes-all _ f)

-- ---- a step

-- the value after the marks
pub after_steps : (first last step end : ℕ) → first ≤ last → end ≡ last - (last - first) % step → first + ((last - first) / step + 1) * step ≡ end + step
after_steps first last step end o is = omega (arith, o, is, div-add-mod' (last - first) step)

then_wants : (r : Reading) (old new : Field) (test : Bool) (answer : Result (Unit {0}) CronError) → MarksAll r old new → SucceedsIff test answer → Reads (r then wants test nothing) old new answer
then_wants r old new true (Ok x) all h = rw all.accepted (record { answer = refl; state = sym (ap (λ d. applied d old) (append-nil r.done) ∙ all.state) })
then_wants r old new false (Err e) all h = rw all.accepted (record { answer = (refl, h.1); state = sym (ap (λ d. applied d old) (append-nil r.done) ∙ all.state) })
then_wants r old new true (Err e) all h = absurd (false≢true (sym h.0))
then_wants r old new false (Ok x) all h = absurd (false≢true h)

-- all steps of it, and then the value after them is a number or is none
pub Reads-stepped : (f new : Field) (bits first last step : ℕ) (answer : Result (Unit {0}) CronError) → MarksAll (all_marked f.shape bits (stepped first ((last - first) / step) step)) f new → SucceedsIff (ltb (first + ((last - first) / step + 1) * step) 65536) answer → Reads (stepped_marks f.shape bits first last step) f new answer
Reads-stepped f new bits first last step answer all h = then_wants (all_marked f.shape bits (stepped first ((last - first) / step) step)) f new (ltb (first + ((last - first) / step + 1) * step) 65536) answer all h

-- or none of it, where its first value can't be marked
unmarked : (f : Field) (bits v n step : ℕ) (next : Reading) → can_mark f.shape v bits ≡ false → (all_marked f.shape bits (stepped v n step) then next) ≡ refused
unmarked f bits v zero step next h = rw h refl
unmarked f bits v (suc n) step next h = rw h refl

pub Reads-unstepped : (f : Field) (bits first last step : ℕ) (e : CronError) → (can_mark f.shape first bits ≡ false) × IsFieldError e → Reads {X = Unit {0}} (stepped_marks f.shape bits first last step) f f (Err e)
Reads-unstepped f bits first last step e a =
    let none = unmarked f bits first ((last - first) / step) step (wants (ltb (first + ((last - first) / step + 1) * step) 65536) nothing) a.0 in
    record {
      answer = (ap (λ r. r.accepted) none, a.1);
      state = sym (ap (λ r. applied r.done f) none);
    }
