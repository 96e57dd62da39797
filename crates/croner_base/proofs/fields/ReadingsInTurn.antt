-- One reading after another.
use Rattle.std.proofs.Common.{◌≡◌, ℕ, ◌+◌, ◌-◌, ◌≤◌, true, false, List, [], ◌∷◌, ◌++◌, Result, Ok, Err, OnOk, OnErr, refl, ap, sym, ◌∙◌, subst}
use Rattle.croner_base.specs.declared.errors.CronError.{CronError}
use Rattle.croner_base.specs.Field.{Shape, Field, with_mark, can_mark, values_between}
use Rattle.croner_base.specs.Answers.{SucceedsIff, IsFieldError}
use Rattle.croner_base.specs.Part.{marked, all_marked}
use Rattle.croner_base.proofs.fields.ValueRanges.{range_more}
use Rattle.croner_base.specs.Reading.{Effect, marks, enables, steps, stars, Reading, nothing, ◌then◌, applied, applied_one, Reads}

pub applied-append : (xs ys : List Effect) (f : Field) → applied (xs ++ ys) f ≡ applied ys (applied xs f)
applied-append [] ys f = refl
applied-append (x ∷ xs) ys f = applied-append xs ys (applied_one x f)

shape-applied_one : (x : Effect) (f : Field) → (applied_one x f).shape ≡ f.shape
shape-applied_one (marks v bits) f = refl
shape-applied_one (enables bits) f = refl
shape-applied_one (steps n) f = refl
shape-applied_one stars f = refl

-- reading leaves the shape alone
pub shape-applied : (xs : List Effect) (f : Field) → (applied xs f).shape ≡ f.shape
shape-applied [] f = refl
shape-applied (x ∷ xs) f = shape-applied xs (applied_one x f) ∙ shape-applied_one x f

-- reading the rest from here ends as reading the whole from the start does
pub record Completes (rest : Reading) (here : Field) (whole : Reading) (start : Field) : Type 0 where
  pub accepted : rest.accepted ≡ whole.accepted
  pub state : applied rest.done here ≡ applied whole.done start

pub Completes-all : (r : Reading) (f : Field) → Completes r f r f
Completes-all r f = record { accepted = refl; state = refl }

pub shape-Reads : {X : Type 0} {r : Reading} {old new : Field} {answer : Result X CronError} → Reads r old new answer → new.shape ≡ old.shape
shape-Reads {r = r} {old = old} h = ap (λ f. f.shape) h.state ∙ shape-applied r.done old

-- after a first step that succeeded the next completes the whole
pub Completes-next : {X : Type 0} {first whole : Reading} {here start new : Field} {x : X} (next : Reading) → Reads first here new (Ok x) → Completes (first then next) here whole start → Completes next new whole start
Completes-next {first = first} {here = here} next h c =
    let fine : first.accepted ≡ true = h.answer in
    let joined : first then next ≡ record { done = first.done ++ next.done; accepted = next.accepted } = rw fine refl in
    record {
      accepted = ap (λ r. r.accepted) (sym joined) ∙ c.accepted;
      state = ap (applied next.done) h.state ∙ sym (applied-append first.done next.done here) ∙ ap (λ r. applied r.done here) (sym joined) ∙ c.state;
    }

-- and one that failed ends it
pub Reads-fault : {X Y : Type 0} {first whole : Reading} {here start new : Field} {e : CronError} (next : Reading) → Reads {X = X} first here new (Err e) → Completes (first then next) here whole start → Reads {X = Y} whole start new (Err e)
Reads-fault {first = first} {here = here} {e = e} next h c =
    let bad : first.accepted ≡ false = h.answer.0 in
    let stopped : first then next ≡ first = rw bad refl in
    record {
      answer = (sym c.accepted ∙ ap (λ r. r.accepted) stopped ∙ bad, h.answer.1);
      state = h.state ∙ ap (λ r. applied r.done here) (sym stopped) ∙ c.state;
    }

-- at the end, where nothing is left
pub Reads-end : {whole : Reading} {here start : Field} → Completes nothing here whole start → Reads {X = Unit {0}} whole start here (Ok tt)
Reads-end c = record { answer = sym c.accepted; state = c.state }

-- what a call of set_bit does
pub Reads-set_bit : (shape : Shape) (bits pos : ℕ) {old new : Field} {answer : Result (Unit {0}) CronError} → SucceedsIff (can_mark shape pos bits) answer → OnOk answer (new ≡ with_mark old (pos - shape.offset) bits) → OnErr answer (new ≡ old) → Reads (marked shape bits pos) old new answer
Reads-set_bit shape bits pos {answer = Ok x} a ok err = rw a (record { answer = refl; state = ok })
Reads-set_bit shape bits pos {answer = Err e} a ok err = rw a.0 (record { answer = (refl, a.1); state = err })

-- marking the values from v on, where v is marked or refused
all_marked-more : (shape : Shape) (bits v last : ℕ) → v ≤ last → all_marked shape bits (values_between v last) ≡ marked shape bits v then all_marked shape bits (values_between (v + 1) last)
all_marked-more shape bits v last h = ap (all_marked shape bits) (range_more v last h)

pub all_marked-fault : (shape : Shape) (bits v last : ℕ) {whole : Reading} {here start new : Field} {e : CronError} → here.shape ≡ shape → v ≤ last → (can_mark here.shape v bits ≡ false) × IsFieldError e → new ≡ here → Completes (all_marked shape bits (values_between v last)) here whole start → Reads {X = Unit {0}} whole start new (Err e)
all_marked-fault shape bits v last {whole} {here} {start} {new} {e} same h a err c =
    Reads-fault {X = Unit {0}} {first = marked here.shape bits v} (all_marked shape bits (values_between (v + 1) last))
    (Reads-set_bit here.shape bits v {answer = Err e} a tt err)
    (subst (λ s. Completes (marked s bits v then all_marked shape bits (values_between (v + 1) last)) here whole start) (sym same)
    (subst (λ r. Completes r here whole start) (all_marked-more shape bits v last h) c))
