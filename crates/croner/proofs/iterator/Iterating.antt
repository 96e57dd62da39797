-- What a call of an iterator's `next` does, from the search that it makes.
use Rattle.std.proofs.Common.{IsTrue, Bool, Option, Some, None, Result, Ok, Err, IfOk, IfErr, sym, subst, inl, inr, ap, ◌∙◌, refl}
use Rattle.croner_base.specs.Zone.{Moment}
use Rattle.croner_base.specs.declared.errors.CronError.{CronError}
use Rattle.croner_base.specs.declared.errors.CronError.TheVariants.{OutOfMemory}
use Rattle.croner_base.specs.declared.time.Direction.{Direction}
use Rattle.croner.specs.search.Runs.{Timetable}
use Rattle.croner.specs.search.PatternJob.{timetable_of}
use Rattle.croner.specs.search.Searches.{IsFound, IsRefused}
use Rattle.croner.specs.iterator.Listing.{standing_of, counts_position, moved, Settles, Steps}
use Rattle.croner.specs.declared.iterator.CronIterator.{CronIterator}

-- lack of memory for the item of a run that was found is a refusal too
memory_refused : (lack : Bool) (direction : Direction) (inclusive : Bool) (timetable : Timetable) (start found : Moment) → IsFound direction inclusive timetable start found → IsTrue lack → IsRefused lack direction inclusive timetable start OutOfMemory
memory_refused lack direction inclusive timetable start found is memory = record {
  limit = λ h limit. absurd (cc);
  promised = λ h. inr (refl, memory);
  kind = inl (inr (refl, memory));
  past = λ p. absurd (is.left p);
}

-- a call does what its search and what comes of it say
steps : {T : Type 0} (moment : T → Moment) (lack : Bool) (old new : CronIterator T) (answer : Result T CronError) (result : Option T)
    → Settles moment lack (standing_of moment old) answer result (standing_of moment new)
    → IfOk answer (λ t. IsFound old.direction (counts_position (standing_of moment old)) (timetable_of (standing_of moment old).pattern) (moment old.position) (moment t))
    → IfErr answer (IsRefused lack old.direction (counts_position (standing_of moment old)) (timetable_of (standing_of moment old).pattern) (moment old.position))
    → Steps moment lack old result new
steps moment lack old new (Ok t) (Some item) settled found refused =
    let s = standing_of moment old in
    let P : Moment → Type 0 = λ m. IsFound s.direction (counts_position s) (timetable_of s.pattern) s.position m in
    record { stands = settled.1 ∙ ap (moved s) (sym settled.0); found = subst P (sym settled.0) found }
steps moment lack old new (Ok t) None settled found refused =
    let s = standing_of moment old in
    record {
      refusal = OutOfMemory;
      refused = memory_refused lack s.direction (counts_position s) (timetable_of s.pattern) s.position (moment t) found settled.0;
      stands = settled.1;
    }
steps moment lack old new (Err e) (Some item) settled found refused = absurd settled
steps moment lack old new (Err e) None settled found refused = record { refusal = e; refused = refused; stands = settled }

-- the first part of the conclusion shows `grind` what to match
pub settles : {T : Type 0} (moment : T → Moment) (lack : Bool) (old new : CronIterator T) (answer : Result T CronError) (result : Option T)
    → Settles moment lack (standing_of moment old) answer result (standing_of moment new)
    → IfOk answer (λ t. IsFound old.direction (counts_position (standing_of moment old)) (timetable_of (standing_of moment old).pattern) (moment old.position) (moment t))
    → IfErr answer (IsRefused lack old.direction (counts_position (standing_of moment old)) (timetable_of (standing_of moment old).pattern) (moment old.position))
    → Settles moment lack (standing_of moment old) answer result (standing_of moment new) × Steps moment lack old result new
settles moment lack old new answer result settled found refused = (settled, steps moment lack old new answer result settled found refused)
