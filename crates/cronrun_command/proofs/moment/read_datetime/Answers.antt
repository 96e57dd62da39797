use Rattle.std.proofs.Common.{List, ℕ, subst, sym, take}
use Rattle.std.proofs.lemmas.Bool.{false≢true}
use Rattle.cronrun_command.specs.Moment.{IsDateText}
use Rattle.cronrun_command.proofs.moment.read_datetime.Goals as goal

pub returns-in_err-date-clause-finds : goal.returns-in_err-date-clause-finds
returns-in_err-date-clause-finds c = λ m h.
    let P : List ℕ → Type 0 = λ bytes. IsDateText (take 10 bytes) m.date in
    absurd (false≢true (c.in_err-date.ensures.finds m.date (subst P (sym c.as_bytes-bytes.ensures.value) h.0)))
