-- A pattern that is not read.
use Rattle.std.proofs.Common.{◌≡◌, Result, Ok, Err, IfErr, IsErrAnd, subst, sym, refl}
use Rattle.croner_base.specs.declared.errors.CronError.{CronError}
use Rattle.croner_base.specs.declared.errors.CronError.TheVariants as errors
use Rattle.croner_pattern.specs.Meaning.{Meaning}
use Rattle.croner.specs.parser.Gives.{Fails}
use Rattle.croner.specs.parser.Grammar.{Refusal}
use Rattle.cronrun_command.specs.Refused.{IsUnread}

fails_unread : (e : CronError) (outcome : Result Meaning Refusal) → Fails {Y = Meaning} e outcome → IsUnread outcome e
fails_unread e (Err refusal) h = h
fails_unread errors.EmptyPattern (Ok m) h = absurd cc
fails_unread (errors.InvalidPattern message) (Ok m) h = absurd cc
fails_unread (errors.IllegalCharacters message) (Ok m) h = absurd cc
fails_unread (errors.ComponentError message) (Ok m) h = absurd cc
fails_unread errors.InvalidDate (Ok m) h = absurd h
fails_unread errors.InvalidTime (Ok m) h = absurd h
fails_unread errors.TimeSearchLimitExceeded (Ok m) h = absurd h
fails_unread errors.OutOfMemory (Ok m) h = refl

-- what a refused pattern returns
pub refused_unread : {X : Type 0} (r : Result X CronError) (e : CronError) (outcome : Result Meaning Refusal) → IsErrAnd r (λ y. y ≡ e)
    → Fails {Y = Meaning} e outcome → IfErr r (IsUnread outcome)
refused_unread (Ok x) e outcome is fails = tt
refused_unread (Err y) e outcome is fails =
    let P : CronError → Type 0 = λ d. IsUnread outcome d in subst P (sym is) (fails_unread e outcome fails)
