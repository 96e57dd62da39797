-- What a call learnt of a text, as the definitions of its differences say it.
use Rattle.std.proofs.Common.{◌≡◌, ◌∙◌, sym, ap, refl, subst, ℕ, Bool, false, List}
use Rattle.std.specs.Prelude.{Result, Ok, Err, IfOk, filter}
use Rattle.std.specs.Str.{str_to_ascii_uppercase}
use Rattle.croner_base.specs.declared.errors.CronError.{CronError}
use Rattle.croner_base.specs.declared.errors.CronError.TheVariants as errors
use Rattle.croner_pattern.specs.Meaning.{Meaning}
use Rattle.croner.specs.declared.job.Cron.{Cron}
use Rattle.croner.specs.parser.Gives.{Fails, Gives}
use Rattle.croner.specs.parser.Grammar.{Refusal, outcome}
use Rattle.croner.specs.parser.Settings.{Settings}
use Rattle.croner.specs.Views.{job_of}
use Rattle.croner.specs.parser.Words.{AreWords}
use Rattle.croner_presets.specs.declared.difference.Difference.{Difference}
use Rattle.croner_presets.specs.declared.preset.Preset.{Preset}
use Rattle.croner_presets.specs.Presets.{differences_looked_for}
use Rattle.croner_presets.specs.Differences.{is_frequent, means_frequent, holds, AreDifferences}

-- of the words of the text in capitals those that hold were found
pub all_told : {X : Type 0} (items : X → List Difference) (r : Result X CronError) (preset : Preset) (text raised : List ℕ) (words : List (List ℕ)) (looked : List Difference)
    → raised ≡ str_to_ascii_uppercase text → AreWords raised words → looked ≡ differences_looked_for preset → IfOk r (λ x. items x ≡ filter (holds preset text words) looked)
    → IfOk r (λ x. AreDifferences preset text (items x))
all_told items (Ok x) preset text raised words looked is of list all =
    (words, subst (λ t. AreWords t words) is of, all ∙ ap (λ l. filter (holds preset text words) l) list)
all_told items (Err e) preset text raised words looked is of list all = tt

-- a text with a meaning is frequent as that is
pub read_frequent : (found : Bool) (m : Meaning) (meaning : Result Meaning Refusal) → meaning ≡ Ok m → found ≡ is_frequent m → found ≡ means_frequent meaning
read_frequent found m meaning is same = same ∙ sym (ap means_frequent is)

-- one that is refused is not
pub not_frequent : (e : CronError) (meaning : Result Meaning Refusal) → (e ≡ errors.OutOfMemory → ⊥) → Fails e meaning → false ≡ means_frequent meaning
not_frequent errors.EmptyPattern meaning other h = sym (ap means_frequent h)
not_frequent (errors.InvalidPattern m) meaning other h = sym (ap means_frequent h)
not_frequent (errors.IllegalCharacters m) meaning other h = sym (ap means_frequent h.1)
not_frequent (errors.ComponentError m) meaning other h = sym (ap means_frequent h.2)
not_frequent errors.OutOfMemory meaning other h = absurd (other refl)
not_frequent errors.InvalidDate meaning other h = absurd h
not_frequent errors.InvalidTime meaning other h = absurd h
not_frequent errors.TimeSearchLimitExceeded meaning other h = absurd h

-- what the parser gave, handed on by the settings of a preset
pub given_read : (r : Result Cron CronError) (job : Cron) (s t : Settings) (text : List ℕ) (found : Result Bool CronError)
    → Gives job_of r (outcome s text) → r ≡ Ok job → s ≡ t → ((meaning : Result Meaning Refusal) → meaning ≡ Ok (job_of job) → IfOk found (λ y. y ≡ means_frequent meaning))
    → IfOk found (λ y. y ≡ means_frequent (outcome t text))
given_read r job s t text found gives is same told =
    let read : outcome s text ≡ Ok (job_of job) = subst (λ q. Gives job_of q (outcome s text)) is gives in
    told (outcome t text) (subst (λ u. outcome u text ≡ Ok (job_of job)) same read)

pub given_refused : (r : Result Cron CronError) (e : CronError) (s t : Settings) (text : List ℕ) (found : Result Bool CronError)
    → Gives job_of r (outcome s text) → r ≡ Err e → s ≡ t → ((meaning : Result Meaning Refusal) → Fails e meaning → IfOk found (λ y. y ≡ means_frequent meaning))
    → IfOk found (λ y. y ≡ means_frequent (outcome t text))
given_refused r e s t text found gives is same told =
    let refused : Fails e (outcome s text) = subst (λ q. Gives job_of q (outcome s text)) is gives in
    told (outcome t text) (subst (λ u. Fails e (outcome u text)) same refused)
