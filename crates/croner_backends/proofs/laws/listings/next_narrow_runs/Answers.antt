use Rattle.std.proofs.Common.{◌≡◌, Option, None, false, refl, inl, inr}
use Rattle.std.proofs.lemmas.Bool.{false≢true}
use Rattle.std.proofs.lemmas.Result.{IfOk-weaker}
use Rattle.croner_base.specs.declared.errors.CronError.{CronError}
use Rattle.croner.specs.iterator.Faults.{IsMemoryAlone}
use Rattle.croner.specs.iterator.Listing.{standing_of}
use Rattle.croner_backends.specs.NarrowMoment.{narrow_moment}
use Rattle.croner_backends.proofs.BackendsCalm.{narrow_starts_calm}
use Rattle.croner_backends.proofs.laws.listings.next_narrow_runs.Goals as goal

pub returns-clause-listing : goal.returns-clause-listing
returns-clause-listing c = c.next_runs.ensures.listing (narrow_starts_calm c.args.iterator.now.position)

pub returns-clause-rest : goal.returns-clause-rest
returns-clause-rest c = c.next_runs.ensures.rest (narrow_starts_calm c.args.iterator.now.position)

pub returns-clause-all : goal.returns-clause-all
returns-clause-all c = c.next_runs.ensures.all (narrow_starts_calm c.args.iterator.now.position)

pub returns-clause-counted : goal.returns-clause-counted
returns-clause-counted c = λ held. c.next_runs.ensures.counted held refl

-- without lack of memory there is no fault
none_alone : (fault : Option CronError) → IsMemoryAlone false fault → fault ≡ None
none_alone fault alone = elim alone [ inl none ↦ none | inr (memory, can) ↦ absurd (false≢true can) ]

pub returns-clause-fault : goal.returns-clause-fault
returns-clause-fault c = λ held some.
    let fault : Option CronError = (standing_of narrow_moment c.next_runs.new.iterator).fault in
    IfOk-weaker c.next_runs.result (λ r. IsMemoryAlone false fault) (λ r. fault ≡ None) (λ r alone. none_alone fault alone) (c.next_runs.ensures.fault held some)
