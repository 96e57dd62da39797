use Rattle.croner.proofs.zone.Walks.{single_walked}
use Rattle.croner.proofs.search.Search.pass.Goals as goal

pub returns-in-Single-clause-value : goal.returns-in-Single-clause-value
returns-in-Single-clause-value g c =
    let named = rw c.in-Single.is at c.in_ok-only.ensures in
    single_walked _ _ _ _ _ _ _ named.value.0 named.value.1 c.requires.scheduled c.requires.walking
