use Rattle.croner.proofs.zone.Walks.{searched_not_last}
use Rattle.croner.proofs.search.Search.past_gap.Goals as goal

pub unreachable-requires : goal.unreachable-requires
unreachable-requires g c =
    let last = rw c.in-None.is at c.one_second_on.ensures in
    searched_not_last _ _ c.requires.searched last
