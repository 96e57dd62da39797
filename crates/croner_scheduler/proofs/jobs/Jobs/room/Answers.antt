use Rattle.std.proofs.Common.{rules, ◌≡◌, arith, subst, ◌<◌, ◌+◌, ◌^◌, min, length}
use Rattle.croner_scheduler.proofs.Places.{no_more}
use Rattle.croner_scheduler.specs.Room.{row_room}
use Rattle.croner_scheduler.proofs.jobs.Jobs.room.Goals as goal

pub returns-clause-fits : goal.returns-clause-fits
returns-clause-fits g c =
    let self = c.self.inside in
    let le = no_more self.ids.items self.places.items in
    let is : c.min.result ≡ min self.ids.room (row_room self.places) = search rules in
    subst (λ jobs. length jobs.entries + c.min.result < 2 ^ 64) c.self.view_is (omega (arith, le, is, c.self.invariant.0.beside, self.places.ok.0, self.places.ok.1, self.places.small))
