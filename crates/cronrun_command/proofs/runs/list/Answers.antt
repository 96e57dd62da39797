use Rattle.std.proofs.Common.{Bool, string_bytes, inl, subst}
use Rattle.croner_base.specs.Zone.{Zone}
use Rattle.croner.specs.parser.Grammar.{outcome}
use Rattle.croner.specs.iterator.Listing.{standing_of}
use Rattle.croner.specs.parser.Settings.{default_settings}
use Rattle.cronrun_command.specs.Answer.{Lists}
use Rattle.cronrun_command.specs.Opened.{StandsAtStart}
use Rattle.cronrun_command.proofs.runs.list.Goals as goal

pub returns-in-Ok : goal.returns-in-Ok
returns-in-Ok g c = λ zone in_zone.
    let l = c.args.listing.now in
    let start = standing_of g.T.CronDateTime.moment c.in-Ok.runs in
    let P : Zone → Type 0 = λ z. StandsAtStart (outcome default_settings l.pattern.now) z l.at l.direction start in
    let Q : Bool → Type 0 = λ b. Lists g.T.CronDateTime.can_lack_memory b start l.count (string_bytes c.lines.result.text) c.lines.result.refusal in
    inl (start, subst P zone c.in-Ok.ensures.ok, subst Q in_zone c.lines.ensures)
