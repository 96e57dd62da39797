use Rattle.std.proofs.Common.{rules}
use Rattle.croner_base.proofs.fields.StarAlone.{star_parts}
use Rattle.croner_base.proofs.component.CronComponent.parse_parts.Goals as goal

pub returns-then-eq : goal.returns-then-eq
returns-then-eq c = star_parts c.args.self.now.shape c.args.field.now (search rules) c.mark_star.ensures
