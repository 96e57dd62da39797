use Rattle.std.proofs.Common.{rules, ◌≡◌, ◌∙◌, not, eqb, length, ap}
use Rattle.std.specs.List.{list_any}
use Rattle.croner_base.specs.Field.{room, has_any}
use Rattle.croner_base.proofs.words.Counting.{any_marked}
use Rattle.croner_base.proofs.component.CronComponent.has_modifiers.Goals as goal

pub returns-else-self-ne-NONE_BIT : goal.returns-else-self-ne-NONE_BIT
returns-else-self-ne-NONE_BIT c =
    let places : length c.self.inside.marks.marks ≡ room c.self.inside.marks.max = cc in
    let a : not (eqb c.count_from.result 0) ≡ list_any (λ m. has_any m 254) c.args.self.now.marks =
    ap (λ n. not (eqb n 0)) c.count_from.ensures ∙ any_marked c.self.inside.marks 254 places ∙ ap (λ f. list_any (λ m. has_any m 254) f.marks) c.self.view_is in
    search (rules, a)
