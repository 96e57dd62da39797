use Rattle.std.proofs.Common.{◌≡◌, Equal, sym, subst}
use Rattle.std.specs.Cmp.{tied_itself}
use Rattle.croner_base.specs.Order.{field_cmp, field_cmp_total}
use Rattle.croner_base.proofs.component.compare.CronComponentOrd.cmp.Goals as goal

pub returns-then-is_same : goal.returns-then-is_same
returns-then-is_same c =
    sym (subst (λ f. field_cmp c.args.self.now f ≡ Equal) (c.is_same.ensures c.if-is_same.true) (tied_itself field_cmp_total c.args.self.now))
