use Rattle.std.proofs.Common.{rules, ◌≡◌, subst, ℕ, ◌≤◌, ◌<◌, ◌-◌, false, IfSome, IfNone, nat_cmp}
use Rattle.std.specs.BTreeMap.{is_at}
use Rattle.std.specs.List.{AllByRecursion}
use Rattle.std.specs.List.Sorted.{IsStrictlySortedBy}
use Rattle.croner_scheduler.proofs.Places.{with_order_some, with_order_none}
use Rattle.croner_scheduler.specs.Private.Places.{ids_from}
use Rattle.croner_scheduler.proofs.ids.Ids.first_from.Goals as goal

pub returns-in-Some-clause-between : goal.returns-in-Some-clause-between
returns-in-Some-clause-between c =
    let same : c.deref.result.now ≡ c.args.self.now.items = search rules in
    subst (λ items. IfSome c.first_among.result (λ k. IsStrictlySortedBy nat_cmp items → (other : ℕ) → c.args.id ≤ other → other < k → AllByRecursion (λ item. is_at (nat_cmp other) item ≡ false) items))
    same c.first_among.ensures.between

pub returns-in-Some-clause-none : goal.returns-in-Some-clause-none
returns-in-Some-clause-none c =
    let same : c.deref.result.now ≡ c.args.self.now.items = search rules in
    subst (λ items. IfNone c.first_among.result (IsStrictlySortedBy nat_cmp items → (other : ℕ) → c.args.id ≤ other → AllByRecursion (λ item. is_at (nat_cmp other) item ≡ false) items))
    same c.first_among.ensures.none

pub returns-in-None-clause-between : goal.returns-in-None-clause-between
returns-in-None-clause-between c =
    let self = c.self.inside in
    let same : ids_from self.first (self.next - self.first) ≡ c.args.self.now.items = search rules in
    with_order_some c.first_following.result c.args.self.now.items c.args.id
    (subst (λ items. IfSome c.first_following.result (λ k. (other : ℕ) → c.args.id ≤ other → other < k → AllByRecursion (λ item. is_at (nat_cmp other) item ≡ false) items))
    same c.first_following.ensures.between)

pub returns-in-None-clause-none : goal.returns-in-None-clause-none
returns-in-None-clause-none c =
    let self = c.self.inside in
    let same : ids_from self.first (self.next - self.first) ≡ c.args.self.now.items = search rules in
    with_order_none c.first_following.result c.args.self.now.items c.args.id
    (subst (λ items. IfNone c.first_following.result ((other : ℕ) → c.args.id ≤ other → AllByRecursion (λ item. is_at (nat_cmp other) item ≡ false) items))
    same c.first_following.ensures.none)
