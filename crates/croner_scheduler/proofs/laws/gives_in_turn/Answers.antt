use Rattle.croner_scheduler.proofs.History.{gives_in_turn, never_keeps_back, stays_gone}
use Rattle.croner_scheduler.proofs.Lives.{gives_across, gives_of_one_life}
use Rattle.croner_scheduler.proofs.Restarts.{gives_again}
use Rattle.croner_scheduler.specs.Views.{held_of}
use Rattle.std.proofs.Common.{◌≡◌, ℕ, ◌≤◌, None, subst}
use Rattle.croner_scheduler.proofs.laws.gives_in_turn.Goals as goal

pub returns-clause-given : goal.returns-clause-given
returns-clause-given g c = gives_in_turn g.J.Recurring.runs (held_of g.T.CronDateTime.moment c.args.scheduler.now)

pub returns-clause-none_back : goal.returns-clause-none_back
returns-clause-none_back g c = never_keeps_back g.J.Recurring.runs (held_of g.T.CronDateTime.moment c.args.scheduler.now)

pub returns-clause-gone : goal.returns-clause-gone
returns-clause-gone g c = stays_gone g.J.Recurring.runs (held_of g.T.CronDateTime.moment c.args.scheduler.now)

pub returns-clause-across : goal.returns-clause-across
returns-clause-across g c = gives_across g.J.Recurring.runs (held_of g.T.CronDateTime.moment c.args.scheduler.now)

pub returns-clause-one_life : goal.returns-clause-one_life
returns-clause-one_life g c =
    let scheduler = c.args.scheduler.now in
    gives_of_one_life g.J.Recurring.runs (held_of g.T.CronDateTime.moment scheduler)
    (subst (λ n. (id : ℕ) → n ≤ id → (held_of g.T.CronDateTime.moment scheduler).jobs id ≡ None) c.next_id.ensures.next_id c.next_id.ensures.unused)

pub returns-clause-again : goal.returns-clause-again
returns-clause-again g c = gives_again g.J.Recurring.runs (held_of g.T.CronDateTime.moment c.args.scheduler.now)
