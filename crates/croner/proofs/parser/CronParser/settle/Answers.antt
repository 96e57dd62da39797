use Rattle.std.proofs.Common.{◌≡◌, subst, string_bytes}
use Rattle.std.specs.Prelude.{MatchOption}
use Rattle.croner.specs.parser.Grammar.{starred}
use Rattle.croner.proofs.parser.CronParser.settle.Goals as goal

pub returns : goal.returns
returns c = (
  record {
    days = c.in_ok-days.ensures;
    days_of_week = subst (λ x. MatchOption c.in_ok-days_of_week.days_of_week (starred x ≡ x) (λ t. string_bytes t ≡ starred x)) c.without_plus-weekdays.ensures c.in_ok-days_of_week.ensures;
  },
  c.joins-and.ensures,
)
