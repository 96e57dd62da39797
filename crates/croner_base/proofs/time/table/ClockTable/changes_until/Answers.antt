use Rattle.std.proofs.Common.{rules, of_calls, int_le, ◌≡◌, sym, subst, true, List, ℤ}
use Rattle.std.proofs.lemmas.Fn.{always_returns_same}
use Rattle.croner_base.specs.Table.{is_calm_table}
use Rattle.croner_base.specs.Private.TableSteps.{IsCountUntil}
use Rattle.croner_base.proofs.tables.TableReadings.{at_or_before_first, count_until}
use Rattle.croner_base.proofs.time.table.ClockTable.changes_until.Goals as goal

pub returns-clause-count : goal.returns-clause-count
returns-clause-count c =
    let t = c.args.self.now in
    let same : c.as_slice.result.now ≡ t.changes.items = c.as_slice.ensures.value in
    let calm : is_calm_table t.first_offset c.as_slice.result.now ≡ true = subst (λ (l : List (ℤ × ℤ)). is_calm_table t.first_offset l ≡ true) (sym same) t.calm in
    let point = c.partition_point.ensures.partitioned (λ x. int_le x.0 c.args.second) (always_returns_same _ _ _ (λ a r f k. search (rules, of_calls)))
    (λ i j d l m up. at_or_before_first t.first_offset c.as_slice.result.now c.args.second d calm i j l m up) in
    subst (λ (l : List (ℤ × ℤ)). IsCountUntil l c.args.second c.partition_point.result) same (count_until c.as_slice.result.now c.args.second c.partition_point.result c.partition_point.ensures.bound point.0 point.1)
