use Rattle.std.proofs.Common.{rules, of_calls, int_le, ◌≡◌, sym, subst, true, List, ℤ, ◌≤ℤ◌, ◌<ℤ◌}
use Rattle.std.proofs.lemmas.Fn.{always_returns_same}
use Rattle.croner_base.specs.Table.{is_calm_table}
use Rattle.croner_base.proofs.tables.TableReadings.{at_or_before_first}
use Rattle.crontab_runs.specs.Private.Stretches.{begin_of, end_of}
use Rattle.crontab_runs.proofs.TableStretches.{begin_by_count, end_by_count}
use Rattle.crontab_runs.proofs.stretch.changes_until.Goals as goal

pub returns-clause-begin : goal.returns-clause-begin
returns-clause-begin c =
    let t = c.args.table.now in
    let same : c.changes.result.now ≡ t.changes.items = c.changes.ensures in
    let calm : is_calm_table t.first_offset c.changes.result.now ≡ true = subst (λ (l : List (ℤ × ℤ)). is_calm_table t.first_offset l ≡ true) (sym same) t.calm in
    let point = c.partition_point.ensures.partitioned (λ x. int_le x.0 c.args.second) (always_returns_same _ _ _ (λ a r f k. search (rules, of_calls)))
    (λ i j d l m up. at_or_before_first t.first_offset c.changes.result.now c.args.second d calm i j l m up) in
    subst (λ (l : List (ℤ × ℤ)). begin_of l c.partition_point.result ≤ℤ c.args.second) same
    (begin_by_count c.changes.result.now c.partition_point.result c.args.second c.requires.low point.0)

pub returns-clause-end : goal.returns-clause-end
returns-clause-end c =
    let t = c.args.table.now in
    let same : c.changes.result.now ≡ t.changes.items = c.changes.ensures in
    let calm : is_calm_table t.first_offset c.changes.result.now ≡ true = subst (λ (l : List (ℤ × ℤ)). is_calm_table t.first_offset l ≡ true) (sym same) t.calm in
    let point = c.partition_point.ensures.partitioned (λ x. int_le x.0 c.args.second) (always_returns_same _ _ _ (λ a r f k. search (rules, of_calls)))
    (λ i j d l m up. at_or_before_first t.first_offset c.changes.result.now c.args.second d calm i j l m up) in
    subst (λ (l : List (ℤ × ℤ)). c.args.second <ℤ end_of l c.partition_point.result) same
    (end_by_count c.changes.result.now c.partition_point.result c.args.second c.requires.high point.1)
