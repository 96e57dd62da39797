use Rattle.std.proofs.Common.{◌≡◌, true, refl}
use Rattle.croner_base.specs.Table.{is_offset, is_calm_table}
use Rattle.croner_base.specs.TableZone.{clock}
use Rattle.croner_base.proofs.tables.TableTests.{between_test}
use Rattle.croner_base.proofs.laws.tables.fixed_offset_is_calm.Goals as goal

pub returns-clause-calm : goal.returns-clause-calm
unfolding is_calm_table
returns-clause-calm c = λ low high. let h : is_offset c.args.offset ≡ true = between_test _ _ _ low high in rw h refl

pub returns-clause-reads : goal.returns-clause-reads
unfolding clock
returns-clause-reads c = λ i. refl
