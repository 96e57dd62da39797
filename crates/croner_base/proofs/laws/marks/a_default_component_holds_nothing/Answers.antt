use Rattle.std.proofs.Common.{refl}
use Rattle.croner_base.specs.Field.{default_field}
use Rattle.croner_base.proofs.fields.DefaultField.{nothing_listed, no_feature, only_blank}
use Rattle.croner_base.proofs.fields.MarkSets.{zero-ask, zero-mark}
use Rattle.croner_base.proofs.laws.marks.a_default_component_holds_nothing.Goals as goal

pub returns : goal.returns
returns c = record {
  lists = λ bits. nothing_listed bits;
  modifiers = refl;
  asks = λ value bits. zero-ask default_field.shape value bits refl;
  marks = λ pos bits. zero-mark default_field.shape pos bits refl;
  features = λ bits h. no_feature bits h;
  reads = λ text h. only_blank text h;
}
