use Rattle.std.proofs.Common.{◌∙◌, option_map, ap, List, ◌++◌, map}
use Rattle.croncheck_warnings.specs.declared.presets.Reading.{Reading}
use Rattle.croncheck_warnings.specs.declared.warnings.Warning.{Warning}
use Rattle.croncheck_warnings.specs.declared.warnings.Warning.TheVariants as warnings
use Rattle.croncheck_warnings.specs.Warnings.{fields_seen, warnings_of}
use Rattle.croncheck_report.proofs.report.warnings_of_pattern.Goals as goal

pub returns-clause-warnings : goal.returns-clause-warnings
returns-clause-warnings c = record {
  fields = option_map fields_seen c.in_ok-fields.fields;
  fields_are = c.in_ok-fields.ensures;
  readings = c.in_ok-readings.readings.items;
  readings_are = c.in_ok-readings.ensures.ok;
  are = c.in_ok-push_readings.ensures ∙ ap (λ (made : List Reading). c.in_ok-warnings.warnings.items ++ map warnings.Preset made) c.as_slice.ensures.value
      ∙ ap (λ (found : List Warning). found ++ map warnings.Preset c.in_ok-readings.readings.items) (c.in_ok-warnings.ensures.ok ∙ ap warnings_of c.subject_of.ensures);
}
