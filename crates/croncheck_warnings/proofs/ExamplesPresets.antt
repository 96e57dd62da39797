-- Worked rows of what is told of another program, computed from the definitions.
use Rattle.std.proofs.Common.{◌≡◌, refl, true, false}
use Rattle.std.specs.Prelude.{codes}
use Rattle.croner_presets.specs.declared.difference.Difference.TheVariants as differences
use Rattle.croner_presets.specs.declared.preset.Preset.TheVariants as presets
use Rattle.croncheck_warnings.specs.declared.warnings.Warning.TheVariants as warnings
use Rattle.croncheck_warnings.specs.Presets.{is_told, reading}
use Rattle.croncheck_warnings.specs.Warnings.{warning_name, is_refusal_elsewhere}

-- `@every 5m`, which the parser refuses and Kubernetes takes
taken_where_refused : is_told true differences.Every ≡ true
taken_where_refused = refl

-- and nothing of it is told where a text is read
taken_where_read : is_told false differences.Every ≡ false
taken_where_read = refl

-- weekday 7, which Kubernetes refuses: told where the parser reads it
refused_by_the_program : is_told false differences.SundayAsSeven ≡ true
refused_by_the_program = refl

refused_by_both : is_told true differences.SundayAsSeven ≡ false
refused_by_both = refl

-- two minutes fewer than five apart, which GitHub reads otherwise
read_otherwise : is_told false differences.Frequent ≡ true
read_otherwise = refl

its_name : warning_name (warnings.Preset (reading presets.Kubernetes differences.SundayAsSeven)) ≡ codes "preset"
its_name = refl

a_refusal : is_refusal_elsewhere (warnings.Preset (reading presets.Kubernetes differences.SundayAsSeven)) ≡ true
a_refusal = refl

-- what is read otherwise is none, nor is a warning of the line's own
no_refusal : is_refusal_elsewhere (warnings.Preset (reading presets.Github differences.Frequent)) ≡ false
no_refusal = refl

no_refusal_of_cron : is_refusal_elsewhere warnings.EitherDay ≡ false
no_refusal_of_cron = refl
