-- Which warnings are told below their line. Source: docs/CRONTAB.md ("What is found").
use Rattle.std.specs.Prelude.{Bool, true, false}
use Rattle.croncheck_warnings.specs.declared.warnings.Warning.{Warning}
use Rattle.croncheck_warnings.specs.declared.warnings.Warning.TheVariants as warnings

-- a warning is told below its line: any but that the line feed is missing, which is told at the end of the file
abbrev pub is_told_below : Warning → Bool
is_told_below warnings.NoNewline = false
is_told_below warnings.EitherDay = true
is_told_below (warnings.UnevenStep field) = true
is_told_below (warnings.StepBeyond field) = true
is_told_below (warnings.RangeDown field) = true
is_told_below (warnings.PassedOver field) = true
is_told_below (warnings.LargeNumber field) = true
is_told_below warnings.WholeHour = true
is_told_below warnings.ShortMonths = true
is_told_below warnings.Gone = true
is_told_below warnings.Never = true
is_told_below warnings.NoCommand = true
is_told_below warnings.LooksLikeField = true
is_told_below warnings.User = true
is_told_below warnings.Percent = true
is_told_below warnings.Continued = true
is_told_below warnings.ControlByte = true
is_told_below warnings.CarriageReturn = true
is_told_below warnings.EmptyItem = true
is_told_below (warnings.OtherName field) = true
is_told_below (warnings.Preset reading) = true
