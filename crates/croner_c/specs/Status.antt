-- The status of a call, by which C learns whether there is an answer. Source: bindings/c/croner.h.
use Rattle.std.specs.Prelude.{ℤ, pos, Option, Some, None}
use Rattle.croner_c.specs.declared.status.Reason.{Reason}
use Rattle.croner_c.specs.declared.status.Reason.TheVariants as reasons

-- the status where there is no answer
abbrev pub status_of : Reason → ℤ
status_of reasons.Refused = pos 1
status_of reasons.Limit = pos 2
status_of reasons.OutOfMemory = pos 3
status_of reasons.Outside = pos 4
status_of reasons.NotCalm = pos 5
status_of reasons.BadZone = pos 6
status_of reasons.TooSmall = pos 7
status_of reasons.BadArgument = pos 8

-- the status of a listing: 0, or that of the item after its last one
abbrev pub status_of_end : Option Reason → ℤ
status_of_end None = pos 0
status_of_end (Some reason) = status_of reason
