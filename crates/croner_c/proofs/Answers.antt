-- Answers that may lack memory.
use Rattle.std.proofs.Common.{Result, Ok, Err}
use Rattle.croner_c.specs.Answers.{OrLack}
use Rattle.croner_c.specs.declared.status.Reason.{Reason}
use Rattle.croner_c.specs.declared.status.Reason.TheVariants as reasons

-- what holds of the value
pub lack_map : {X : Type 0} (Holds Then : X → Type 0) (answer : Result X Reason) → ((x : X) → Holds x → Then x) → OrLack Holds answer → OrLack Then answer
lack_map Holds Then (Ok x) so h = so x h
lack_map Holds Then (Err reasons.Refused) so h = absurd h
lack_map Holds Then (Err reasons.Limit) so h = absurd h
lack_map Holds Then (Err reasons.OutOfMemory) so h = tt
lack_map Holds Then (Err reasons.Outside) so h = absurd h
lack_map Holds Then (Err reasons.NotCalm) so h = absurd h
lack_map Holds Then (Err reasons.BadZone) so h = absurd h
lack_map Holds Then (Err reasons.TooSmall) so h = absurd h
lack_map Holds Then (Err reasons.BadArgument) so h = absurd h
