-- Why a call stops, and its status.
use Rattle.std.specs.Prelude.{ℕ, List, Option, None, Some, Result, Ok, Err}
use Rattle.std.specs.declared.io.Error.{Error}
use Rattle.croner_base.specs.Refusal.{text_of}
use Rattle.croner_base.specs.declared.errors.CronError.{CronError}
use Rattle.cronrun_command.specs.declared.stop.Stop.{Stop}
use Rattle.cronrun_command.specs.declared.stop.Stop.TheVariants.{Refused, Unwritten}

-- the text of the reason; nothing is known of the text of a writer's own error
abbrev pub stop_text : Stop → Option (List ℕ)
stop_text (Refused error) = Some (text_of error)
stop_text (Unwritten error) = None

-- the refusal that ended the answer, else the error of the writer that did not take it
abbrev pub stop_of : Option CronError → Result (Unit {0}) Error → Option Stop
stop_of (Some refusal) delivered = Some (Refused refusal)
stop_of None (Err error) = Some (Unwritten error)
stop_of None (Ok done) = None

-- 0 where there is no reason, else 1
abbrev pub status_of : Option Stop → ℕ
status_of None = 0
status_of (Some stop) = 1
