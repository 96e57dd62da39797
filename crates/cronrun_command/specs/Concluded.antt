-- What a call comes to: its answer, what the writers were given, and the status.
use Rattle.std.specs.Prelude.{◌≡◌, ℕ, List, Option, Result}
use Rattle.std.specs.declared.io.Error.{Error}
use Rattle.croner_base.specs.declared.errors.CronError.{CronError}
use Rattle.cronrun_command.specs.Answer.{IsAnswer}
use Rattle.cronrun_command.specs.Call.{Ask}
use Rattle.cronrun_command.specs.Stop.{stop_of, status_of}
use Rattle.cronrun_command.specs.declared.request.Request.{Request}
use Rattle.cronrun_command.specs.declared.stop.Stop.{Stop}

-- an answer was delivered so and, where it is not whole or was not taken, the reason was told: the status is 0 where there is no reason,
-- else 1
pub record IsEnded {W : Type 0} (text : List ℕ) (refusal : Option CronError) (delivers : List ℕ → Result (Unit {0}) Error → W → Type 0) (after : W)
    (tells : Option Stop → Type 0) (status : ℕ) : Type 0 where
  pub gave : Result (Unit {0}) Error
  pub delivered : delivers text gave after
  pub told : tells (stop_of refusal gave)
  pub status_is : status ≡ status_of (stop_of refusal gave)

-- the words are a call, and its answer came to this end
pub record IsConcluded {W : Type 0} (words : List (List ℕ)) (delivers : List ℕ → Result (Unit {0}) Error → W → Type 0) (after : W)
    (tells : Option Stop → Type 0) (status : ℕ) : Type 0 where
  pub request : Request
  pub asks : Ask words request
  pub text : List ℕ
  pub refusal : Option CronError
  pub answers : IsAnswer request text refusal
  pub ended : IsEnded text refusal delivers after tells status
