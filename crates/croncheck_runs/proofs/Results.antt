-- What holds of the value of a result, if it has one.
use Rattle.std.specs.Prelude.{Result, Ok, Err, IfOk}

-- one thing holds of it where another does
pub if_ok_so : {T E : Type 0} {P Q : T → Type 0} (r : Result T E) → ((x : T) → P x → Q x) → IfOk r P → IfOk r Q
if_ok_so (Ok x) so h = so x h
if_ok_so (Err e) so h = tt
