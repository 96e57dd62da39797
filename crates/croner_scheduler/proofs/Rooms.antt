-- How many turns there are where one may be taken away, and where memory can lack.
use Rattle.std.proofs.Common.{◌≡◌, arith, inl, inr, ℕ, ◌+◌, ◌≤◌, Bool, Option, Some, None, OnSome, IfNone}
use Rattle.croner_scheduler.specs.Room.{CanLack}

-- no more stay
pub len_left : {X : Type 0} (Same : Type 0) (most n n' : ℕ) (popped : Option X) → OnSome popped (n' + 1 ≡ n) → IfNone popped (Same × (n' ≡ n)) → n ≤ most → n' ≤ most
len_left Same most n n' (Some x) one_less same few = omega (arith, one_less, few)
len_left Same most n n' None one_less same few = omega (arith, same.1, few)

-- what can lack memory with more room and as many jobs can with less
pub lacks_before : (times_can : Bool) (room room' jobs jobs' : ℕ) → room ≤ room' → jobs' ≡ jobs → CanLack times_can room' jobs' → CanLack times_can room jobs
lacks_before times_can room room' jobs jobs' more same (inl can) = inl can
lacks_before times_can room room' jobs jobs' more same (inr full) = inr (omega (arith, more, same, full))
