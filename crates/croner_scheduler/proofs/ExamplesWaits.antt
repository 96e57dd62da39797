-- Worked rows of how long a program sleeps.
use Rattle.std.proofs.Common.{◌≡◌, refl, pos, negsuc, None, Some}
use Rattle.croner_scheduler.specs.Waits.{pause_seconds}

-- up to the wake-up
thirty_seconds_before_it : pause_seconds (pos 10) (Some (pos 40)) 60 ≡ 30
thirty_seconds_before_it = refl

across_1970 : pause_seconds (negsuc 4) (Some (pos 5)) 60 ≡ 10
across_1970 = refl

-- but no longer than that
an_hour_before_it : pause_seconds (pos 0) (Some (pos 3600)) 60 ≡ 60
an_hour_before_it = refl

-- not at all, where it is now or was before
at_it : pause_seconds (pos 40) (Some (pos 40)) 60 ≡ 0
at_it = refl

behind_it : pause_seconds (pos 41) (Some (pos 40)) 60 ≡ 0
behind_it = refl

-- as long as it may, where there is none
without_one : pause_seconds (pos 10) None 60 ≡ 60
without_one = refl
