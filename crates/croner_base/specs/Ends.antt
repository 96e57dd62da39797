-- The ends of the wall clock: a year is a number of 32 bits with a sign.
use Rattle.std.specs.Prelude.{pos, neg_ℤ}
use Rattle.croner_base.specs.declared.time.civil.CivilDate.{CivilDate}
use Rattle.croner_base.specs.Civil.{HasYmd}

-- the last date that there is
abbrev pub IsLastDate : CivilDate → Type 0
IsLastDate = HasYmd (pos 2_147_483_647) 12 31

-- the first date that there is
abbrev pub IsFirstDate : CivilDate → Type 0
IsFirstDate = HasYmd (neg_ℤ (pos 2_147_483_648)) 1 1
