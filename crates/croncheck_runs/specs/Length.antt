-- Lengths of time in words.
use Rattle.std.specs.Prelude.{ℕ, nat_le, ◌==◌, ◌/◌, ◌%◌, List, [], ◌++◌, codes, decimal, if◌then◌else◌}

-- a number, in words from one to twelve
abbrev pub number_text : ℕ → List ℕ
number_text n =
    if n == 1 then codes "one"
    else if n == 2 then codes "two"
    else if n == 3 then codes "three"
    else if n == 4 then codes "four"
    else if n == 5 then codes "five"
    else if n == 6 then codes "six"
    else if n == 7 then codes "seven"
    else if n == 8 then codes "eight"
    else if n == 9 then codes "nine"
    else if n == 10 then codes "ten"
    else if n == 11 then codes "eleven"
    else if n == 12 then codes "twelve"
    else decimal n

-- so many of a unit: the name of one of it, and of others with an s
abbrev pub unit_text : ℕ → List ℕ → List ℕ
unit_text n name = number_text n ++ (codes " " ++ (name ++ (if n == 1 then [] else codes "s")))

-- the same after a larger unit: nothing where there are none
abbrev pub rest_text : ℕ → List ℕ → List ℕ
rest_text n name = if n == 0 then [] else codes " " ++ unit_text n name

-- so many seconds as hours, minutes and seconds, from the largest unit on of which there is one
abbrev pub length_text : ℕ → List ℕ
length_text n =
    if nat_le 3_600 n
    then unit_text (n / 3_600) (codes "hour") ++ (rest_text (n / 60 % 60) (codes "minute") ++ rest_text (n % 60) (codes "second"))
    else if nat_le 60 n then unit_text (n / 60 % 60) (codes "minute") ++ rest_text (n % 60) (codes "second")
    else unit_text (n % 60) (codes "second")
