-- What is written into the room that a caller gives.
use Rattle.std.specs.Prelude.{List, ◌++◌, length, take, drop}

-- the items that fit come to the front of the room, and the rest of it stays
abbrev pub written : {X : Type 0} → List X → List X → List X
written items room = take (length room) items ++ drop (length items) room
