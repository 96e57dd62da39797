use Rattle.std.proofs.Common.{◌≡◌, length}
use denote.Shadow.{shadow}
use denote.Text.{Utf8}
use Rattle.croner.specs.parser.Faults.{from_illegal}
use Rattle.croner.proofs.parser.characters.from_illegal.Given as goal

abbrev pub invariant-loop-after : goal.invariant-loop-after
invariant-loop-after l = shadow (Utf8 l.rest) × (from_illegal l.field l.rest ≡ from_illegal l.field l.word)

abbrev pub decreases-loop-after : goal.decreases-loop-after
decreases-loop-after l = length l.rest
