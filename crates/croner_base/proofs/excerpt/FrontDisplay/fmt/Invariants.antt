use Rattle.std.proofs.Common.{◌≡◌, ℕ, List, ◌++◌, take, encode_utf8_all}
use Rattle.std.specs.Fmt.{HasWritten, IsPlainFormatter}
use Rattle.std.specs.Str.{chars}
use Rattle.std.specs.Str.Iter.{chars_rest}
use Rattle.croner_base.specs.Excerpt.{all_shown}
use Rattle.croner_base.proofs.excerpt.FrontDisplay.fmt.Given as goal

abbrev pub invariant-loop-left : goal.invariant-loop-left
invariant-loop-left g l =
    (goal.iterator-loop-left g).can_next l.rest × (goal.iterator-loop-left g).is_finite l.rest
    × (IsPlainFormatter l.fn.f
    → (done : List ℕ) × (cs : List ℕ) × HasWritten g.W.Write.write_str_gives l.fn.f done l.f × (encode_utf8_all cs ≡ chars_rest l.rest)
    × (done ++ all_shown (take l.left cs) ≡ all_shown (take l.fn.self.most (chars l.fn.self.text.now))))
