use Rattle.std.proofs.Common.{rules, ◌≡◌, ◌+◌, ap, length, take}
use Rattle.std.proofs.lemmas.Str.{chars_from_encodes}
use Rattle.std.specs.Str.{chars}
use Rattle.croner.proofs.parser.place.character_at.Goals as goal

pub returns : goal.returns
returns c =
    let same : c.count.result ≡ length (chars (take c.args.start c.args.text.now)) = search (rules, chars_from_encodes) in
    ap (λ n. n + 1) same
