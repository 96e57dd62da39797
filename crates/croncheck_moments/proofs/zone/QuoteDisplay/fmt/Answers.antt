use Rattle.std.proofs.Common.{◌≡◌, List, ℕ, subst}
use Rattle.std.specs.Fmt.{HasWritten}
use Rattle.croner_base.specs.Excerpt.{excerpt}
use Rattle.croncheck_moments.specs.Zone.{quote_text}
use Rattle.croncheck_moments.proofs.zone.QuoteDisplay.fmt.Goals as goal

pub returns-clause-writes : goal.returns-clause-writes
returns-clause-writes g c = λ plain ok.
    let same : excerpt c.of-text.result.most c.of-text.result.text.now ≡ quote_text c.args.self.now.text.now = rw (c.of-text.ensures.most, c.of-text.ensures.text) in
    subst (λ (text : List ℕ). HasWritten g.W.Write.write_str_gives c.args.f.now text c.write.new.self) same (c.write.ensures.writes plain ok)
