use Rattle.std.proofs.Common.{pos, sym, ◌∙◌}
use Rattle.std.proofs.lemmas.Bool.{false≢true}
use Rattle.croner_pattern.proofs.civil.DateSearch.{year_opens}
use Rattle.croner_pattern.proofs.cursor.dates.in_open_year.Goals as goal

pub returns-else-has_kind : goal.returns-else-has_kind
returns-else-has_kind g c = λ year d h.
    false≢true (sym c.if-has_kind.false ∙ c.has_kind.ensures.1 (year_opens (g.P.PatternWords.meaning c.args.pattern.now) (pos c.args.year) c.args.kinds d h c.requires.kinds))
