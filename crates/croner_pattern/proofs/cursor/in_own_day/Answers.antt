use Rattle.std.proofs.Common.{sym, ◌∙◌}
use Rattle.std.proofs.lemmas.Bool.{false≢true}
use Rattle.croner_pattern.proofs.civil.Scheduled.{own_none}
use Rattle.croner_pattern.proofs.cursor.in_own_day.Goals as goal

pub returns-else-is_move : goal.returns-else-is_move
returns-else-is_move g c =
    own_none (g.P.PatternWords.meaning c.args.pattern.now) c.args.direction c.args.from c.in_ok-time.time (rw c.time-start.ensures at c.in_ok-time.ensures)
    (sym c.requires.room ∙ c.if-room.false) (λ move. false≢true (sym c.if-is_move.false ∙ c.is_move.ensures.1 (rw c.time-start.ensures move)))
