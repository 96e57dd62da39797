use Rattle.std.proofs.Common.{rules, ◌≡◌, pos, ◌<ℤ◌, ◌≤ℤ◌, unsigned_abs}
use Rattle.croncheck_runs.proofs.Results.{if_ok_so}
use Rattle.croncheck_moments.proofs.ZoneWords.{said_behind, said_ahead}
use Rattle.croncheck_moments.proofs.zone.note_text.Goals as goal

pub returns-then-ahead-lt0 : goal.returns-then-ahead-lt0
returns-then-ahead-lt0 c =
    let less : c.args.ahead <ℤ pos 0 = search rules in
    let length : c.length_of-length.result.seconds ≡ unsigned_abs c.args.ahead = search rules in
    if_ok_so c.behind_text.result (λ text is. said_behind _ _ _ _ _ c.args.ahead less c.without_sign-digits.ensures length is) c.behind_text.ensures

pub returns-else-ahead-lt0 : goal.returns-else-ahead-lt0
returns-else-ahead-lt0 c =
    let more : pos 0 ≤ℤ c.args.ahead = search rules in
    let length : c.length_of-length.result.seconds ≡ unsigned_abs c.args.ahead = search rules in
    if_ok_so c.ahead_text.result (λ text is. said_ahead _ _ _ _ _ c.args.ahead more c.without_sign-digits.ensures length is) c.ahead_text.ensures
