use Rattle.std.proofs.Common.{◌≡◌, false, string_bytes, rules}
use Rattle.crontab.specs.Setting.{has}
use Rattle.croncheck_output.proofs.SpacedBytes.{last_piece}
use Rattle.croncheck_output.proofs.OkResults.{if_ok}
use Rattle.croncheck_output.proofs.escaped.push_replaced.Goals as goal

pub returns : goal.returns
returns c =
    let none : has c.args.sign c.loop-text.rest.now ≡ false = search rules in
    if_ok c.push_shown.result
    (λ is. last_piece c.args.sign c.args.replacement.now (string_bytes c.args.text.now) (string_bytes c.loop-text.text) (string_bytes c.push_shown.new.text) c.loop-text.rest.now c.args.bytes.now none is
    c.loop-text.invariant)
    c.push_shown.ensures
