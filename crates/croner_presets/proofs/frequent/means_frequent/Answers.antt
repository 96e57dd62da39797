use Rattle.croner_presets.specs.Presets.{settings_of}
use Rattle.croner_presets.proofs.Told.{given_read, given_refused}
use Rattle.croner_presets.proofs.frequent.means_frequent.Goals as goal

pub returns-in-Ok-clause-ok : goal.returns-in-Ok-clause-ok
returns-in-Ok-clause-ok c =
    given_read c.parse.result c.in-Ok.job c.parser.result (settings_of c.args.preset) c.args.text.now c.is_frequent.result c.parse.ensures c.in-Ok.is c.parser.ensures c.is_frequent.ensures.ok

pub returns-in-Err-clause-ok : goal.returns-in-Err-clause-ok
returns-in-Err-clause-ok c =
    given_refused c.parse.result c.in-Err.error c.parser.result (settings_of c.args.preset) c.args.text.now c.answer_to_refusal.result c.parse.ensures c.in-Err.is c.parser.ensures c.answer_to_refusal.ensures.ok
