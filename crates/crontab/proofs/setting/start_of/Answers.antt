use Rattle.std.proofs.Common.{sym, arith}
use Rattle.std.proofs.lemmas.List.{take_all}
use Rattle.crontab.specs.Setting.{setting_length}
use Rattle.crontab.proofs.setting.start_of.Goals as goal

pub returns-then-text-le-SETTING_LENGTH : goal.returns-then-text-le-SETTING_LENGTH
returns-then-text-le-SETTING_LENGTH c = sym (take_all setting_length c.args.text.now (omega arith))
