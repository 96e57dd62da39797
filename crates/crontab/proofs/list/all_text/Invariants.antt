use Rattle.std.proofs.Common.{◌≡◌, drop}
use Rattle.std.specs.Prelude.{fold, string_bytes}
use Rattle.crontab.specs.List.{added, first_text}
use Rattle.crontab.proofs.list.all_text.Given as goal

abbrev pub invariant-loop-part : goal.invariant-loop-part
invariant-loop-part l = fold added (string_bytes l.text) (drop l.part-index l.fn.more) ≡ fold added (first_text l.fn.first) l.fn.more
