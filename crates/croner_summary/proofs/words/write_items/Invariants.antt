use Rattle.std.proofs.Common.{string_bytes}
use Rattle.croner_summary.specs.Private.Appended.{WrittenTo}
use Rattle.croner_summary.proofs.words.write_items.Given as goal

abbrev pub invariant-loop-place : goal.invariant-loop-place
invariant-loop-place l = WrittenTo l.language l.kind l.pieces l.count l.place (string_bytes l.initial.text) (string_bytes l.text)
