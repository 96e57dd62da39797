use Rattle.std.proofs.Common.{rules, ◌≡◌, ◌<◌, ℕ, List, length, subst}
use Rattle.crontab.specs.Checked.{entry_of_line}
use Rattle.crontab.proofs.TakenLines.{taken_none, taken_all, taken_next}
use Rattle.crontab.proofs.check.check.Goals as goal

pub loop-turn-init : goal.loop-turn-init
loop-turn-init g c = record {
  so_far = taken_none (entry_of_line c.args.dialect) g.S.Entries.takes (g.R.Read.remaining c.args.reader.now) c.args.sink.now;
}

pub returns-then-is_empty : goal.returns-then-is_empty
returns-then-is_empty g c =
    let none : length c.read_line.new.line.items ≡ 0 = search rules in
    taken_all (entry_of_line c.args.dialect) g.S.Entries.takes (g.R.Read.remaining c.args.reader.now) (g.R.Read.remaining c.loop-turn.reader)
    (g.R.Read.remaining c.read_line.new.reader) c.read_line.new.line.items c.args.sink.now c.loop-turn.sink
    c.loop-turn.invariant.so_far c.in_ok-read_line.ensures none

pub loop-turn-preserved : goal.loop-turn-preserved
loop-turn-preserved g c =
    let some : 0 < length c.read_line.new.line.items = search rules in
    let P : List ℕ → Type 0 = λ line. g.S.Entries.takes c.loop-turn.sink (entry_of_line c.args.dialect line) c.take_line.new.sink in
    let one = subst P c.as_slice.ensures.value c.in_ok-take_line.ensures in
    record {
      so_far = taken_next (entry_of_line c.args.dialect) g.S.Entries.takes (g.R.Read.remaining c.args.reader.now) (g.R.Read.remaining c.loop-turn.reader)
          (g.R.Read.remaining c.read_line.new.reader) c.read_line.new.line.items c.args.sink.now c.loop-turn.sink
          c.take_line.new.sink c.loop-turn.invariant.so_far c.in_ok-read_line.ensures some one;
    }
