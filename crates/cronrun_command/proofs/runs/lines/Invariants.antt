use Rattle.std.specs.Prelude.{string_bytes}
use Rattle.croner.specs.iterator.Listing.{standing_of}
use Rattle.cronrun_command.proofs.Listed.{Listed}
use Rattle.cronrun_command.proofs.runs.lines.Given as goal

abbrev pub invariant-loop-run : goal.invariant-loop-run
invariant-loop-run g l = record {
  listed : Listed g.T.Listed.in_zone (standing_of g.T.CronDateTime.moment l.initial.runs) (standing_of g.T.CronDateTime.moment l.runs) l._run
      (string_bytes l.text);
}
