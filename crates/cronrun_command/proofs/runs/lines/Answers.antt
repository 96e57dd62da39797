use Rattle.std.proofs.Common.{List, ℕ, ◌<◌, string_bytes, sym, subst, arith}
use Rattle.croner.specs.iterator.Listing.{standing_of}
use Rattle.cronrun_command.proofs.Listed.{Listed, listed_none, listed_next, listed_short}
use Rattle.cronrun_command.proofs.runs.lines.Goals as goal

pub loop-run-init : goal.loop-run-init
loop-run-init g c =
    let start = standing_of g.T.CronDateTime.moment c.args.runs in
    let P : List ℕ → Type 0 = λ text. Listed g.T.Listed.in_zone start start 0 text in
    record { listed = subst P (sym c.new-text.ensures.bytes) (listed_none g.T.Listed.in_zone start) }

pub returns-in-Err : goal.returns-in-Err
returns-in-Err g c =
    let moment = g.T.CronDateTime.moment in
    let few : c.loop-run._run < c.args.count = omega arith in
    listed_short g.T.CronDateTime.can_lack_memory g.T.Listed.in_zone (standing_of moment c.args.runs) (standing_of moment c.loop-run.runs) c.loop-run._run
    c.args.count (string_bytes c.loop-run.text) (string_bytes c.add_next.new.text) c.in-Err.refusal c.loop-run.invariant.listed few c.in-Err.ensures.kept
    c.in-Err.ensures.ends

pub loop-run-preserved : goal.loop-run-preserved
loop-run-preserved g c =
    let moment = g.T.CronDateTime.moment in
    record {
      listed = listed_next g.T.Listed.in_zone (standing_of moment c.args.runs) (standing_of moment c.loop-run.runs) (standing_of moment c.add_next.new.runs)
          c.loop-run._run (string_bytes c.loop-run.text) (string_bytes c.add_next.new.text) c.loop-run.invariant.listed c.in_default.ensures.adds;
    }
