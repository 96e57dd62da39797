use Rattle.std.proofs.Common.{◌≡◌, length, refl, arith}
use Rattle.croner.specs.crontable.Tables.{patterns_of}
use Rattle.croner.specs.Private.crontable.Met.{met_of}
use Rattle.croner.specs.Views.{job_of}
use Rattle.croner.proofs.crontable.TableRuns.{taken, refused_place}
use Rattle.croner.proofs.crontable.TableSearch.{searched_first, searched_all, decided_found, decided_refused}
use Rattle.croner.proofs.zone.ErrorsKept.{error_kept}
use Rattle.croner.proofs.crontable.CronTable.search_in_room.Goals as goal

pub loop-place-init : goal.loop-place-init
loop-place-init g c =
    let moment = g.T.CronDateTime.moment in
    record {
      searched = searched_first moment g.T.CronDateTime.can_lack_memory c.args.direction c.args.inclusive (moment c.args.start.now) (patterns_of c.args.self.now) (met_of c.args.met) c.requires.begun;
      filled = omega (arith, c.requires.empty);
      room = c.requires.room;
    }

pub loop-place-preserved : goal.loop-place-preserved
loop-place-preserved g c =
    let moment = g.T.CronDateTime.moment in
    let held = c.loop-place.invariant in
    record {
      searched = taken moment c.args.direction c.args.inclusive (patterns_of c.args.self.now) (moment c.args.start.now) c.loop-place.place (met_of c.loop-place.met) held.searched
          (job_of c.job_at.result.now) c.job_at.ensures.stands g.T.CronDateTime.can_lack_memory c.find_occurrence_with_reading-answer.result (met_of c.take.new.self) c.take.result
          c.find_occurrence_with_reading-answer.ensures.found c.find_occurrence_with_reading-answer.ensures.refused c.take.ensures.step _ c.in_ok-take.was;
      filled = omega (arith, c.take.ensures.longer, held.filled);
      room = omega (arith, c.take.ensures.room, held.room);
    }

pub returns-in_err-take-clause-refused : goal.returns-in_err-take-clause-refused
returns-in_err-take-clause-refused g c =
    let moment = g.T.CronDateTime.moment in
    let held = c.loop-place.invariant in
    error_kept c.from_residual.result c.in_err-take.field-0.0 _ c.from_residual.ensures.1 (refused_place moment c.args.direction c.args.inclusive (patterns_of c.args.self.now) (moment c.args.start.now) c.loop-place.place (met_of c.loop-place.met) held.searched
    (job_of c.job_at.result.now) c.job_at.ensures.stands g.T.CronDateTime.can_lack_memory c.find_occurrence_with_reading-answer.result (met_of c.take.new.self) c.take.result c.in_err-take.field-0.0
    c.find_occurrence_with_reading-answer.ensures.refused c.take.ensures.step c.in_err-take.was)

pub returns-clause-found : goal.returns-clause-found
returns-clause-found g c =
    let moment = g.T.CronDateTime.moment in
    let lack = g.T.CronDateTime.can_lack_memory in
    let jobs = c.args.self.now.jobs.items in
    let met = c.loop-place.met in
    let all : c.loop-place.place ≡ length c.args.self.now.jobs.items = omega arith in
    decided_found moment lack c.args.direction c.args.inclusive (moment c.args.start.now) (patterns_of c.args.self.now) (met_of met)
    (searched_all moment lack c.args.direction c.args.inclusive (moment c.args.start.now) jobs c.loop-place.place (met_of met) all c.loop-place.invariant.searched) met.places c.decide.result refl c.decide.ensures

pub returns-clause-refused : goal.returns-clause-refused
returns-clause-refused g c =
    let moment = g.T.CronDateTime.moment in
    let lack = g.T.CronDateTime.can_lack_memory in
    let jobs = c.args.self.now.jobs.items in
    let met = c.loop-place.met in
    let all : c.loop-place.place ≡ length c.args.self.now.jobs.items = omega arith in
    decided_refused moment lack c.args.direction c.args.inclusive (moment c.args.start.now) (patterns_of c.args.self.now) (met_of met)
    (searched_all moment lack c.args.direction c.args.inclusive (moment c.args.start.now) jobs c.loop-place.place (met_of met) all c.loop-place.invariant.searched) met.places c.decide.result c.decide.ensures
