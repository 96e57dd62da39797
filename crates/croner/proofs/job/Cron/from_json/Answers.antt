use Rattle.std.proofs.Common.{rules, ◌≡◌, sym, subst, Some}
use Rattle.serde_json.specs.Find.{as_str}
use Rattle.serde_json.specs.View.{view}
use Rattle.croner.specs.parser.Gives.{Gives}
use Rattle.croner.specs.Views.{job_of}
use Rattle.croner.proofs.JsonTexts.{text_meant}
use Rattle.croner.proofs.job.Cron.from_json.Goals as goal

pub returns-in-Some : goal.returns-in-Some
returns-in-Some c =
    let found : as_str (view c.args.value.now) ≡ Some c.in-Some.text.now = search rules in
    subst (Gives job_of c.from_str.result) (sym (text_meant (view c.args.value.now) c.in-Some.text.now found)) c.from_str.ensures
