use Rattle.std.proofs.Common.{string_bytes}
use Rattle.croner.specs.Views.{job_of}
use Rattle.croner_c.specs.Answers.{seen}
use Rattle.croner_c.proofs.Summaries.{summarized}
use Rattle.croner_c.proofs.words.summary_of.Goals as goal

pub returns-in-Ok : goal.returns-in-Ok
returns-in-Ok c =
    summarized c.args.language (job_of c.args.job.now) c.in-Ok.summary (seen (λ s. string_bytes s) c.summary_text.result) c.in-Ok.ensures.ok c.in-Ok.ensures.short c.in-Ok.ensures.ordered
    c.summary_text.ensures
