use Rattle.std.proofs.Common.{◌<◌, ◌≤◌, length, refl, rules}
use Rattle.croncheck_output.specs.Output.{written_of}
use Rattle.croncheck_shown.specs.Patterns.{TellsPattern}
use Rattle.croncheck_shown.proofs.TypedPatterns.{next_told, all_told, so_refused}
use Rattle.croncheck_shown.proofs.patterns.tell_patterns.Goals as goal

pub loop-k-preserved : goal.loop-k-preserved
loop-k-preserved g c =
    let within : c.loop-k.k < length c.args.words.now = search rules in
    next_told (λ word. word.now) (TellsPattern c.args.terms.now.settings.now c.args.answer) _ _ _ c.args.words.now c.loop-k.k _ _ within refl c.loop-k.invariant
    (so_refused c.args.terms.now.settings.now c.args.answer _ _ _ _ _ c.is_any_refused-has_refused.ensures (c.in_ok-refused.ensures c.loop-k.has_refused))

pub returns : goal.returns
returns g c =
    let all : length c.args.words.now ≤ c.loop-k.k = search rules in
    record {
      last = record { written = written_of g.W.Write.contents c.loop-k.output; has_refused = c.loop-k.has_refused };
      told = all_told (λ word. word.now) (TellsPattern c.args.terms.now.settings.now c.args.answer) _ _ c.args.words.now c.loop-k.k all c.loop-k.invariant;
      flushed = c.flush.ensures.kept;
      status_is = c.status_of.ensures;
    }
