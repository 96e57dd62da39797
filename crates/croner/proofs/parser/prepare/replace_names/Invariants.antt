use Rattle.std.proofs.Common.{◌≡◌, false, length, string_bytes}
use Rattle.std.specs.Str.{IsUtf8}
use Rattle.croner.specs.parser.Cut.{replaced}
use Rattle.croner.specs.Private.parser.Steps.{with_front}
use Rattle.croner.proofs.parser.prepare.replace_names.Given as goal

abbrev pub invariant-loop-rest : goal.invariant-loop-rest
invariant-loop-rest l = record {
  is_text : IsUtf8 l.rest;
  same : with_front (string_bytes l.written) (replaced l.quartz l.after_dash l.rest) ≡ replaced l.quartz false l.text;
}

abbrev pub decreases-loop-rest : goal.decreases-loop-rest
decreases-loop-rest l = length l.rest
