use Rattle.std.proofs.Common.{◌≡◌, ◌++◌, length}
use Rattle.std.specs.Prelude.{string_bytes}
use Rattle.croncheck_forms.specs.Sarif.{uri_of}
use Rattle.croncheck_forms.proofs.sarif.uri.push_uri.Given as goal

abbrev pub invariant-loop-rest : goal.invariant-loop-rest
invariant-loop-rest l = string_bytes l.uri ++ uri_of l.rest ≡ string_bytes l.initial.uri ++ uri_of l.fn.name

abbrev pub decreases-loop-rest : goal.decreases-loop-rest
decreases-loop-rest l = length l.rest
