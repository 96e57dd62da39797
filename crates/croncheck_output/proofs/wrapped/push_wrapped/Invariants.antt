use Rattle.std.proofs.Common.{◌≡◌, ◌++◌, length, drop}
use Rattle.std.specs.Prelude.{string_bytes}
use Rattle.croncheck_output.specs.Wrapped.{words_of, wrapped_text}
use Rattle.croncheck_output.specs.Private.Wrapping.{pieces}
use Rattle.croncheck_output.proofs.wrapped.push_wrapped.Given as goal

abbrev pub invariant-loop-word : goal.invariant-loop-word
invariant-loop-word l =
    string_bytes l.lines ++ pieces l.fn.most l.fn.between l.used (drop (length l.yielded) (words_of l.fn.text))
    ≡ string_bytes l.initial.lines ++ wrapped_text l.fn.most l.fn.between l.fn.text
