use Rattle.std.proofs.Common.{◌≡◌, take, map}
use Rattle.croncheck_files.specs.Names.{places_seen, asked_seen, asked_files}
use Rattle.croncheck_files.proofs.names.asked_files.Given as goal

abbrev pub invariant-loop-k : goal.invariant-loop-k
invariant-loop-k l =
    map asked_seen l.files.items ≡ asked_files (places_seen l.fn.options) l.fn.stdin_name l.fn.places 0 (map (λ word. word.now) (take l.k l.fn.words))
