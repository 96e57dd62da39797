use Rattle.std.proofs.Common.{rules, ap, ◌∙◌, ◌≡◌, ◌++◌, length, string_bytes}
use Rattle.std.proofs.lemmas.Iterator.{YieldsList-from_chars}
use Rattle.std.proofs.lemmas.Iterator.Consumers.{YieldsList-turn, YieldsList-end}
use Rattle.std.proofs.lemmas.List.{length_push}
use Rattle.std.proofs.lemmas.Str.{encodes-chars}
use Rattle.std.specs.Char.{encode_utf8}
use Rattle.std.specs.Str.{chars}
use Rattle.croner.specs.parser.Grammar.{starred}
use Rattle.croner.proofs.parser.Starred.{no_question, starred_step, starred_end}
use Rattle.croner.proofs.parser.settle.replace_questions.Goals as goal

pub returns-then-not-has_byte : goal.returns-then-not-has_byte
returns-then-not-has_byte c = no_question c.args.text.now (search rules)

pub loop-c-init : goal.loop-c-init
loop-c-init c = rw c.in_ok-written.ensures.bytes (ap starred (encodes-chars c.args.text.now c.utf8.text))

pub loop-c-preserved : goal.loop-c-preserved
loop-c-preserved c =
    let t = YieldsList-turn (YieldsList-from_chars c.args.text.now c.utf8.text cc) c.loop-c.yielded _ c.loop-c.yielded_by _ _ c.in-Some.c c.in-Some.is c.next.ensures.steps in
    let pushed : string_bytes c.push.new.self ≡ string_bytes c.loop-c.written ++ encode_utf8 c.star_for.result = search rules in
    rw (length_push c.loop-c.yielded c.in-Some.c)
    (starred_step (chars c.args.text.now) (length c.loop-c.yielded) c.in-Some.c (string_bytes c.loop-c.written) (string_bytes c.push.new.self) (starred c.args.text.now) t (pushed ∙ ap (λ x. string_bytes c.loop-c.written ++ encode_utf8 x) c.star_for.ensures) c.loop-c.invariant)

pub returns : goal.returns
returns c =
    let t = YieldsList-end (YieldsList-from_chars c.args.text.now c.utf8.text cc) c.loop-c.yielded _ c.loop-c.yielded_by _ _ c.in-None.is c.next.ensures.steps in
    starred_end (chars c.args.text.now) (length c.loop-c.yielded) (string_bytes c.loop-c.written) (starred c.args.text.now) t.1 c.loop-c.invariant
