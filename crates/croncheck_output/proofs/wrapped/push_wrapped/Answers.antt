use Rattle.std.proofs.Common.{rules, ◌++◌, length, ap, lit<}
use Rattle.std.specs.Prelude.{string_bytes}
use Rattle.std.proofs.lemmas.List.{length_push}
use Rattle.std.proofs.lemmas.Iterator.Splits.{YieldsList-from_str_split}
use Rattle.std.proofs.lemmas.Iterator.Consumers.{YieldsList-turn, YieldsList-end}
use Rattle.croncheck_output.specs.Wrapped.{words_of}
use Rattle.croncheck_output.proofs.WrappedLines.{pieces_of_all, next_word_put, all_words_put}
use Rattle.croncheck_output.proofs.wrapped.push_wrapped.Goals as goal

pub loop-word-init : goal.loop-word-init
loop-word-init c = ap (λ r. string_bytes c.args.lines.now ++ r) (pieces_of_all c.args.most c.args.between.now (words_of c.args.text.now))

pub loop-word-preserved : goal.loop-word-preserved
loop-word-preserved c =
    let t = YieldsList-turn (YieldsList-from_str_split 32 c.args.text.now (lit< tt) (cc) (cc) (cc)) c.loop-word.yielded _ c.loop-word.yielded_by _ _ c.in-Some.word c.in-Some.is c.next.ensures.steps in
    rw (length_push c.loop-word.yielded c.in-Some.word)
    (next_word_put c.args.most c.args.between.now (string_bytes c.loop-word.lines) (string_bytes c.push_word.new.lines) c.loop-word.used (words_of c.args.text.now) (length c.loop-word.yielded) c.in-Some.word.now c.front_of.result.now c.length_with_word.result _ t.0 t.1 (search rules) c.front_of.ensures c.length_with_word.ensures c.loop-word.invariant)

pub returns : goal.returns
returns c =
    let t = YieldsList-end (YieldsList-from_str_split 32 c.args.text.now (lit< tt) (cc) (cc) (cc)) c.loop-word.yielded _ c.loop-word.yielded_by _ _ c.in-None.is c.next.ensures.steps in
    all_words_put c.args.most c.args.between.now (string_bytes c.loop-word.lines) c.loop-word.used (words_of c.args.text.now) (length c.loop-word.yielded) _ t.1 c.loop-word.invariant
