use Rattle.std.proofs.Common.{List, [], ◌∷◌, ℕ, map, ◌++◌, ◌≡◌, refl, ap, subst, Bor}
use Rattle.std.proofs.lemmas.List.{append-nil}
use Rattle.std.specs.Str.Iter.{split_whitespace_rest}
use Rattle.croner.specs.parser.Words.{AreWords, StartsWith}
use Rattle.croncheck_warnings.proofs.warnings.fields.words_of.Goals as goal

pushed : (items : List (Bor (List ℕ))) (w : Bor (List ℕ)) (ws : List (List ℕ)) → map (λ x. x.now) (items ++ w ∷ []) ++ ws ≡ map (λ x. x.now) items ++ (w.now ∷ ws)
pushed [] w ws = refl
pushed (x ∷ items) w ws = ap (λ r. x.now ∷ r) (pushed items w ws)

pub loop-word-preserved : goal.loop-word-preserved
loop-word-preserved c = λ ws h.
    let s = c.in-Some.ensures.steps in
    let first : StartsWith (split_whitespace_rest c.loop-word.word-iterator) c.in-Some.word.now (split_whitespace_rest c.next.new.self) =
    record { gap = s.0; spells = s.1; some = s.2; is_gap = s.3; is_word = s.4; ends = s.5 } in
    let all = c.loop-word.invariant (c.in-Some.word.now ∷ ws) (split_whitespace_rest c.next.new.self, first, h) in
    rw (c.in_ok-push.ensures.items, pushed c.loop-word.words.items c.as_bytes.result ws, c.as_bytes.ensures.value) all

pub returns : goal.returns
returns c =
    let all = c.loop-word.invariant [] (c.in-None.ensures.steps.1) in subst (AreWords c.args.text.now) (append-nil _) all
