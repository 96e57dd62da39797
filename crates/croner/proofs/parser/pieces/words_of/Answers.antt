use Rattle.std.proofs.Common.{[], ◌∷◌, ◌+◌, ◌-◌, map, length, ◌++◌, ap, sym, subst, ◌∙◌, arith}
use Rattle.std.proofs.lemmas.List.{length-map, map-append}
use Rattle.std.specs.Str.{trim_start}
use Rattle.std.specs.Str.Iter.{split_whitespace_rest}
use Rattle.croner.specs.declared.parser.pieces.Piece.{Piece}
use Rattle.croner.specs.parser.Words.{StartsWith}
use Rattle.croner.specs.Private.parser.Places.{IsWalked, IsWordFrom}
use Rattle.croner.proofs.parser.WordPlaces.{next_start, placed_more, walk_boundary, walk_ends, walk_goes_on}
use Rattle.croner.proofs.parser.pieces.words_of.Goals as goal

pub range_from-requires : goal.range_from-requires
range_from-requires c = λ _. walk_boundary c.args.text.now (split_whitespace_rest c.loop-word.word-iterator) _ c.loop-word.from c.loop-word.invariant.0

pub loop-word-preserved : goal.loop-word-preserved
loop-word-preserved c =
    let text = c.args.text.now in
    let rest = split_whitespace_rest c.loop-word.word-iterator in
    let after = split_whitespace_rest c.next.new.self in
    let word = c.in-Some.word.now in
    let items = c.loop-word.words.items in
    let ws = map (λ (w : Piece). w.text.now) items in
    let t = c.in-Some.ensures.steps in
    let s : StartsWith rest word after = record { gap = t.0; spells = t.1; some = t.2; is_gap = t.3; is_word = t.4; ends = t.5 } in
    let w = c.loop-word.invariant.0 in
    let start = next_start text rest word after c.trim_start-here.result.now ws c.loop-word.from w s (c.trim_start-here.ensures.trim ∙ ap trim_start c.range_from.ensures.value) in
    let n = length text - length c.trim_start-here.result.now in
    let on = walk_goes_on text word after rest ws c.loop-word.from w s in
    let here : IsWordFrom text (0 + length items) (length text - length c.trim_start-here.result.now) word = record {
      ws = ws;
      from = c.loop-word.from;
      rest = rest;
      after = after;
      walked = w;
      first = s;
      its_place = length-map items (λ (w : Piece). w.text.now) ∙ omega arith;
      its_start = sym start;
    } in
    rw c.in_ok-push.ensures.items (
      subst (λ vs. IsWalked text vs (n + length word) after) (sym (map-append (λ (w : Piece). w.text.now) items _)) (subst (λ m. IsWalked text (ws ++ word ∷ []) (m + length word) after) (sym start) on),
      placed_more text 0 items _ c.loop-word.invariant.1 here,
    )

pub returns : goal.returns
returns c = record {
  all = walk_ends c.args.text.now (split_whitespace_rest c.loop-word.word-iterator) _ c.loop-word.from c.utf8.text c.loop-word.invariant.0 c.in-None.ensures.steps.1;
  placed = c.loop-word.invariant.1;
}
