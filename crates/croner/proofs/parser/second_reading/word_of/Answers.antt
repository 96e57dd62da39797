use Rattle.std.proofs.Common.{◌≡◌, ◌∙◌, sym, ap, length, map, subst, true, ltb, get_or}
use Rattle.std.proofs.lemmas.List.{length-map}
use Rattle.croner.specs.declared.parser.pieces.Piece.{Piece}
use Rattle.croner.specs.parser.Faults.{place_of_word}
use Rattle.croner.proofs.parser.WordPlaces.{word_at_place}
use Rattle.croner.proofs.parser.second_reading.word_of.Goals as goal

pub returns : goal.returns
returns c = λ text its here.
    let pieces = c.args.words.now in
    let word = c.in_ok-word.word.now in
    let count : length pieces ≡ length (map (λ (w : Piece). w.text.now) pieces) = sym (length-map pieces (λ (w : Piece). w.text.now)) in
    let place : c.place_of_word-place.result ≡ place_of_word text c.args.field = c.place_of_word-place.ensures text (count ∙ ap length its.all) in
    let look = c.in_ok-word.ensures.lookup in
    word_at_place text pieces (place_of_word text c.args.field) word its (subst (λ n. true ≡ ltb n (length pieces)) place look.0) (subst (λ n. word ≡ get_or pieces n word) place look.1)
