use Rattle.std.proofs.Common.{rules, ◌≡◌, ◌<◌, ◌+◌, ◌^◌, true, false, eqb, length, map, ap, sym, ◌∙◌, arith}
use Rattle.std.proofs.lemmas.Bool.{eq-eqb}
use Rattle.std.proofs.lemmas.List.{length-map}
use Rattle.croner_base.specs.Part.{contains_byte}
use Rattle.croner.specs.declared.parser.pieces.Piece.{Piece}
use Rattle.croner.specs.parser.Faults.{counted_word, most_fields}
use Rattle.croner.proofs.parser.FoundPlaces.{counted_some, found_count, found_word, whole_by_none, whole_by_sign}
use Rattle.croner.proofs.parser.WordPlaces.{word_at_place, word_ends}
use Rattle.croner.proofs.parser.second_reading.wrong_count.Goals as goal

pub returns-then-most-eq0 : goal.returns-then-most-eq0
returns-then-most-eq0 c =
    let s = c.args.parser.now in
    let none : most_fields s.seconds_field s.year_field ≡ 0 = search rules in
    rw (c.finding_of_whole.ensures.starts, c.finding_of_whole.ensures.ends) (found_count s c.args.text.now c.utf8.text (whole_by_none s c.args.text.now (eq-eqb _ 0 none)))

pub returns-then-has_byte : goal.returns-then-has_byte
returns-then-has_byte c =
    let s = c.args.parser.now in
    let text = c.args.text.now in
    let sign : contains_byte 64 text ≡ true = search rules in
    rw (c.finding_of_whole-then-has_byte.ensures.starts, c.finding_of_whole-then-has_byte.ensures.ends) (found_count s text c.utf8.text (whole_by_sign s text sign))

pub returns : goal.returns
returns c =
    let s = c.args.parser.now in
    let text = c.args.text.now in
    let pieces = c.args.words.now in
    let word = c.in-Some.word.now in
    let place = c.saturating_sub.result in
    let no_at : contains_byte 64 text ≡ false = search rules in
    let some : eqb (most_fields s.seconds_field s.year_field) 0 ≡ false = search rules in
    let count : length pieces ≡ length (map (λ (w : Piece). w.text.now) pieces) = sym (length-map pieces (λ (w : Piece). w.text.now)) in
    let number : c.counted_word-number.result ≡ counted_word s text = c.counted_word-number.ensures text (count ∙ ap length c.requires.words.all) in
    let positive = counted_some s text (c.requires.cause no_at) in
    let is_number : counted_word s text ≡ place + 1 = search (rules, number, positive, arith) in
    let look = c.in-Some.ensures.lookup in
    let k = word_at_place text pieces place word c.requires.words look.0 look.1 in
    let ends = word_ends text place word.start word.text.now c.utf8.text k.0 in
    let small : word.start + length word.text.now < 2 ^ 64 = search (rules, ends, arith) in
    rw (c.finding.ensures.starts, c.finding.ensures.ends small) (found_word s text place word.start word.text.now c.utf8.text k.0 no_at some is_number)
