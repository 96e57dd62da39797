use Rattle.std.proofs.Common.{rules, ◌≡◌, [], length, ap, sym, ◌∙◌, lit<, arith}
use Rattle.std.proofs.lemmas.Option.{MatchOption-at_none, MatchOption-at_some}
use Rattle.std.proofs.lemmas.Str.Pattern.{find_char}
use Rattle.std.specs.Str.{str_to_ascii_uppercase}
use Rattle.croner.specs.parser.Faults.{from_illegal, place_of_word, word_of}
use Rattle.croner.specs.parser.Grammar.{without_sign}
use Rattle.croner.proofs.parser.FoundPlaces.{found_character, found_sign_character, no_sign}
use Rattle.croner.proofs.parser.WordPlaces.{word_ends}
use Rattle.croner.proofs.parser.second_reading.illegal_character.Goals as goal

pub returns-in-Some : goal.returns-in-Some
returns-in-Some c =
    let k = MatchOption-at_some _ _ c.in-Some.start c.in-Some.is (find_char 64 c.args.text.now c.find.result c.find.ensures.cases (lit< tt)) in
    rw (c.at_sign.ensures.starts, c.at_sign.ensures.ends) (found_sign_character c.args.parser.now c.args.text.now c.args.field c.in-Some.start c.utf8.text k.0 k.1)

pub unreachable-requires : goal.unreachable-requires
unreachable-requires c =
    let text = c.args.text.now in
    let no_at = no_sign text (MatchOption-at_none _ _ c.in_default.is (find_char 64 text c.find.result c.find.ensures.cases (lit< tt))) in
    c.in_default-word_of.ensures text c.requires.words (c.requires.cause no_at).0

pub illegal_in_word-requires : goal.illegal_in_word-requires
illegal_in_word-requires c =
    let text = c.args.text.now in
    let no_at = no_sign text (MatchOption-at_none _ _ c.in_default.is (find_char 64 text c.find.result c.find.ensures.cases (lit< tt))) in
    let k = c.in-Some-word_of.ensures text c.requires.words (c.requires.cause no_at).0 in
    let ends = word_ends text (place_of_word text c.args.field) c.in-Some-word_of.word.start c.in-Some-word_of.word.text.now c.utf8.text k.0 in
    search (rules, ends, arith)

pub unreachable-requires-in_default-2 : goal.unreachable-requires-in_default-2
unreachable-requires-in_default-2 c =
    let text = c.args.text.now in
    let no_at = no_sign text (MatchOption-at_none _ _ c.in_default.is (find_char 64 text c.find.result c.find.ensures.cases (lit< tt))) in
    let cause = c.requires.cause no_at in
    let k = c.in-Some-word_of.ensures text c.requires.words cause.0 in
    let none = MatchOption-at_none _ _ c.in_default-2.is c.in_ok-illegal.ensures in
    let same : from_illegal c.args.field (without_sign c.args.field (word_of text c.args.field)) ≡ [] =
    ap (λ x. from_illegal c.args.field (without_sign c.args.field (str_to_ascii_uppercase x))) (sym k.1) ∙ none in
    omega (arith, ap length same, cause.1)

pub returns : goal.returns
returns c =
    let text = c.args.text.now in
    let no_at = no_sign text (MatchOption-at_none _ _ c.in_default.is (find_char 64 text c.find.result c.find.ensures.cases (lit< tt))) in
    let cause = c.requires.cause no_at in
    let word = c.in-Some-word_of.word in
    let k = c.in-Some-word_of.ensures text c.requires.words cause.0 in
    let i = MatchOption-at_some _ _ c.in-Some-2.illegal c.in-Some-2.is c.in_ok-illegal.ensures in
    found_character c.args.parser.now text c.args.field word.start c.in-Some-2.illegal.start c.in-Some-2.illegal.end word.text.now i.0 i.1 c.utf8.text cause.0 no_at k.0 k.1 i.4 i.2 i.3
