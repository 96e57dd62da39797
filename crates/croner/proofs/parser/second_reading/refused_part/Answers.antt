use Rattle.std.proofs.Common.{rules, ◌≡◌, true, ap, ◌∙◌, lit<, arith}
use Rattle.std.proofs.lemmas.Option.{MatchOption-at_none}
use Rattle.std.proofs.lemmas.Str.Pattern.{find_char}
use Rattle.croner.specs.parser.Faults.{place_of_word}
use Rattle.croner.specs.parser.Grammar.{without_sign}
use Rattle.croner.specs.Private.parser.Places.{has_part}
use Rattle.croner.proofs.parser.FoundPlaces.{found_in_part, no_sign, part_ends, part_within}
use Rattle.croner.proofs.parser.WordPlaces.{word_ends}
use Rattle.croner.proofs.parser.second_reading.refused_part.Goals as goal

pub unreachable-requires : goal.unreachable-requires
unreachable-requires c =
    let text = c.args.text.now in
    let no_at = no_sign text (MatchOption-at_none _ _ c.in_default.is (find_char 64 text c.find.result c.find.ensures.cases (lit< tt))) in
    let cause = c.requires.cause no_at in
    c.in_default-word_of.ensures text c.requires.words cause.0

pub part_of-requires : goal.part_of-requires
part_of-requires c =
    let text = c.args.text.now in
    let no_at = no_sign text (MatchOption-at_none _ _ c.in_default.is (find_char 64 text c.find.result c.find.ensures.cases (lit< tt))) in
    let cause = c.requires.cause no_at in
    let k = c.in-Some-word_of.ensures text c.requires.words cause.0 in
    let ends = word_ends text (place_of_word text c.args.field) c.in-Some-word_of.word.start c.in-Some-word_of.word.text.now c.utf8.text k.0 in
    search (rules, ends, arith)

pub unreachable-requires-in_default-part_of : goal.unreachable-requires-in_default-part_of
unreachable-requires-in_default-part_of c =
    let text = c.args.text.now in
    let no_at = no_sign text (MatchOption-at_none _ _ c.in_default.is (find_char 64 text c.find.result c.find.ensures.cases (lit< tt))) in
    let cause = c.requires.cause no_at in
    let k = c.in-Some-word_of.ensures text c.requires.words cause.0 in
    let there : has_part c.args.part (without_sign c.args.field c.in-Some-word_of.word.text.now) ≡ true = ap (λ x. has_part c.args.part (without_sign c.args.field x)) k.1 ∙ cause.1 in
    c.in_default-part_of.ensures there

pub found_within-requires-clause-small : goal.found_within-requires-clause-small
found_within-requires-clause-small c =
    let text = c.args.text.now in
    let no_at = no_sign text (MatchOption-at_none _ _ c.in_default.is (find_char 64 text c.find.result c.find.ensures.cases (lit< tt))) in
    let cause = c.requires.cause no_at in
    let k = c.in-Some-word_of.ensures text c.requires.words cause.0 in
    let there : has_part c.args.part (without_sign c.args.field c.in-Some-word_of.word.text.now) ≡ true = ap (λ x. has_part c.args.part (without_sign c.args.field x)) k.1 ∙ cause.1 in
    let ends = part_ends text c.in-Some-word_of.word.text.now (place_of_word text c.args.field) c.in-Some-word_of.word.start c.args.part c.in-Some-part_of.written c.utf8.text k.0 (c.in-Some-part_of.ensures there) in
    search (rules, ends, arith)

pub found_within-requires-clause-whole : goal.found_within-requires-clause-whole
found_within-requires-clause-whole c =
    let text = c.args.text.now in
    let no_at = no_sign text (MatchOption-at_none _ _ c.in_default.is (find_char 64 text c.find.result c.find.ensures.cases (lit< tt))) in
    let cause = c.requires.cause no_at in
    let k = c.in-Some-word_of.ensures text c.requires.words cause.0 in
    let there : has_part c.args.part (without_sign c.args.field c.in-Some-word_of.word.text.now) ≡ true = ap (λ x. has_part c.args.part (without_sign c.args.field x)) k.1 ∙ cause.1 in
    part_within text c.in-Some-word_of.word.text.now (place_of_word text c.args.field) c.in-Some-word_of.word.start c.args.part c.in-Some-part_of.written c.utf8.text k.0 (c.in-Some-part_of.ensures there)

pub returns : goal.returns
returns c =
    let text = c.args.text.now in
    let no_at = no_sign text (MatchOption-at_none _ _ c.in_default.is (find_char 64 text c.find.result c.find.ensures.cases (lit< tt))) in
    let cause = c.requires.cause no_at in
    let k = c.in-Some-word_of.ensures text c.requires.words cause.0 in
    let there : has_part c.args.part (without_sign c.args.field c.in-Some-word_of.word.text.now) ≡ true = ap (λ x. has_part c.args.part (without_sign c.args.field x)) k.1 ∙ cause.1 in
    found_in_part c.args.parser.now text c.args.field c.args.part c.in-Some-word_of.word.start c.found_within.result.start c.found_within.result.end c.in-Some-word_of.word.text.now c.in-Some-part_of.written c.utf8.text cause.0 no_at k.0
    (c.in-Some-part_of.ensures there) c.found_within.ensures
