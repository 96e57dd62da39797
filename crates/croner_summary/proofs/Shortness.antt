-- A phrase that is exact, and has no more words than any piece of the field, is short.
use Rattle.std.proofs.Common.{◌≡◌, ℕ, ◌+◌, ◌<◌, ◌≤◌, Bool, true, false, ◌&&◌, eqb, leb, refl, ap, sym, ◌∙◌, arith, ◌||◌, inl, inr, List, [], ◌∷◌, Result, Ok, Err, IfOk}
use Rattle.std.proofs.lemmas.Bool.{and_parts, cases_Bool, cases_eq, cases_lt}
use Rattle.std.proofs.lemmas.Bool.Decides.{nat_tests}
use Rattle.croner_base.specs.declared.errors.CronError.{CronError}
use Rattle.croner_base.specs.Field.{Field}
use Rattle.croner_base.specs.Marks.{HasNoPlainTo, IsGreatestPlainValue}
use Rattle.croner_pattern.specs.Schedule.{is_plain}
use Rattle.croner_summary.specs.declared.phrase.Phrase.{Phrase}
use Rattle.croner_summary.specs.declared.phrase.Piece.{Piece}
use Rattle.croner_summary.specs.declared.phrase.Piece.TheVariants.{Every, EveryNth, One, Range, RangeNth}
use Rattle.croner_summary.specs.Lengths.{IsShort, length_of, words_in}
use Rattle.croner_summary.specs.Says.{is_in, is_in_some, is_within}
use Rattle.croner_summary.specs.Private.Exact.{IsExact, IsNextPlain, NamesNothing}
use Rattle.croner_summary.specs.Private.Spacing.{AreEnds, IsBestPiece, IsShortOf, NoPieceNames}
use Rattle.croner_summary.proofs.ExactDays.{exact_within}

within_of : (least greatest value : ℕ) → least ≤ value → value ≤ greatest → is_within least greatest value ≡ true
within_of least greatest value low high = grind (arith, nat_tests)

named_within : (least greatest : ℕ) (f : Field) (phrase : Phrase) (value : ℕ) → IsExact least greatest 1 f phrase → least ≤ value → value ≤ greatest
    → is_in_some least greatest phrase.pieces.items value ≡ is_plain f value
named_within least greatest f phrase value exact low high =
    let w = within_of least greatest value low high in
    ap (λ b. b && is_in_some least greatest phrase.pieces.items value) (sym w) ∙ exact_within least greatest 1 f phrase value exact low high

pub short_of : (least greatest : ℕ) (f : Field) (phrase : Phrase) → IsExact least greatest 1 f phrase → IsShortOf least greatest f phrase → IsShort least greatest phrase
short_of least greatest f phrase exact short piece same =
    short piece (λ value low high.
    let w = within_of least greatest value low high in
    same value w ∙ named_within least greatest f phrase value exact low high)

pub a_word_at_least : (piece : Piece) → 1 ≤ words_in piece
a_word_at_least Every = omega arith
a_word_at_least (EveryNth n) = omega arith
a_word_at_least (One value) = omega arith
a_word_at_least (Range first last) = omega arith
a_word_at_least (RangeNth first last n) = omega arith

pub one_word : (least greatest : ℕ) (f : Field) (phrase : Phrase) → length_of phrase.pieces.items ≤ 1 → IsShortOf least greatest f phrase
one_word least greatest f phrase few piece names = let more = a_word_at_least piece in omega arith

-- the one plain value there is
pub only_value : (least greatest : ℕ) (f : Field) (first second : ℕ) → IsNextPlain greatest f least first → first ≤ greatest
    → IsNextPlain greatest f (first + 1) second → greatest < second → IsBestPiece least greatest f (One first)
only_value least greatest f first second is within next beyond = record {
  within = let low : leb least first ≡ true = grind (arith, nat_tests, is.above) in let high : leb first greatest ≡ true = grind (arith, nat_tests) in rw (low, high) refl;
  exact = λ value low high.
      elim (cases_lt value first) [
        | inl below ↦ let miss : eqb value first ≡ false = grind (arith, nat_tests) in miss ∙ sym (is.none value low below)
        | inr above ↦
            elim (cases_eq value first) [
              | inl same ↦ let hit : eqb value first ≡ true = grind (arith, nat_tests) in hit ∙ sym (ap (is_plain f) same ∙ is.plain within)
              | inr other ↦ let miss : eqb value first ≡ false = grind (arith, nat_tests) in miss ∙ sym (next.none value (omega arith) (omega arith))
            ]
      ];
  shortest = λ other names. a_word_at_least other;
}

-- the ends of several
pub ends_of : (least greatest : ℕ) (f : Field) (first second last : ℕ) → IsNextPlain greatest f least first → first ≤ greatest
    → IsNextPlain greatest f (first + 1) second → second ≤ greatest → IsGreatestPlainValue f greatest last → AreEnds least greatest f first second last
ends_of least greatest f first second last is within next inside end = record {
  low = is.above;
  order = omega (arith, next.above);
  fits = end.last second inside (next.plain inside);
  high = end.below;
  first_plain = is.plain within;
  second_plain = next.plain inside;
  last_plain = end.plain;
  before = is.none;
  between = λ value low high. next.none value (omega arith) high;
  after = λ value low high.
      elim (cases_Bool (is_plain f value)) [
        | inl hit ↦ let miss : value ≤ last = end.last value high hit in absurd (omega arith)
        | inr miss ↦ miss
      ];
}

pub some_plain : (least greatest : ℕ) (f : Field) (first : ℕ) → IsNextPlain greatest f least first → first ≤ greatest → HasNoPlainTo f greatest → NoPieceNames least greatest f
some_plain least greatest f first is within none piece names =
    let miss : is_plain f first ≡ false = none first within in
    let hit : is_plain f first ≡ true = is.plain within in
    cc

-- ---- phrases of a field

pub all_short : (least greatest : ℕ) (f : Field) (answer : Result Phrase CronError) → IfOk answer (λ phrase. length_of phrase.pieces.items ≤ 1) → IfOk answer (IsShortOf least greatest f)
all_short least greatest f (Ok phrase) few = one_word least greatest f phrase few
all_short least greatest f (Err e) few = few

pub nothing_exact : (least greatest : ℕ) (f : Field) (phrase : Phrase) (first : ℕ) → IsNextPlain greatest f least first → greatest < first → NamesNothing phrase → IsExact least greatest 1 f phrase
nothing_exact least greatest f phrase first is beyond nothing value =
    elim (cases_Bool (is_within least greatest value)) [
      | inl inside ↦
          let bounds = and_parts (leb least value) (leb value greatest) inside in
          let low : leb least value ≡ true = bounds.0 in
          let high : leb value greatest ≡ true = bounds.1 in
          let above : least ≤ value = grind (arith, nat_tests) in
          let below : value < first = grind (arith, nat_tests) in
          ap (λ b. is_within least greatest value && b) (nothing least greatest value ∙ sym (is.none value above below))
      | inr outside ↦ rw outside refl
    ]

pub nothing_short : (least greatest : ℕ) (f : Field) (phrase : Phrase) → length_of phrase.pieces.items ≡ 0 → IsShortOf least greatest f phrase
nothing_short least greatest f phrase none piece names = omega (arith, none)

pub none_short : (least greatest : ℕ) (f : Field) (phrase : Phrase) → NoPieceNames least greatest f → IsShortOf least greatest f phrase
none_short least greatest f phrase none piece names = absurd (none piece names)

pub found_short : (least greatest : ℕ) (f : Field) (phrase : Phrase) (piece : Piece) → IsBestPiece least greatest f piece
    → length_of phrase.pieces.items ≤ words_in piece → IsShortOf least greatest f phrase
found_short least greatest f phrase piece best few other names =
    let more : words_in piece ≤ words_in other = best.shortest other names in
    omega (arith, few, more)

or_nothing : (b : Bool) → (b || false) ≡ b
or_nothing true = refl
or_nothing false = refl

pub piece_exact : (least greatest : ℕ) (f : Field) (piece : Piece) (items : List Piece) → items ≡ piece ∷ [] → IsBestPiece least greatest f piece
    → (value : ℕ) → (is_within least greatest value && is_in_some least greatest items value) ≡ (is_within least greatest value && is_plain f value)
piece_exact least greatest f piece items are best value =
    elim (cases_Bool (is_within least greatest value)) [
      | inl inside ↦
          let bounds = and_parts (leb least value) (leb value greatest) inside in
          let low : leb least value ≡ true = bounds.0 in
          let high : leb value greatest ≡ true = bounds.1 in
          let above : least ≤ value = grind (arith, nat_tests) in
          let below : value ≤ greatest = grind (arith, nat_tests) in
          ap (λ b. is_within least greatest value && b)
          (ap (λ xs. is_in_some least greatest xs value) are ∙ or_nothing (is_in least greatest piece value) ∙ best.exact value above below)
      | inr outside ↦ rw outside refl
    ]

pub piece_short : (least greatest : ℕ) (f : Field) (phrase : Phrase) (piece : Piece) → phrase.pieces.items ≡ piece ∷ [] → IsBestPiece least greatest f piece → IsShortOf least greatest f phrase
piece_short least greatest f phrase piece are best other names =
    let more : words_in piece ≤ words_in other = best.shortest other names in
    let few : length_of phrase.pieces.items ≡ 0 + words_in piece = ap length_of are in
    omega (arith, few, more)

-- the same of what a call answers
pub answers_exact : (least greatest : ℕ) (f : Field) (piece : Piece) (answer : Result Phrase CronError) → IfOk answer (λ phrase. phrase.pieces.items ≡ piece ∷ [])
    → IsBestPiece least greatest f piece → IfOk answer (IsExact least greatest 1 f)
answers_exact least greatest f piece (Ok phrase) are best = piece_exact least greatest f piece phrase.pieces.items are best
answers_exact least greatest f piece (Err e) are best = are

pub answers_short : (least greatest : ℕ) (f : Field) (piece : Piece) (answer : Result Phrase CronError) → IfOk answer (λ phrase. phrase.pieces.items ≡ piece ∷ [])
    → IsBestPiece least greatest f piece → IfOk answer (IsShortOf least greatest f)
answers_short least greatest f piece (Ok phrase) are best = piece_short least greatest f phrase piece are best
answers_short least greatest f piece (Err e) are best = are

pub answers_none : (least greatest : ℕ) (f : Field) (answer : Result Phrase CronError) → IfOk answer (IsExact least greatest 1 f)
    → NoPieceNames least greatest f → IfOk answer (IsShortOf least greatest f)
answers_none least greatest f (Ok phrase) exact none = none_short least greatest f phrase none
answers_none least greatest f (Err e) exact none = exact
