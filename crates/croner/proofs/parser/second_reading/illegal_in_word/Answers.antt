use Rattle.std.proofs.Common.{rules, ◌≡◌, ◌+◌, ◌++◌, ap, sym, drop, refl}
use Rattle.std.proofs.lemmas.Str.{IsUtf8-drop}
use Rattle.std.specs.Char.{encode_utf8}
use Rattle.std.specs.Str.{IsUtf8}
use Rattle.std.specs.Str.Iter.{chars_rest}
use Rattle.croner.proofs.parser.LegalWords.{first_char}
use Rattle.croner.proofs.parser.second_reading.illegal_in_word.Goals as goal

pub returns : goal.returns
returns c =
    let at = c.illegal_at-at.result in
    let word = c.args.word.text.now in
    let rest = chars_rest c.next.new.self in
    let begins : drop at word ≡ encode_utf8 c.in-Some.c ++ rest = search rules in
    let utf8 : IsUtf8 word = search rules in
    let k = first_char (drop at word) rest c.in-Some.c (IsUtf8-drop word at utf8 c.illegal_at-at.ensures.starts) begins in (
      at,
      at + c.len_utf8.result,
      refl,
      refl,
      record {
        from = c.illegal_at-at.ensures;
        c = c.in-Some.c;
        rest = rest;
        its_end = ap (λ n. at + n) (sym c.len_utf8.ensures.len);
        is_scalar = k.0;
        begins = begins;
        rest_utf8 = k.1;
      },
    )
