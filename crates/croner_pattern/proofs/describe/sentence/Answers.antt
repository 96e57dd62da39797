use Rattle.std.proofs.Common.{◌≡◌, ◌∙◌, ap, sym, rules, ◌++◌, string_bytes}
use Rattle.std.specs.Prelude.{codes}
use Rattle.std.specs.Char.{encode_utf8}
use Rattle.croner_pattern.specs.Description.{sentence}
use Rattle.croner_pattern.proofs.descriptions.Sentences.{raised}
use Rattle.croner_pattern.proofs.describe.sentence.Goals as goal

pub returns : goal.returns
returns c =
    let first : c.args.text.now ≡ encode_utf8 c.in-Some.first ++ c.as_str.result.now = search rules in
    let built : string_bytes c.push_str-2.new.self ≡ (encode_utf8 c.to_ascii_uppercase.result ++ c.as_str.result.now) ++ codes "." = search rules in
    built ∙ ap (λ u. (encode_utf8 u ++ c.as_str.result.now) ++ codes ".") c.to_ascii_uppercase.ensures.value ∙ raised c.in-Some.first c.as_str.result.now ∙ ap sentence (sym first)
