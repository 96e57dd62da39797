use Rattle.std.proofs.Common.{rules, ◌≡◌, ◌<◌, true, length, get_or, drop, sym, subst, arith}
use Rattle.std.proofs.lemmas.Option.{MatchOption-at_none}
use Rattle.croner.specs.parser.Grammar.{takes}
use Rattle.croner.specs.Private.parser.Steps.{HasNoName, IsAfterLegal}
use Rattle.croner.proofs.parser.Illegal.{boundary_after, name_legal, character_legal}
use Rattle.croner.proofs.parser.characters.text_after_legal.Goals as goal

pub returns-in-Some : goal.returns-in-Some
returns-in-Some c = name_legal c.args.field c.args.text.now c.in-Some.rest.now (search rules)

pub range_from-requires : goal.range_from-requires
range_from-requires c = λ _.
    let some : 0 < length c.args.text.now = search (rules, arith) in
    let taken : takes c.args.field (get_or c.args.text.now 0 0) ≡ true = search rules in
    boundary_after c.args.field c.args.text.now c.utf8.text some taken

pub returns-in-len1-up : goal.returns-in-len1-up
returns-in-len1-up c =
    let some : 0 < length c.args.text.now = search (rules, arith) in
    let taken : takes c.args.field (get_or c.args.text.now 0 0) ≡ true = search rules in
    let none : HasNoName c.args.text.now = MatchOption-at_none _ _ c.in_default.is c.text_after_name.ensures in
    let back : c.range_from.result.now ≡ drop 1 c.args.text.now = search rules in
    subst (IsAfterLegal c.args.field c.args.text.now) (sym back) (character_legal c.args.field c.args.text.now some none taken)
