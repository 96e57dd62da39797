use Rattle.std.proofs.Common.{rules, ◌≡◌, ◌<◌, ◌-◌, suc, ap, sym, ◌∙◌, subst, lit<, arith, refl}
use Rattle.std.proofs.lemmas.Option.{MatchOption-at_none, MatchOption-at_some}
use Rattle.std.proofs.lemmas.Str.Pattern.{split_once_first}
use Rattle.std.specs.Str.{IsUtf8}
use Rattle.croner.specs.Private.parser.Places.{IsPartOf, has_part}
use Rattle.croner.proofs.parser.PartPlaces.{first_part, no_other_part, only_part, part_after_comma, part_found_after}
use Rattle.croner.proofs.parser.second_reading.+part_from.Goals as goal

pub returns-then-part-eq0 : goal.returns-then-part-eq0
returns-then-part-eq0 t c = λ h.
    let text = c.args.list.text.now in
    let utf8 : IsUtf8 text = search rules in
    let none = MatchOption-at_none _ _ c.in_default.is (split_once_first 44 text c.split_once.result c.split_once.ensures.cases (lit< tt)) in
    let zero : c.args.part ≡ 0 = search rules in
    (0, omega arith, subst (λ k. IsPartOf text k 0 text) (sym zero) (only_part text utf8 none (ap (λ k. has_part k text) (sym zero) ∙ h)))

pub returns-else-part-eq0 : goal.returns-else-part-eq0
returns-else-part-eq0 t c = λ h.
    let text = c.args.list.text.now in
    let none = MatchOption-at_none _ _ c.in_default.is (split_once_first 44 text c.split_once.result c.split_once.ensures.cases (lit< tt)) in
    no_other_part text c.args.part none (search rules) h

pub returns-then-part-eq0-2 : goal.returns-then-part-eq0-2
returns-then-part-eq0-2 t c = λ h.
    let text = c.args.list.text.now in
    let cut = MatchOption-at_some _ _ _ c.in-Some.is (split_once_first 44 text c.split_once.result c.split_once.ensures.cases (lit< tt)) in
    let zero : c.args.part ≡ 0 = search rules in
    (0, omega arith, subst (λ k. IsPartOf text k 0 c.in-Some.text.now) (sym zero) (first_part text c.in-Some.text.now c.in-Some.after.now (search rules) (search rules) cut.0 cut.1 cut.2 (ap (λ k. has_part k text) (sym zero) ∙ h)))

pub returns : goal.returns
returns t c = λ h.
    let text = c.args.list.text.now in
    let cut = MatchOption-at_some _ _ _ c.in-Some.is (split_once_first 44 text c.split_once.result c.split_once.ensures.cases (lit< tt)) in
    let other : 0 < c.args.part = search (rules, arith) in
    let same : c.args.part ≡ suc (c.args.part - 1) = omega (arith, other) in
    let there = part_after_comma text c.in-Some.text.now c.in-Some.after.now c.args.part (c.args.part - 1) cut.0 cut.1 cut.2 same h in
    part_found_after c.part_from.result text c.in-Some.text.now c.in-Some.after.now c.args.part (c.args.part - 1) c.args.list.start _ cut.0 cut.1 cut.2 same refl (c.part_from.ensures there)
