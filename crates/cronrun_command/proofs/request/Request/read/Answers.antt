use Rattle.std.proofs.Common.{◌∷◌, [], map, string_bytes, Option, subst, sym, refl, arith}
use borrow.Author.Tests.{ltb-true, ltb-false}
use Rattle.jiff.specs.declared.tz.timezone.TimeZone.{TimeZone}
use Rattle.cronrun_command.specs.Call.{NameZone}
use Rattle.cronrun_command.proofs.Calls.{asks_for_runs}
use Rattle.cronrun_command.proofs.Words.{four_texts, five_texts, call_words, none_is_not_some}
use Rattle.cronrun_command.proofs.request.Request.read.Goals as goal
use Rattle.cronrun_command.proofs.request.Request.read.Goals.{in_default-via-then-words-lt2, in_default-via-else-words-lt2+else-words-lt3+else-words-lt4+else-words-lt5+else-words-lt6}

pub returns-in_err-listing-in-len4-clause-finds : goal.returns-in_err-listing-in-len4-clause-finds
returns-in_err-listing-in-len4-clause-finds c = λ r ask.
    let command = c.as_str-in-len4 in
    let pattern = c.as_str-in-len4-2 in
    let at = c.as_str-in-len4-3 in
    let count = c.as_str-in-len4-4 in
    let e = four_texts string_bytes c.args.words.now
    c.command-item-then-words-lt5.result c.pattern-item-then-words-lt5.result c.at-item-then-words-lt5.result c.count-item.result
    command.result.now pattern.result.now at.result.now count.result.now c.in-len4.len_at_least c.in-len4.len_below
    c.command-item-then-words-lt5.is c.pattern-item-then-words-lt5.is c.at-item-then-words-lt5.is c.count-item.is
    command.ensures.value pattern.ensures.value at.ensures.value count.ensures.value in
    let asked = asks_for_runs (map string_bytes c.args.words.now) command.result.now pattern.result.now at.result.now count.result.now [] r e ask in
    absurd (none_is_not_some c.read.result c.in_err-listing-in-len4.was
    (c.read.ensures.finds asked.0.direction asked.0.at asked.0.count asked.1.command_is asked.1.at_is asked.1.count_is))

pub returns-in_err-listing-in-len5-clause-finds : goal.returns-in_err-listing-in-len5-clause-finds
returns-in_err-listing-in-len5-clause-finds c = λ r ask.
    let rule = c.as_str-in-len5 in
    let command = c.as_str-in-len5-2 in
    let pattern = c.as_str-in-len5-3 in
    let at = c.as_str-in-len5-4 in
    let count = c.as_str-in-len5-5 in
    let e = five_texts string_bytes c.args.words.now
    c.command-item-then-words-lt6.result c.pattern-item-then-words-lt6.result c.at-item-then-words-lt6.result c.count-item-then-words-lt6.result c.rule-item.result
    command.result.now pattern.result.now at.result.now count.result.now rule.result.now c.in-len5.len_at_least c.in-len5.len_below
    c.command-item-then-words-lt6.is c.pattern-item-then-words-lt6.is c.at-item-then-words-lt6.is c.count-item-then-words-lt6.is c.rule-item.is
    command.ensures.value pattern.ensures.value at.ensures.value count.ensures.value rule.ensures.value in
    let asked = asks_for_runs (map string_bytes c.args.words.now) command.result.now pattern.result.now at.result.now count.result.now (rule.result.now ∷ []) r e ask in
    absurd (none_is_not_some c.read-in-len5.result c.in_err-listing-in-len5.was
    (c.read-in-len5.ensures.finds asked.0.direction asked.0.at asked.0.count asked.1.command_is asked.1.at_is asked.1.count_is))

pub returns-in_ok-listing-in-len4-clause-reads : goal.returns-in_ok-listing-in-len4-clause-reads
returns-in_ok-listing-in-len4-clause-reads c =
    let P : Option TimeZone → Type 0 = λ z. NameZone [] z in
    let l = c.in_ok-listing-in-len4.ensures.reads in
    let command = c.as_str-in-len4 in
    let pattern = c.as_str-in-len4-2 in
    let at = c.as_str-in-len4-3 in
    let count = c.as_str-in-len4-4 in
    let e = four_texts string_bytes c.args.words.now
    c.command-item-then-words-lt5.result c.pattern-item-then-words-lt5.result c.at-item-then-words-lt5.result c.count-item.result
    command.result.now pattern.result.now at.result.now count.result.now c.in-len4.len_at_least c.in-len4.len_below
    c.command-item-then-words-lt5.is c.pattern-item-then-words-lt5.is c.at-item-then-words-lt5.is c.count-item.is
    command.ensures.value pattern.ensures.value at.ensures.value count.ensures.value in
    (at.result.now, count.result.now, [], cc (e, l.command_is, l.pattern_is), l.at_is, l.count_is, subst P (sym l.zone_is) refl)

pub returns-in_ok-listing-in-len5-clause-reads : goal.returns-in_ok-listing-in-len5-clause-reads
returns-in_ok-listing-in-len5-clause-reads c =
    let rule = c.as_str-in-len5 in
    let P : Option TimeZone → Type 0 = λ z. NameZone (rule.result.now ∷ []) z in
    let l = c.in_ok-listing-in-len5.ensures.reads in
    let command = c.as_str-in-len5-2 in
    let pattern = c.as_str-in-len5-3 in
    let at = c.as_str-in-len5-4 in
    let count = c.as_str-in-len5-5 in
    let e = five_texts string_bytes c.args.words.now
    c.command-item-then-words-lt6.result c.pattern-item-then-words-lt6.result c.at-item-then-words-lt6.result c.count-item-then-words-lt6.result c.rule-item.result
    command.result.now pattern.result.now at.result.now count.result.now rule.result.now c.in-len5.len_at_least c.in-len5.len_below
    c.command-item-then-words-lt6.is c.pattern-item-then-words-lt6.is c.at-item-then-words-lt6.is c.count-item-then-words-lt6.is c.rule-item.is
    command.ensures.value pattern.ensures.value at.ensures.value count.ensures.value rule.ensures.value in (
      at.result.now,
      count.result.now,
      rule.result.now ∷ [],
      cc (e, l.command_is, l.pattern_is),
      l.at_is,
      l.count_is,
      subst P (sym l.zone_is) (rule.result.now, refl, c.in_ok-zone-in-len5.ensures.reads),
    )

pub returns-in_default-clause-finds : goal.returns-in_default-clause-finds
returns-in_default-clause-finds c = λ r ask.
    let n = call_words string_bytes c.args.words.now r ask in
    elim c.in_default.branch [
      | in_default-via-then-words-lt2 w ↦ absurd (omega (arith, ltb-true))
      | in_default-via-else-words-lt2+else-words-lt3+else-words-lt4+else-words-lt5+else-words-lt6 w ↦ absurd (omega (arith, ltb-false))
    ]
