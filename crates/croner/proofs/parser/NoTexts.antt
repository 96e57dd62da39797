-- Settings that accept no text.
use Rattle.std.proofs.Common.{◌≡◌, ℕ, false, cond, eqb, List, length, Option, Some, None, Result, Ok, Err, refl, ap, sym, subst}
use Rattle.std.proofs.lemmas.Bool.{cond_both}
use Rattle.std.specs.Str.{trim, str_to_ascii_uppercase}
use Rattle.croner_pattern.specs.Meaning.{Meaning}
use Rattle.croner.specs.declared.parser.Seconds.TheVariants as seconds
use Rattle.croner.specs.declared.parser.Year.TheVariants as year
use Rattle.croner.specs.parser.Cut.{replaced}
use Rattle.croner.specs.parser.Grammar.{Refusal, Empty, Invalid, outcome, of_letter, of_replaced, of_fields, seven, nicknamed}
use Rattle.croner.specs.parser.Settings.{Settings, accepts_count}
use Rattle.croner.specs.parser.Words.{words}

no_count : (s : Settings) (n : ℕ) → s.seconds_field ≡ seconds.Disallowed → s.year_field ≡ year.Required → accepts_count s.seconds_field s.year_field n ≡ false
no_count s n e f = rw (e, f) refl

no_replaced : (s : Settings) (full : List ℕ) (o : Option (List ℕ)) → s.seconds_field ≡ seconds.Disallowed → s.year_field ≡ year.Required → of_replaced s full o ≡ Err Invalid
no_replaced s full None e f =
    ap (λ b. of_letter s (cond b (seven (words full)) None)) (no_count s (length (words full)) e f)
no_replaced s full (Some text) e f =
    ap (λ b. of_fields s text (cond b (seven (words text)) None)) (no_count s (length (words text)) e f)

abbrev HasNoMeaning : Result Meaning Refusal → Type 0
HasNoMeaning r = (m : Meaning) → r ≡ Ok m → ⊥

err_has_none : (e : Refusal) → HasNoMeaning (Err e)
err_has_none e = λ m h. cc

pub no_texts : (s : Settings) (text : List ℕ) → s.seconds_field ≡ seconds.Disallowed → s.year_field ≡ year.Required → (m : Meaning) → outcome s text ≡ Ok m → ⊥
no_texts s given e f =
    let text = trim (str_to_ascii_uppercase given) in
    let full = nicknamed s text in
    cond_both (eqb (length text) 0) (Err Empty) (of_replaced s full (replaced s.quartz false full)) HasNoMeaning (λ _. err_has_none Empty)
    (λ _. subst HasNoMeaning (sym (no_replaced s full (replaced s.quartz false full) e f)) (err_has_none Invalid))
