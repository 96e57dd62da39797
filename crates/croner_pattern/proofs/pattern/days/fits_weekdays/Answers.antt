use Rattle.std.proofs.Common.{◌≡◌, ℕ, Bool, List, [], ◌∷◌, Option, Some, ap, sym, ◌∙◌}
use Rattle.std.proofs.lemmas.Result.{err_from_is_err_and}
use Rattle.croner_base.specs.Field.{Field}
use Rattle.croner_pattern.specs.Days.{weekday_of, occurrence}
use Rattle.croner_pattern.specs.Questions.{asked, first_yes, last_answer, weekday_answer}
use Rattle.croner_pattern.specs.Schedule.{bit_of_nth}
use Rattle.croner_pattern.proofs.questions.QuestionsInTurn.{first_yes-none, first_yes-yes, first_yes-no, first_yes-one, Finds-same}
use Rattle.croner_pattern.proofs.pattern.days.fits_weekdays.Goals as goal

-- the three questions, with the first one as it was asked
abbrev rest : Field → ℕ → ℕ → ℕ → List (Option Bool)
rest weekdays len first day = last_answer weekdays len first day ∷ asked 1 weekdays (weekday_of first day) ∷ []

first_asked : (weekdays : Field) (len first day bit w : ℕ) → bit ≡ bit_of_nth (occurrence first day) → w ≡ weekday_of first day → weekday_answer weekdays len first day ≡ first_yes (asked bit weekdays w ∷ rest weekdays len first day)
first_asked weekdays len first day bit w b e =
    ap (λ x. first_yes (asked x weekdays (weekday_of first day) ∷ rest weekdays len first day)) (sym b)
    ∙ ap (λ x. first_yes (asked bit weekdays x ∷ rest weekdays len first day)) (sym e)

pub returns-in_err-ask : goal.returns-in_err-ask
returns-in_err-ask c =
    let p = err_from_is_err_and c.from_residual.result c.from_residual.ensures.1 in
    let q = first_asked c.args.weekdays.now c.args.length c.args.first c.args.day _ _ (c.occurrence_bit.ensures c.args.first c.requires.first) c.weekday_of-weekday.ensures.value in
    rw (p.1, p.2) (q ∙ first_yes-none _ _ c.in_err-ask.ensures.0, c.in_err-ask.ensures.1)

pub returns-then-branch : goal.returns-then-branch
returns-then-branch c =
    let q = first_asked c.args.weekdays.now c.args.length c.args.first c.args.day _ _ (c.occurrence_bit.ensures c.args.first c.requires.first) c.weekday_of-weekday.ensures.value in
    q ∙ first_yes-yes _ _ (c.in_ok-ask.ensures ∙ ap Some c.if-branch.true)

pub returns-in_err-is_last_named : goal.returns-in_err-is_last_named
returns-in_err-is_last_named c =
    let p = err_from_is_err_and c.from_residual-in_err-is_last_named.result c.from_residual-in_err-is_last_named.ensures.1 in
    let q = first_asked c.args.weekdays.now c.args.length c.args.first c.args.day _ _ (c.occurrence_bit.ensures c.args.first c.requires.first) c.weekday_of-weekday.ensures.value in
    rw (p.1, p.2) (q ∙ first_yes-no _ _ (c.in_ok-ask.ensures ∙ ap Some c.if-branch.false) ∙ first_yes-none _ _ c.in_err-is_last_named.ensures.0, c.in_err-is_last_named.ensures.1)

pub returns-then-branch-2 : goal.returns-then-branch-2
returns-then-branch-2 c =
    let q = first_asked c.args.weekdays.now c.args.length c.args.first c.args.day _ _ (c.occurrence_bit.ensures c.args.first c.requires.first) c.weekday_of-weekday.ensures.value in
    q ∙ first_yes-no _ _ (c.in_ok-ask.ensures ∙ ap Some c.if-branch.false) ∙ first_yes-yes _ _ (c.in_ok-is_last_named.ensures ∙ ap Some c.if-branch-2.true)

pub returns : goal.returns
returns c =
    let q = first_asked c.args.weekdays.now c.args.length c.args.first c.args.day _ _ (c.occurrence_bit.ensures c.args.first c.requires.first) c.weekday_of-weekday.ensures.value in
    Finds-same _ _ c.ask-2.result
    (q ∙ first_yes-no _ _ (c.in_ok-ask.ensures ∙ ap Some c.if-branch.false) ∙ first_yes-no _ _ (c.in_ok-is_last_named.ensures ∙ ap Some c.if-branch-2.false) ∙ first_yes-one _ ∙ ap (asked 1 c.args.weekdays.now) (sym c.weekday_of-weekday.ensures.value))
    c.ask-2.ensures
