-- Questions in turn: what the next answer makes of the rest.
use Rattle.std.proofs.Common.{◌≡◌, ℕ, suc, ◌+◌, ◌-◌, ◌≤◌, Bool, true, false, List, [], ◌∷◌, map, Option, Some, None, Result, refl, ap, sym, ◌∙◌, arith, subst}
use Rattle.std.specs.List.{range_with_len}
use Rattle.croner_base.specs.declared.errors.CronError.{CronError}
use Rattle.croner_base.specs.Answers.{Finds}
use Rattle.croner_base.specs.Field.{values_between}
use Rattle.croner_pattern.specs.Questions.{first_yes}

pub first_yes-none : (q : Option Bool) (more : List (Option Bool)) → q ≡ None → first_yes (q ∷ more) ≡ None
first_yes-none q more h = ap (λ x. first_yes (x ∷ more)) h

pub first_yes-yes : (q : Option Bool) (more : List (Option Bool)) → q ≡ Some true → first_yes (q ∷ more) ≡ Some true
first_yes-yes q more h = ap (λ x. first_yes (x ∷ more)) h

pub first_yes-no : (q : Option Bool) (more : List (Option Bool)) → q ≡ Some false → first_yes (q ∷ more) ≡ first_yes more
first_yes-no q more h = ap (λ x. first_yes (x ∷ more)) h

-- a single question that is left is its own answer
pub first_yes-one : (q : Option Bool) → first_yes (q ∷ []) ≡ q
first_yes-one None = refl
first_yes-one (Some true) = refl
first_yes-one (Some false) = refl

values-more : (v e : ℕ) → v ≤ e → values_between v e ≡ v ∷ values_between (v + 1) e
values-more v e h =
    let n : (e + 1) - v ≡ suc ((e + 1) - (v + 1)) = omega arith in
    ap (range_with_len v) n

next_turn : (q : ℕ → Option Bool) (v e : ℕ) (whole : Option Bool) → v ≤ e → first_yes (map q (values_between v e)) ≡ whole → first_yes (q v ∷ map q (values_between (v + 1) e)) ≡ whole
next_turn q v e whole low h = sym (ap (λ vs. first_yes (map q vs)) (values-more v e low)) ∙ h

pub turn-yes : (q : ℕ → Option Bool) (v e : ℕ) (whole : Option Bool) → v ≤ e → first_yes (map q (values_between v e)) ≡ whole → q v ≡ Some true → whole ≡ Some true
turn-yes q v e whole low h hit = sym (next_turn q v e whole low h) ∙ first_yes-yes (q v) _ hit

pub turn-no : (q : ℕ → Option Bool) (v e : ℕ) (whole : Option Bool) → v ≤ e → first_yes (map q (values_between v e)) ≡ whole → q v ≡ Some false → first_yes (map q (values_between (v + 1) e)) ≡ whole
turn-no q v e whole low h miss = sym (first_yes-no (q v) _ miss) ∙ next_turn q v e whole low h

pub Finds-same : (found other : Option Bool) (result : Result Bool CronError) → other ≡ found → Finds (λ held. held) found result → Finds (λ held. held) other result
Finds-same found other result e h = subst (λ o. Finds (λ (held : Bool). held) o result) (sym e) h
