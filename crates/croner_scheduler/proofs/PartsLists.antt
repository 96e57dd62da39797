-- The jobs of a list with their positions: which they are, how many, and that their ids stay in order.
use Rattle.std.proofs.Common.{◌≡◌, refl, sym, ap, ◌∙◌, subst, ℕ, Bool, true, false, cond, List, [], ◌∷◌, length, map, Option, Some, None, option_map}
use Rattle.std.specs.BTreeMap.{is_at}
use Rattle.std.specs.List.Sorted.{IsStrictlySortedBy}
use Rattle.std.specs.Map.{keys_of, lookup}
use Rattle.std.specs.Ordering.{nat_cmp}
use Rattle.croner_base.specs.Zone.{Moment}
use Rattle.croner_scheduler.specs.declared.waiting.Waiting.{Waiting}
use Rattle.croner_scheduler.specs.Calls.{IsGivenBack}
use Rattle.croner_scheduler.specs.Ids.{parts_entry}
use Rattle.croner_scheduler.specs.Kept.{standing_of}

module _ {J T : Type 0} where
  parts_at : (id : ℕ) (es : List (ℕ × Waiting J T))
      → lookup (is_at (nat_cmp id)) (map parts_entry es) ≡ option_map (λ w. (w.job, w.position)) (lookup (is_at (nat_cmp id)) es)
  parts_at id [] = refl
  parts_at id (e ∷ es) = by (is_at (nat_cmp id) e.0) (parts_at id es)
    where
      by : (b : Bool) → lookup (is_at (nat_cmp id)) (map parts_entry es) ≡ option_map (λ w. (w.job, w.position)) (lookup (is_at (nat_cmp id)) es)
          → cond b (Some (e.1.job, e.1.position)) (lookup (is_at (nat_cmp id)) (map parts_entry es))
          ≡ option_map (λ w. (w.job, w.position)) (cond b (Some e.1) (lookup (is_at (nat_cmp id)) es))
      by true rest = refl
      by false rest = rest

  given_back : (moment : T → Moment) (o : Option (Waiting J T)) → IsGivenBack moment (option_map (standing_of moment) o) (option_map (λ w. (w.job, w.position)) o)
  given_back moment None = tt
  given_back moment (Some w) = (refl, refl)

  pub parts_given_back : (moment : T → Moment) (id : ℕ) (es : List (ℕ × Waiting J T))
      → IsGivenBack moment (option_map (standing_of moment) (lookup (is_at (nat_cmp id)) es)) (lookup (is_at (nat_cmp id)) (map parts_entry es))
  parts_given_back moment id es =
      subst (λ o. IsGivenBack moment (option_map (standing_of moment) (lookup (is_at (nat_cmp id)) es)) o) (sym (parts_at id es))
      (given_back moment (lookup (is_at (nat_cmp id)) es))

  pub parts_keys : (es : List (ℕ × Waiting J T)) → keys_of (map parts_entry es) ≡ keys_of es
  parts_keys [] = refl
  parts_keys (e ∷ es) = ap (λ ids. e.0 ∷ ids) (parts_keys es)
