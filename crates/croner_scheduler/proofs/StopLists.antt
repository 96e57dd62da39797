-- The jobs of a list that have something to show: which they are, and that their ids stay in order.
use Rattle.std.proofs.Common.{◌≡◌, refl, sym, ap, ◌∙◌, subst, ℕ, Bool, true, false, cond, Option, Some, None, option_map}
use Rattle.std.specs.BTreeMap.{is_at}
use Rattle.std.specs.List.{filter_map, cons_option, AllByRecursion}
use Rattle.std.specs.List.Sorted.{IsStrictlySortedBy}
use Rattle.std.specs.Map.{keys_of, lookup}
use Rattle.std.specs.Option.{option_and_then}
use Rattle.std.specs.Ordering.{nat_cmp, is_eq}
use Rattle.std.specs.declared.cmp.Ordering.TheVariants.{Less}
use mathlib.Core.List.{List, [], ◌∷◌}
use Rattle.croner_scheduler.proofs.SameIds.{same_id}

-- an id is none of the higher ones
none_higher : {X : Type 0} (x : ℕ) (es : List (ℕ × X)) → AllByRecursion (λ y. nat_cmp x y ≡ Less) (keys_of es) → lookup (is_at (nat_cmp x)) es ≡ None
none_higher x [] h = refl
none_higher x (e ∷ es) h = ap (λ r. cond (is_eq r) (Some e.1) (lookup (is_at (nat_cmp x)) es)) h.0 ∙ none_higher x es h.1

module _ {X Y : Type 0} (shows : X → Option Y) where
  abbrev pub entry : ℕ × X → Option (ℕ × Y)
  entry e = option_map (λ y. (e.0, y)) (shows e.1)

  -- what holds of each id holds of those that are left
  ids_all : (P : ℕ → Type 0) (es : List (ℕ × X)) → AllByRecursion P (keys_of es) → AllByRecursion P (keys_of (filter_map entry es))
  ids_all P [] h = tt
  ids_all P (e ∷ es) h = by (shows e.1) (ids_all P es h.1)
    where
      by : (o : Option Y) → AllByRecursion P (keys_of (filter_map entry es))
          → AllByRecursion P (keys_of (cons_option (option_map (λ y. (e.0, y)) o) (filter_map entry es)))
      by None rest = rest
      by (Some y) rest = (h.0, rest)

  pub shown_in_order : (es : List (ℕ × X)) → IsStrictlySortedBy nat_cmp (keys_of es) → IsStrictlySortedBy nat_cmp (keys_of (filter_map entry es))
  unfolding IsStrictlySortedBy
  shown_in_order [] h = tt
  shown_in_order (e ∷ es) h = by (shows e.1) (shown_in_order es h.1)
    where
      by : (o : Option Y) → IsStrictlySortedBy nat_cmp (keys_of (filter_map entry es))
          → IsStrictlySortedBy nat_cmp (keys_of (cons_option (option_map (λ y. (e.0, y)) o) (filter_map entry es)))
      by None rest = rest
      by (Some y) rest = (ids_all (λ k. nat_cmp e.0 k ≡ Less) es h.0, rest)

  pub shown_at : (id : ℕ) (es : List (ℕ × X)) → IsStrictlySortedBy nat_cmp (keys_of es)
      → lookup (is_at (nat_cmp id)) (filter_map entry es) ≡ option_and_then shows (lookup (is_at (nat_cmp id)) es)
  unfolding IsStrictlySortedBy
  shown_at id [] h = refl
  shown_at id (e ∷ es) h = by (is_at (nat_cmp id) e.0) refl (shows e.1) refl (shown_at id es h.1)
    where
      by : (b : Bool) → is_at (nat_cmp id) e.0 ≡ b → (o : Option Y) → shows e.1 ≡ o
          → lookup (is_at (nat_cmp id)) (filter_map entry es) ≡ option_and_then shows (lookup (is_at (nat_cmp id)) es)
          → lookup (is_at (nat_cmp id)) (cons_option (option_map (λ y. (e.0, y)) o) (filter_map entry es))
          ≡ option_and_then shows (cond b (Some e.1) (lookup (is_at (nat_cmp id)) es))
      by true at (Some y) is rest = ap (λ b. cond b (Some y) (lookup (is_at (nat_cmp id)) (filter_map entry es))) at ∙ sym is
      by true at None is rest =
          none_higher id (filter_map entry es)
          (subst (λ k. AllByRecursion (λ y. nat_cmp k y ≡ Less) (keys_of (filter_map entry es))) (sym (same_id id e.0 at)) (ids_all (λ k. nat_cmp e.0 k ≡ Less) es h.0))
          ∙ sym is
      by false at (Some y) is rest = ap (λ b. cond b (Some y) (lookup (is_at (nat_cmp id)) (filter_map entry es))) at ∙ rest
      by false at None is rest = rest
