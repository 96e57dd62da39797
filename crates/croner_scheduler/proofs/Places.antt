-- Jobs in places: whose job stands where, and what changes with one place.
use Rattle.std.proofs.Common.{◌≡◌, refl, sym, ap, ◌∙◌, subst, arith, ℕ, zero, suc, ◌+◌, ◌<◌, ◌≤◌, Bool, true, false, cond, Option, Some, None, is_some, List, [], ◌∷◌, ◌++◌, length, get_or, set, inl, inr, eq-or-lt_of_le, ◌⊎◌, Err, IfSome, IfNone, Bor, if◌then◌else◌, option_map, nat_cmp, Ordering, Less, Equal, Greater, is_eq, is_lt, get_or-set_same, length-set}
use Rattle.std.proofs.lemmas.Bool.{false≢true}
use Rattle.std.proofs.lemmas.Cmp.{ranked}
use Rattle.std.proofs.lemmas.List.{get_or_read}
use Rattle.std.proofs.lemmas.List.Sorted.{searched}
use Rattle.std.specs.BTreeMap.{is_at}
use Rattle.std.specs.List.{AllByRecursion}
use Rattle.std.specs.List.Sorted.{IsStrictlySortedBy, IsBinarySearchResult}
use Rattle.std.specs.Map.{keys_of, lookup}
use Rattle.std.specs.Option.{option_copied}
use Rattle.std.specs.Ordering.{MatchOrdering}
use Rattle.std.specs.Slice.{IsItemAt}
use Rattle.croner_scheduler.proofs.SameIds.{own_id, other_id, each}
use Rattle.croner_scheduler.specs.Private.Places.{entries_in, ArePlaces}

-- ---- ids that rise

less : (x y : ℕ) → nat_cmp x y ≡ Less → x < y
less x y e = by (nat_cmp x y) (ranked x y _ refl) (ap is_lt e)
  where
    by : (r : Ordering) → MatchOrdering r (x < y) (x ≡ y) (y < x) → is_lt r ≡ true → x < y
    by Less lt e = lt
    by Equal same e = absurd (false≢true e)
    by Greater gt e = absurd (false≢true e)

above : (x y : ℕ) → x < y → nat_cmp x y ≡ Less
above x y lt = by (nat_cmp x y) (ranked x y _ refl)
  where
    by : (r : Ordering) → MatchOrdering r (x < y) (x ≡ y) (y < x) → r ≡ Less
    by Less lt' = refl
    by Equal same = absurd (omega (arith, lt, same))
    by Greater gt = absurd (omega (arith, lt, gt))

pub all_by : {X : Type 0} (P Q : X → Type 0) → ((x : X) → P x → Q x) → (xs : List X) → AllByRecursion P xs → AllByRecursion Q xs
all_by P Q f [] h = tt
all_by P Q f (x ∷ xs) h = (f x h.0, all_by P Q f xs h.1)

pub all_at : (P : ℕ → Type 0) (ids : List ℕ) (place : ℕ) → AllByRecursion P ids → place < length ids → P (get_or ids place 0)
all_at P [] place h lt = absurd (omega (arith, lt))
all_at P (id ∷ ids) zero h lt = h.0
all_at P (id ∷ ids) (suc place) h lt = all_at P ids place h.1 (omega (arith, lt))

all_push : (P : ℕ → Type 0) (ids : List ℕ) (id : ℕ) → AllByRecursion P ids → P id → AllByRecursion P (ids ++ id ∷ [])
all_push P [] id h last = (last, tt)
all_push P (x ∷ ids) id h last = (h.0, all_push P ids id h.1 last)

-- the next id goes behind all others
pub below_next : (ids : List ℕ) (n : ℕ) → AllByRecursion (λ id. id < n) ids → AllByRecursion (λ id. id < n + 1) (ids ++ n ∷ [])
below_next ids n below = all_push (λ id. id < n + 1) ids n (all_by (λ id. id < n) (λ id. id < n + 1) (λ id lt. omega (arith, lt)) ids below) (omega arith)

pub rise_to_next : (ids : List ℕ) (n : ℕ) → IsStrictlySortedBy nat_cmp ids → AllByRecursion (λ id. id < n) ids → IsStrictlySortedBy nat_cmp (ids ++ n ∷ [])
unfolding IsStrictlySortedBy
rise_to_next [] n ordered below = (tt, tt)
rise_to_next (id ∷ ids) n ordered below =
    (all_push (λ other. nat_cmp id other ≡ Less) ids n ordered.0 (above id n below.0), rise_to_next ids n ordered.1 below.1)

pub none_from : (ids : List ℕ) (n k : ℕ) → AllByRecursion (λ id. id < n) ids → n ≤ k → AllByRecursion (λ id. is_at (nat_cmp k) id ≡ false) ids
none_from ids n k below le =
    all_by (λ id. id < n) (λ id. is_at (nat_cmp k) id ≡ false) (λ id lt. other_id k id (λ same. omega (arith, lt, le, same))) ids below

others_above : (id : ℕ) (ids : List ℕ) → AllByRecursion (λ other. nat_cmp id other ≡ Less) ids → AllByRecursion (λ other. is_at (nat_cmp id) other ≡ false) ids
others_above id = all_by (λ other. nat_cmp id other ≡ Less) (λ other. is_at (nat_cmp id) other ≡ false) (λ other e. ap is_eq e)

apart_back : (x y : ℕ) → is_at (nat_cmp x) y ≡ false → is_at (nat_cmp y) x ≡ false
apart_back x y apart = other_id y x (λ same. false≢true (sym apart ∙ subst (λ z. is_at (nat_cmp x) z ≡ true) same (own_id x)))

-- ---- the jobs

module _ {W : Type 0} where
  pub no_job : (id : ℕ) (ids : List ℕ) (places : List (Option W)) → AllByRecursion (λ other. is_at (nat_cmp id) other ≡ false) ids
      → lookup (is_at (nat_cmp id)) (entries_in ids places) ≡ None
  no_job id [] places none = refl
  no_job id (x ∷ ids) [] none = refl
  no_job id (x ∷ ids) (Some w ∷ places) none = ap (λ b. cond b (Some w) (lookup (is_at (nat_cmp id)) (entries_in ids places))) none.0 ∙ no_job id ids places none.1
  no_job id (x ∷ ids) (None ∷ places) none = no_job id ids places none.1

  -- the job of an id is that of its place
  pub job_at : (ids : List ℕ) (places : List (Option W)) (place id : ℕ) → IsStrictlySortedBy nat_cmp ids → length ids ≡ length places → place < length ids
      → get_or ids place 0 ≡ id → lookup (is_at (nat_cmp id)) (entries_in ids places) ≡ get_or places place None
  unfolding IsStrictlySortedBy
  job_at [] places place id ordered beside lt at = absurd (omega (arith, lt))
  job_at (x ∷ ids) [] place id ordered beside lt at = absurd (omega (arith, beside))
  job_at (x ∷ ids) (Some w ∷ places) zero id ordered beside lt at =
      ap (λ b. cond b (Some w) (lookup (is_at (nat_cmp id)) (entries_in ids places))) (subst (λ y. is_at (nat_cmp y) x ≡ true) at (own_id x))
  job_at (x ∷ ids) (None ∷ places) zero id ordered beside lt at =
      no_job id ids places (subst (λ y. AllByRecursion (λ other. is_at (nat_cmp y) other ≡ false) ids) at (others_above x ids ordered.0))
  job_at (x ∷ ids) (Some w ∷ places) (suc place) id ordered beside lt at =
      let higher = less x id (subst (λ y. nat_cmp x y ≡ Less) at (all_at (λ other. nat_cmp x other ≡ Less) ids place ordered.0 (omega (arith, lt)))) in
      ap (λ b. cond b (Some w) (lookup (is_at (nat_cmp id)) (entries_in ids places))) (other_id id x (λ same. omega (arith, higher, same)))
      ∙ job_at ids places place id ordered.1 (omega (arith, beside)) (omega (arith, lt)) at
  job_at (x ∷ ids) (None ∷ places) (suc place) id ordered beside lt at =
      job_at ids places place id ordered.1 (omega (arith, beside)) (omega (arith, lt)) at

  -- one place tells nothing of another id
  passed : (k x : ℕ) (ids : List ℕ) (o : Option W) (places : List (Option W)) → is_at (nat_cmp k) x ≡ false
      → lookup (is_at (nat_cmp k)) (entries_in (x ∷ ids) (o ∷ places)) ≡ lookup (is_at (nat_cmp k)) (entries_in ids places)
  passed k x ids (Some w) places apart = ap (λ b. cond b (Some w) (lookup (is_at (nat_cmp k)) (entries_in ids places))) apart
  passed k x ids None places apart = refl

  others_stay : (ids : List ℕ) (places : List (Option W)) (place k : ℕ) (o : Option W) → is_at (nat_cmp k) (get_or ids place 0) ≡ false
      → lookup (is_at (nat_cmp k)) (entries_in ids (set places place o)) ≡ lookup (is_at (nat_cmp k)) (entries_in ids places)
  others_stay [] places place k o apart = refl
  others_stay (x ∷ ids) [] place k o apart = refl
  others_stay (x ∷ ids) (p ∷ places) zero k o apart = passed k x ids o places apart ∙ sym (passed k x ids p places apart)
  others_stay (x ∷ ids) (Some w ∷ places) (suc place) k o apart = ap (cond (is_at (nat_cmp k) x) (Some w)) (others_stay ids places place k o apart)
  others_stay (x ∷ ids) (None ∷ places) (suc place) k o apart = others_stay ids places place k o apart

  -- what changes with a place
  pub place_set : (ids : List ℕ) (places : List (Option W)) (place id : ℕ) (o : Option W) → IsStrictlySortedBy nat_cmp ids → length ids ≡ length places → place < length ids
      → get_or ids place 0 ≡ id → (k : ℕ)
      → lookup (is_at (nat_cmp k)) (entries_in ids (set places place o)) ≡ cond (is_at (nat_cmp id) k) o (lookup (is_at (nat_cmp k)) (entries_in ids places))
  place_set ids places place id o ordered beside lt at = each id
      (λ k. lookup (is_at (nat_cmp k)) (entries_in ids (set places place o)) ≡ cond (is_at (nat_cmp id) k) o (lookup (is_at (nat_cmp k)) (entries_in ids places)))
      (job_at ids (set places place o) place id ordered (beside ∙ sym (length-set places place o)) lt at
      ∙ get_or-set_same places place o None (omega (arith, lt, beside))
      ∙ sym (ap (λ b. cond b o (lookup (is_at (nat_cmp id)) (entries_in ids places))) (own_id id)))
      (λ k apart. others_stay ids places place k o (subst (λ x. is_at (nat_cmp k) x ≡ false) (sym at) (apart_back id k apart))
      ∙ sym (ap (λ b. cond b o (lookup (is_at (nat_cmp k)) (entries_in ids places))) apart))

  -- how many there are
  pub as_many : (ids : List ℕ) (places : List (Option W)) (place : ℕ) (o : Option W) → is_some o ≡ is_some (get_or places place None)
      → length (entries_in ids (set places place o)) ≡ length (entries_in ids places)
  as_many [] places place o same = refl
  as_many (x ∷ ids) [] place o same = refl
  as_many (x ∷ ids) (Some w ∷ places) zero (Some v) same = refl
  as_many (x ∷ ids) (Some w ∷ places) zero None same = absurd (false≢true same)
  as_many (x ∷ ids) (None ∷ places) zero (Some v) same = absurd (false≢true (sym same))
  as_many (x ∷ ids) (None ∷ places) zero None same = refl
  as_many (x ∷ ids) (Some w ∷ places) (suc place) o same = ap suc (as_many ids places place o same)
  as_many (x ∷ ids) (None ∷ places) (suc place) o same = as_many ids places place o same

  pub one_fewer : (ids : List ℕ) (places : List (Option W)) (place : ℕ) → length ids ≡ length places → place < length ids → is_some (get_or places place None) ≡ true
      → length (entries_in ids (set places place None)) + 1 ≡ length (entries_in ids places)
  one_fewer [] places place beside lt some = absurd (omega (arith, lt))
  one_fewer (x ∷ ids) [] place beside lt some = absurd (omega (arith, beside))
  one_fewer (x ∷ ids) (Some w ∷ places) zero beside lt some = omega arith
  one_fewer (x ∷ ids) (None ∷ places) zero beside lt some = absurd (false≢true some)
  one_fewer (x ∷ ids) (Some w ∷ places) (suc place) beside lt some =
      let fewer = one_fewer ids places place (omega (arith, beside)) (omega (arith, lt)) some in omega (arith, fewer)
  one_fewer (x ∷ ids) (None ∷ places) (suc place) beside lt some = one_fewer ids places place (omega (arith, beside)) (omega (arith, lt)) some

  pub no_more : (ids : List ℕ) (places : List (Option W)) → length (entries_in ids places) ≤ length ids
  no_more [] places = omega arith
  no_more (x ∷ ids) [] = omega arith
  no_more (x ∷ ids) (Some w ∷ places) = let le = no_more ids places in omega (arith, le)
  no_more (x ∷ ids) (None ∷ places) = let le = no_more ids places in omega (arith, le)

  -- places behind others
  pub entries_behind : (ids : List ℕ) (places : List (Option W)) (ids' : List ℕ) (places' : List (Option W)) → length ids ≡ length places
      → entries_in (ids ++ ids') (places ++ places') ≡ entries_in ids places ++ entries_in ids' places'
  entries_behind [] [] ids' places' beside = refl
  entries_behind [] (p ∷ places) ids' places' beside = absurd (omega (arith, beside))
  entries_behind (x ∷ ids) [] ids' places' beside = absurd (omega (arith, beside))
  entries_behind (x ∷ ids) (Some w ∷ places) ids' places' beside = ap (λ es. (x, w) ∷ es) (entries_behind ids places ids' places' (omega (arith, beside)))
  entries_behind (x ∷ ids) (None ∷ places) ids' places' beside = entries_behind ids places ids' places' (omega (arith, beside))

  -- a job behind others, none of which has its id
  last_one : (es : List (ℕ × W)) (id : ℕ) (w : W) → lookup (is_at (nat_cmp id)) es ≡ None → lookup (is_at (nat_cmp id)) (es ++ (id, w) ∷ []) ≡ Some w
  last_one [] id w none = ap (λ b. cond b (Some w) None) (own_id id)
  last_one (e ∷ es) id w none = by (is_at (nat_cmp id) e.0) none (last_one es id w)
    where
      by : (b : Bool) → cond b (Some e.1) (lookup (is_at (nat_cmp id)) es) ≡ None
          → (lookup (is_at (nat_cmp id)) es ≡ None → lookup (is_at (nat_cmp id)) (es ++ (id, w) ∷ []) ≡ Some w)
          → cond b (Some e.1) (lookup (is_at (nat_cmp id)) (es ++ (id, w) ∷ [])) ≡ Some w
      by true none more = absurd (false≢true (sym (ap is_some none)))
      by false none more = more none

  before_last : (es : List (ℕ × W)) (id : ℕ) (w : W) (k : ℕ) → is_at (nat_cmp k) id ≡ false
      → lookup (is_at (nat_cmp k)) (es ++ (id, w) ∷ []) ≡ lookup (is_at (nat_cmp k)) es
  before_last [] id w k apart = ap (λ b. cond b (Some w) None) apart
  before_last (e ∷ es) id w k apart = ap (cond (is_at (nat_cmp k) e.0) (Some e.1)) (before_last es id w k apart)

  pub job_behind : (es : List (ℕ × W)) (id : ℕ) (w : W) → lookup (is_at (nat_cmp id)) es ≡ None → (k : ℕ)
      → lookup (is_at (nat_cmp k)) (es ++ (id, w) ∷ []) ≡ cond (is_at (nat_cmp id) k) (Some w) (lookup (is_at (nat_cmp k)) es)
  job_behind es id w none = each id (λ k. lookup (is_at (nat_cmp k)) (es ++ (id, w) ∷ []) ≡ cond (is_at (nat_cmp id) k) (Some w) (lookup (is_at (nat_cmp k)) es))
      (last_one es id w none ∙ sym (ap (λ b. cond b (Some w) (lookup (is_at (nat_cmp id)) es)) (own_id id)))
      (λ k apart. before_last es id w k (apart_back id k apart) ∙ sym (ap (λ b. cond b (Some w) (lookup (is_at (nat_cmp k)) es)) apart))

  -- the ids of the jobs rise as those of the places do
  keys_all : (P : ℕ → Type 0) (ids : List ℕ) (places : List (Option W)) → AllByRecursion P ids → AllByRecursion P (keys_of (entries_in ids places))
  keys_all P [] places h = tt
  keys_all P (x ∷ ids) [] h = tt
  keys_all P (x ∷ ids) (Some w ∷ places) h = (h.0, keys_all P ids places h.1)
  keys_all P (x ∷ ids) (None ∷ places) h = keys_all P ids places h.1

  pub keys_rise : (ids : List ℕ) (places : List (Option W)) → IsStrictlySortedBy nat_cmp ids → IsStrictlySortedBy nat_cmp (keys_of (entries_in ids places))
  unfolding IsStrictlySortedBy
  keys_rise [] places ordered = tt
  keys_rise (x ∷ ids) [] ordered = tt
  keys_rise (x ∷ ids) (Some w ∷ places) ordered = (keys_all (λ other. nat_cmp x other ≡ Less) ids places ordered.0, keys_rise ids places ordered.1)
  keys_rise (x ∷ ids) (None ∷ places) ordered = keys_rise ids places ordered.1

  -- no places
  without_any : (n : ℕ) → ArePlaces {W = W} [] [] 0 n
  unfolding IsStrictlySortedBy
  without_any n = record { beside = refl; ordered = tt; below = tt; counted = refl }

  pub no_places : (ids : List ℕ) (places : List (Option W)) (n : ℕ) → ids ≡ [] → places ≡ [] → ArePlaces ids places 0 n
  no_places ids places n no_ids none = subst (λ i. ArePlaces i places 0 n) (sym no_ids) (subst (λ p. ArePlaces [] p 0 n) (sym none) (without_any n))

  pub ids_alone : (ids : List ℕ) → entries_in {W = W} ids [] ≡ []
  ids_alone [] = refl
  ids_alone (x ∷ ids) = refl

  -- a change of a job is no removal
  pub map_keeps : (change : W → W) (o o' : Option W) → o' ≡ option_map change o → is_some o' ≡ is_some o
  map_keeps change o o' is = ap is_some is ∙ by o
    where
      by : (o : Option W) → is_some (option_map change o) ≡ is_some o
      by None = refl
      by (Some w) = refl

  -- ---- places of an id

  module _ (ids : List ℕ) (places : List (Option W)) (count next_id : ℕ) (are : ArePlaces ids places count next_id) where
    -- an id without a place has no job
    module _ (id : ℕ) (none : IsStrictlySortedBy nat_cmp ids → AllByRecursion (λ other. is_at (nat_cmp id) other ≡ false) ids) where
      pub has_none : lookup (is_at (nat_cmp id)) (entries_in ids places) ≡ None
      has_none = no_job id ids places (none are.ordered)

      pub stays : (change : Option W → Option W) → change None ≡ None → (k : ℕ)
          → lookup (is_at (nat_cmp k)) (entries_in ids places) ≡ cond (is_at (nat_cmp id) k) (change (lookup (is_at (nat_cmp k)) (entries_in ids places))) (lookup (is_at (nat_cmp k)) (entries_in ids places))
      stays change of_none = each id
          (λ k. lookup (is_at (nat_cmp k)) (entries_in ids places) ≡ cond (is_at (nat_cmp id) k) (change (lookup (is_at (nat_cmp k)) (entries_in ids places))) (lookup (is_at (nat_cmp k)) (entries_in ids places)))
          (has_none ∙ sym (ap (λ b. cond b (change (lookup (is_at (nat_cmp id)) (entries_in ids places))) (lookup (is_at (nat_cmp id)) (entries_in ids places))) (own_id id) ∙ ap change has_none ∙ of_none))
          (λ k apart. sym (ap (λ b. cond b (change (lookup (is_at (nat_cmp k)) (entries_in ids places))) (lookup (is_at (nat_cmp k)) (entries_in ids places))) apart))

    -- what stands at the place of an id is changed
    module _ (place id : ℕ) (found : (place < length ids) × (get_or ids place 0 ≡ id)) (o : Option W) (there : o ≡ get_or places place o) where
      held : o ≡ get_or places place None
      held = get_or_read places place o (let lt = found.0 in omega (arith, lt, are.beside)) there None

      pub is_job : o ≡ lookup (is_at (nat_cmp id)) (entries_in ids places)
      is_job = held ∙ sym (job_at ids places place id are.ordered are.beside found.0 found.1)

      pub changes : (change : Option W → Option W) (o' : Option W) → o' ≡ change o → (k : ℕ)
          → lookup (is_at (nat_cmp k)) (entries_in ids (set places place o')) ≡ cond (is_at (nat_cmp id) k) (change (lookup (is_at (nat_cmp k)) (entries_in ids places))) (lookup (is_at (nat_cmp k)) (entries_in ids places))
      changes change o' is k = place_set ids places place id o' are.ordered are.beside found.0 found.1 k
          ∙ each id (λ k. cond (is_at (nat_cmp id) k) o' (lookup (is_at (nat_cmp k)) (entries_in ids places))
          ≡ cond (is_at (nat_cmp id) k) (change (lookup (is_at (nat_cmp k)) (entries_in ids places))) (lookup (is_at (nat_cmp k)) (entries_in ids places)))
          (ap (λ p. cond (is_at (nat_cmp id) id) p (lookup (is_at (nat_cmp id)) (entries_in ids places))) (is ∙ ap change is_job))
          (λ k apart. ap (λ b. cond b o' (lookup (is_at (nat_cmp k)) (entries_in ids places))) apart
          ∙ sym (ap (λ b. cond b (change (lookup (is_at (nat_cmp k)) (entries_in ids places))) (lookup (is_at (nat_cmp k)) (entries_in ids places))) apart))
          k

      -- another job, or the same, stands there
      module _ (o' : Option W) (same : is_some o' ≡ is_some o) where
        pub still_many : length (entries_in ids (set places place o')) ≡ length (entries_in ids places)
        still_many = as_many ids places place o' (same ∙ ap is_some held)

        pub still_places : ArePlaces ids (set places place o') count next_id
        still_places = record {
          beside = are.beside ∙ sym (length-set places place o');
          ordered = are.ordered;
          below = are.below;
          counted = are.counted ∙ sym still_many;
        }

      -- what stood there is taken out
      abbrev pub one_if : Option W → ℕ
      one_if o = if is_some o then 1 else 0

      pub taken : length (entries_in ids (set places place None)) + one_if o ≡ length (entries_in ids places)
      taken = by o refl
        where
          by : (p : Option W) → p ≡ o → length (entries_in ids (set places place None)) + one_if p ≡ length (entries_in ids places)
          by None e = let many = as_many ids places place None (ap is_some (e ∙ held)) in omega (arith, many)
          by (Some w) e = one_fewer ids places place are.beside found.0 (sym (ap is_some (e ∙ held)))

      pub fewer_places : (count' : ℕ) → count' + one_if o ≡ count → ArePlaces ids (set places place None) count' next_id
      fewer_places count' fewer = record {
        beside = are.beside ∙ sym (length-set places place None);
        ordered = are.ordered;
        below = are.below;
        counted = let left = taken in omega (arith, left, fewer, are.counted);
      }

-- ---- a search for an id

rises_at : (ids : List ℕ) (i j : ℕ) → IsStrictlySortedBy nat_cmp ids → i < j → j < length ids → get_or ids i 0 < get_or ids j 0
unfolding IsStrictlySortedBy
rises_at [] i j ordered lt in_row = absurd (omega (arith, in_row))
rises_at (x ∷ ids) i zero ordered lt in_row = absurd (omega (arith, lt))
rises_at (x ∷ ids) zero (suc j) ordered lt in_row = less x (get_or ids j 0) (all_at (λ other. nat_cmp x other ≡ Less) ids j ordered.0 (omega (arith, in_row)))
rises_at (x ∷ ids) (suc i) (suc j) ordered lt in_row = rises_at ids i j ordered.1 (omega (arith, lt)) (omega (arith, in_row))

never_falls : (ids : List ℕ) → IsStrictlySortedBy nat_cmp ids → (i j : ℕ) → i ≤ j → j < length ids → get_or ids i 0 ≤ get_or ids j 0
never_falls ids ordered i j le in_row = by (eq-or-lt_of_le le)
  where
    by : (i ≡ j) ⊎ (i < j) → get_or ids i 0 ≤ get_or ids j 0
    by (inl same) = subst (λ k. get_or ids i 0 ≤ get_or ids k 0) same (omega arith)
    by (inr lt) = let up = rises_at ids i j ordered lt in_row in omega (arith, up)

all_from : (P : ℕ → Type 0) (ids : List ℕ) → ((k : ℕ) → k < length ids → P (get_or ids k 0)) → AllByRecursion P ids
all_from P [] h = tt
all_from P (x ∷ ids) h = (h 0 (omega arith), all_from P ids (λ k lt. h (suc k) (omega (arith, lt))))

-- an id that isn't found has no place
pub not_found : (ids : List ℕ) (id place : ℕ) → IsBinarySearchResult (λ other. nat_cmp other id) ids (Err place) → IsStrictlySortedBy nat_cmp ids
    → AllByRecursion (λ other. is_at (nat_cmp id) other ≡ false) ids
not_found ids id place result ordered =
    let parts = searched ids id (Err place) result (never_falls ids ordered) in
    all_from (λ other. is_at (nat_cmp id) other ≡ false) ids (λ k lt. other_id id (get_or ids k 0) (apart parts k lt))
  where
    apart : (place ≤ length ids) × ((k : ℕ) → k < place → get_or ids k 0 < id) × ((k : ℕ) → place ≤ k → k < length ids → id < get_or ids k 0)
        → (k : ℕ) → k < length ids → get_or ids k 0 ≡ id → ⊥
    apart parts k lt same = by (nat_cmp k place) (ranked k place _ refl)
      where
        by : (r : Ordering) → MatchOrdering r (k < place) (k ≡ place) (place < k) → ⊥
        by Less before = let low = parts.1 k before in omega (arith, low, same)
        by Equal at = let high = parts.2 k (omega (arith, at)) lt in omega (arith, high, same)
        by Greater behind = let high = parts.2 k (omega (arith, behind)) lt in omega (arith, high, same)

-- between an id that isn't found and the one in its place there is none
pub none_up_to : (ids : List ℕ) (id place : ℕ) → IsBinarySearchResult (λ other. nat_cmp other id) ids (Err place) → IsStrictlySortedBy nat_cmp ids
    → (other : ℕ) → id ≤ other → (place < length ids → other < get_or ids place 0) → AllByRecursion (λ item. is_at (nat_cmp other) item ≡ false) ids
none_up_to ids id place result ordered other above below =
    let parts = searched ids id (Err place) result (never_falls ids ordered) in
    all_from (λ item. is_at (nat_cmp other) item ≡ false) ids (λ k lt. other_id other (get_or ids k 0) (apart parts k lt))
  where
    apart : (place ≤ length ids) × ((k : ℕ) → k < place → get_or ids k 0 < id) × ((k : ℕ) → place ≤ k → k < length ids → id < get_or ids k 0)
        → (k : ℕ) → k < length ids → get_or ids k 0 ≡ other → ⊥
    apart parts k lt same = by (nat_cmp k place) (ranked k place _ refl)
      where
        by : (r : Ordering) → MatchOrdering r (k < place) (k ≡ place) (place < k) → ⊥
        by Less before = let low = parts.1 k before in omega (arith, low, same, above)
        by Equal at = let high = below (omega (arith, at, lt)) in let rise = never_falls ids ordered place k (omega (arith, at)) lt in omega (arith, high, rise, same)
        by Greater behind =
            let high = below (omega (arith, behind, lt)) in
            let rise = never_falls ids ordered place k (omega (arith, behind)) lt in
            omega (arith, high, rise, same)

-- the one in its place, if there is one, isn't below it
module _ (ids : List ℕ) (id place : ℕ) (result : IsBinarySearchResult (λ other. nat_cmp other id) ids (Err place)) where
  abbrev IsLowestFrom : Option ℕ → Type 0
  IsLowestFrom o =
      IfSome o (λ k. IsStrictlySortedBy nat_cmp ids → id ≤ k)
      × IfSome o (λ k. IsStrictlySortedBy nat_cmp ids → (other : ℕ) → id ≤ other → other < k → AllByRecursion (λ item. is_at (nat_cmp other) item ≡ false) ids)
      × IfNone o (IsStrictlySortedBy nat_cmp ids → (other : ℕ) → id ≤ other → AllByRecursion (λ item. is_at (nat_cmp other) item ≡ false) ids)

  pub lowest_from : (item : Option (Bor ℕ)) → IsItemAt ids place item → (o : Option ℕ) → o ≡ option_copied item → IsLowestFrom o
  lowest_from None is o copied = subst IsLowestFrom (sym copied) (tt, tt, λ ordered other above. none_up_to ids id place result ordered other above (λ lt. absurd (omega (arith, lt, is.3))))
  lowest_from (Some x) is o copied = subst IsLowestFrom (sym copied) (
    (λ ordered. let parts = searched ids id (Err place) result (never_falls ids ordered) in let up = parts.2 place (omega arith) is.3.0 in omega (arith, up, same)),
    (λ ordered other above below. none_up_to ids id place result ordered other above (λ lt. omega (arith, below, same))),
    tt,
  )
    where
      same : x.now ≡ get_or ids place 0
      same = get_or_read ids place x.now is.3.0 is.1 0

-- an id without a place up to another has no job
module _ {W : Type 0} (ids : List ℕ) (places : List (Option W)) (ordered : IsStrictlySortedBy nat_cmp ids) (id : ℕ) where
  pub no_job_between : (o : Option ℕ)
      → IfSome o (λ k. IsStrictlySortedBy nat_cmp ids → (other : ℕ) → id ≤ other → other < k → AllByRecursion (λ item. is_at (nat_cmp other) item ≡ false) ids)
      → IfSome o (λ k. (other : ℕ) → id ≤ other → other < k → lookup (is_at (nat_cmp other)) (entries_in ids places) ≡ None)
  no_job_between None none = tt
  no_job_between (Some k) none = λ other above below. no_job other ids places (none ordered other above below)

  pub no_job_left : (o : Option ℕ)
      → IfNone o (IsStrictlySortedBy nat_cmp ids → (other : ℕ) → id ≤ other → AllByRecursion (λ item. is_at (nat_cmp other) item ≡ false) ids)
      → IfNone o ((other : ℕ) → id ≤ other → lookup (is_at (nat_cmp other)) (entries_in ids places) ≡ None)
  no_job_left None none = λ other above. no_job other ids places (none ordered other above)
  no_job_left (Some k) none = tt

-- what holds of ids in any order holds of those that rise
pub with_order_some : (o : Option ℕ) (ids : List ℕ) (id : ℕ) → IfSome o (λ k. (other : ℕ) → id ≤ other → other < k → AllByRecursion (λ item. is_at (nat_cmp other) item ≡ false) ids)
    → IfSome o (λ k. IsStrictlySortedBy nat_cmp ids → (other : ℕ) → id ≤ other → other < k → AllByRecursion (λ item. is_at (nat_cmp other) item ≡ false) ids)
with_order_some None ids id none = tt
with_order_some (Some k) ids id none = λ ordered. none

pub with_order_none : (o : Option ℕ) (ids : List ℕ) (id : ℕ) → IfNone o ((other : ℕ) → id ≤ other → AllByRecursion (λ item. is_at (nat_cmp other) item ≡ false) ids)
    → IfNone o (IsStrictlySortedBy nat_cmp ids → (other : ℕ) → id ≤ other → AllByRecursion (λ item. is_at (nat_cmp other) item ≡ false) ids)
with_order_none None ids id none = λ ordered. none
with_order_none (Some k) ids id none = tt
