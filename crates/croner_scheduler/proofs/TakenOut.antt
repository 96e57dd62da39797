-- Empty places are taken out one by one: the jobs before a place are put in front, those from it on still stand.
use Rattle.std.proofs.Common.{◌≡◌, cond, refl, sym, ap, ap₂, ◌∙◌, subst, arith, ℕ, ◌+◌, ◌<◌, ◌≤◌, Option, Some, None, List, [], ◌∷◌, ◌++◌, length, get_or, set, inl, inr, ◌⊎◌, eq-or-lt_of_le, is_some, length-append, take, drop, nat_cmp, length-set, length-take-le, append_assoc, append-nil}
use Rattle.std.proofs.lemmas.List.{drop_more, take_more_set, take-set-le, drop-set-lt, drop_all}
use Rattle.std.proofs.lemmas.List.Edits.{swap_is}
use Rattle.std.specs.BTreeMap.{is_at}
use Rattle.std.specs.List.{AllByRecursion}
use Rattle.std.specs.Map.{lookup}
use Rattle.std.specs.List.Sorted.{IsStrictlySortedBy}
use Rattle.croner_scheduler.proofs.Places.{entries_behind, no_more, rise_to_next, below_next, job_behind, no_job, none_from}
use Rattle.croner_scheduler.specs.Private.Places.{entries_in, ArePlaces, AreInRow, PutsBy, PutsInFront}

all_without : {X : Type 0} (P : X → Type 0) (xs : List X) (y : X) (ys : List X) → AllByRecursion P (xs ++ y ∷ ys) → AllByRecursion P (xs ++ ys)
all_without P [] y ys h = h.1
all_without P (x ∷ xs) y ys h = (h.0, all_without P xs y ys h.1)

rise_without : (xs : List ℕ) (y : ℕ) (ys : List ℕ) → IsStrictlySortedBy nat_cmp (xs ++ y ∷ ys) → IsStrictlySortedBy nat_cmp (xs ++ ys)
unfolding IsStrictlySortedBy
rise_without [] y ys h = h.1
rise_without (x ∷ xs) y ys h = (all_without (λ other. nat_cmp x other ≡ _) xs y ys h.0, rise_without xs y ys h.1)

module _ {W : Type 0} (ids₀ : List ℕ) (places₀ : List (Option W)) where
  -- the jobs before a place stand in the first places, and those from it on in theirs
  pub record Moves (kept place : ℕ) (ids : List ℕ) (places : List (Option W)) : Type 0 where
    pub front : kept ≤ place
    pub beside : length ids ≡ length places
    pub many : length places ≡ length places₀
    pub full : length (entries_in (take kept ids) (take kept places)) ≡ kept
    pub entries : entries_in (take kept ids) (take kept places) ++ entries_in (drop place ids) (drop place places) ≡ entries_in ids₀ places₀
    pub ordered : IsStrictlySortedBy nat_cmp ids₀ → IsStrictlySortedBy nat_cmp (take kept ids ++ drop place ids)
    pub below : (n : ℕ) → AllByRecursion (λ id. id < n) ids₀ → AllByRecursion (λ id. id < n) (take kept ids ++ drop place ids)

  module _ (kept place : ℕ) (ids : List ℕ) (places : List (Option W)) (moves : Moves kept place ids places) (lt : place < length places) where
    id_lt : place < length ids
    id_lt = omega (arith, lt, moves.beside)

    abbrev pub id : ℕ
    id = get_or ids place 0

    ids_from : drop place ids ≡ id ∷ drop (place + 1) ids
    ids_from = drop_more ids place 0 id_lt

    -- an empty place is passed over
    pub passed_over : get_or places place None ≡ None → Moves kept (place + 1) ids places
    passed_over none = record {
      front = let le = moves.front in omega (arith, le);
      beside = moves.beside;
      many = moves.many;
      full = moves.full;
      entries =
          ap (λ es. entries_in (take kept ids) (take kept places) ++ es)
          (sym (ap₂ entries_in ids_from (drop_more places place None lt ∙ ap (λ p. p ∷ drop (place + 1) places) none)))
          ∙ moves.entries;
      ordered = λ o. rise_without (take kept ids) id (drop (place + 1) ids) (subst (λ r. IsStrictlySortedBy nat_cmp (take kept ids ++ r)) ids_from (moves.ordered o));
      below = λ n b. all_without (λ x. x < n) (take kept ids) id (drop (place + 1) ids) (subst (λ r. AllByRecursion (λ x. x < n) (take kept ids ++ r)) ids_from (moves.below n b));
    }

    -- and a job is put in front
    module _ (w : W) (there : get_or places place None ≡ Some w) where
      kept_lt : kept < length ids
      kept_lt = let le = moves.front in omega (arith, id_lt, le)

      place_lt : kept < length places
      place_lt = let le = moves.front in omega (arith, lt, le)

      abbrev pub ids' : List ℕ
      ids' = set ids kept id

      abbrev pub places' : List (Option W)
      places' = set (set places kept (get_or places place None)) place (get_or places kept None)

      front_ids : take (kept + 1) ids' ≡ take kept ids ++ id ∷ []
      front_ids = take_more_set ids kept id kept_lt

      front_by : (kept ≡ place) ⊎ (kept < place) → take (kept + 1) places' ≡ take kept places ++ get_or places place None ∷ []
      front_by (inl same) =
          subst (λ p. take (kept + 1) (set (set places kept (get_or places p None)) p (get_or places kept None)) ≡ take kept places ++ get_or places p None ∷ []) same
          (take_more_set (set places kept (get_or places kept None)) kept (get_or places kept None) (let many = length-set places kept (get_or places kept None) in omega (arith, place_lt, many))
          ∙ ap (λ ps. ps ++ get_or places kept None ∷ []) (take-set-le kept places kept (get_or places kept None) (omega arith)))
      front_by (inr before) =
          take-set-le (kept + 1) (set places kept (get_or places place None)) place (get_or places kept None) (omega (arith, before))
          ∙ take_more_set places kept (get_or places place None) place_lt

      front_places : take (kept + 1) places' ≡ take kept places ++ Some w ∷ []
      front_places = front_by (eq-or-lt_of_le moves.front) ∙ ap (λ p. take kept places ++ p ∷ []) there

      rest_ids : drop (place + 1) ids' ≡ drop (place + 1) ids
      rest_ids = drop-set-lt (place + 1) ids kept id (let le = moves.front in omega (arith, le))

      rest_places : drop (place + 1) places' ≡ drop (place + 1) places
      rest_places =
          drop-set-lt (place + 1) (set places kept (get_or places place None)) place (get_or places kept None) (omega arith)
          ∙ drop-set-lt (place + 1) places kept (get_or places place None) (let le = moves.front in omega (arith, le))

      row : take (kept + 1) ids' ++ drop (place + 1) ids' ≡ take kept ids ++ drop place ids
      row = ap₂ (λ a b. a ++ b) front_ids rest_ids ∙ append_assoc (take kept ids) (id ∷ []) (drop (place + 1) ids) ∙ ap (λ r. take kept ids ++ r) (sym ids_from)

      fronts : length (take kept ids) ≡ length (take kept places)
      fronts = length-take-le kept ids (omega (arith, kept_lt)) ∙ sym (length-take-le kept places (omega (arith, place_lt)))

      as_long : length places' ≡ length places
      as_long = length-set (set places kept (get_or places place None)) place (get_or places kept None) ∙ length-set places kept (get_or places place None)

      front_entries : entries_in (take (kept + 1) ids') (take (kept + 1) places') ≡ entries_in (take kept ids) (take kept places) ++ (id, w) ∷ []
      front_entries = ap₂ entries_in front_ids front_places ∙ entries_behind (take kept ids) (take kept places) (id ∷ []) (Some w ∷ []) fronts

      pub put_in_front : Moves (kept + 1) (place + 1) ids' places'
      put_in_front = record {
        front = let le = moves.front in omega (arith, le);
        beside = length-set ids kept id ∙ moves.beside ∙ sym as_long;
        many = as_long ∙ moves.many;
        full = ap length front_entries ∙ length-append (entries_in (take kept ids) (take kept places)) ((id, w) ∷ []) ∙ ap (λ n. n + 1) moves.full;
        entries =
            ap₂ (λ a b. a ++ b)
            front_entries
            (ap₂ entries_in rest_ids rest_places)
            ∙ append_assoc (entries_in (take kept ids) (take kept places)) ((id, w) ∷ []) (entries_in (drop (place + 1) ids) (drop (place + 1) places))
            ∙ ap (λ es. entries_in (take kept ids) (take kept places) ++ es)
            (sym (ap₂ entries_in ids_from (drop_more places place None lt ∙ ap (λ p. p ∷ drop (place + 1) places) there)))
            ∙ moves.entries;
        ordered = λ o. subst (λ r. IsStrictlySortedBy nat_cmp r) (sym row) (moves.ordered o);
        below = λ n b. subst (λ r. AllByRecursion (λ x. x < n) r) (sym row) (moves.below n b);
      }

    -- one place on
    pub one_on : (ids' : List ℕ) (places' : List (Option W)) (kept' : ℕ) → PutsInFront ids places kept place ids' places' kept' → Moves kept' (place + 1) ids' places'
    one_on ids' places' kept' puts = by (get_or places place None) refl puts
      where
        by : (o : Option W) → get_or places place None ≡ o → PutsBy ids places kept place ids' places' kept' (is_some o) → Moves kept' (place + 1) ids' places'
        by None there puts =
            subst (λ k. Moves k (place + 1) ids' places') (sym puts.0)
            (subst (λ i. Moves kept (place + 1) i places') (sym puts.1) (subst (λ p. Moves kept (place + 1) ids p) (sym puts.2) (passed_over there)))
        by (Some w) there puts =
            subst (λ k. Moves k (place + 1) ids' places') (sym puts.0)
            (subst (λ i. Moves (kept + 1) (place + 1) i places') (sym puts.1)
            (subst (λ p. Moves (kept + 1) (place + 1) (set ids kept id) p)
            (swap_is places kept place None (let le = moves.front in omega (arith, lt, le)) lt ∙ sym puts.2) (put_in_front w there)))

  -- where all places were passed, those in front are left
  pub all_moved : (kept place : ℕ) (ids : List ℕ) (places : List (Option W)) → Moves kept place ids places → place ≡ length places
      → AreInRow ids₀ places₀ (take kept ids) (take kept places)
  all_moved kept place ids places moves end =
      let le = moves.front in
      let no_ids : drop place ids ≡ [] = drop_all place ids (omega (arith, end, moves.beside)) in
      let no_places : drop place places ≡ [] = drop_all place places (omega (arith, end)) in
      record {
        beside = length-take-le kept ids (omega (arith, le, end, moves.beside)) ∙ sym (length-take-le kept places (omega (arith, le, end)));
        entries = sym (append-nil (entries_in (take kept ids) (take kept places))) ∙ ap (λ es. entries_in (take kept ids) (take kept places) ++ es) (sym (ap₂ entries_in no_ids no_places)) ∙ moves.entries;
        ordered = λ o. subst (λ r. IsStrictlySortedBy nat_cmp r) (ap (λ r. take kept ids ++ r) no_ids ∙ append-nil (take kept ids)) (moves.ordered o);
        below = λ n b. subst (λ r. AllByRecursion (λ x. x < n) r) (ap (λ r. take kept ids ++ r) no_ids ∙ append-nil (take kept ids)) (moves.below n b);
      }

  -- and no place is empty
  pub all_full : (kept place : ℕ) (ids : List ℕ) (places : List (Option W)) → Moves kept place ids places → place ≡ length places
      → length (take kept places) ≡ length (entries_in (take kept ids) (take kept places))
  all_full kept place ids places moves end = length-take-le kept places (let le = moves.front in omega (arith, le, end)) ∙ sym moves.full

module _ {W : Type 0} {ids ids' : List ℕ} {places places' : List (Option W)} (count next_id : ℕ) where
  pub places_of : ids' ≡ ids → places' ≡ places → ArePlaces ids places count next_id → ArePlaces ids' places' count next_id
  places_of same_ids same are = subst (λ i. ArePlaces i places' count next_id) (sym same_ids) (subst (λ p. ArePlaces ids p count next_id) (sym same) are)

module _ {W : Type 0} (ids : List ℕ) (places : List (Option W)) (ids' : List ℕ) (places' : List (Option W)) where
  pub same_row : length ids ≡ length places → ids' ≡ ids → places' ≡ places → AreInRow ids places ids' places'
  same_row beside same_ids same = subst (λ i. AreInRow ids places i places') (sym same_ids) (subst (λ p. AreInRow ids places ids p) (sym same) (record {
    beside = beside;
    entries = refl;
    ordered = λ o. o;
    below = λ n b. b;
  }))

  module _ (row : AreInRow ids places ids' places') where
    pub row_of : (ids'' : List ℕ) (places'' : List (Option W)) → ids'' ≡ ids' → places'' ≡ places' → AreInRow ids places ids'' places''
    row_of ids'' places'' same_ids same = subst (λ i. AreInRow ids places i places'') (sym same_ids) (subst (λ p. AreInRow ids places ids' p) (sym same) row)

    module _ (count next_id : ℕ) (are : ArePlaces ids places count next_id) where
      pub in_row : ArePlaces ids' places' count next_id
      in_row = record {
        beside = row.beside;
        ordered = row.ordered are.ordered;
        below = row.below next_id are.below;
        counted = are.counted ∙ sym (ap length row.entries);
      }

      -- another job goes behind
      pub few : count ≤ length ids'
      few = let le = no_more ids' places' in omega (arith, le, in_row.counted)

      module _ (w : W) where
        pub entries_with : entries_in (ids' ++ next_id ∷ []) (places' ++ Some w ∷ []) ≡ entries_in ids places ++ (next_id, w) ∷ []
        entries_with = entries_behind ids' places' (next_id ∷ []) (Some w ∷ []) row.beside ∙ ap (λ es. es ++ (next_id, w) ∷ []) row.entries

        pub job_with : (k : ℕ) → lookup (is_at (nat_cmp k)) (entries_in (ids' ++ next_id ∷ []) (places' ++ Some w ∷ []))
            ≡ cond (is_at (nat_cmp next_id) k) (Some w) (lookup (is_at (nat_cmp k)) (entries_in ids places))
        job_with k =
            ap (lookup (is_at (nat_cmp k))) entries_with
            ∙ job_behind (entries_in ids places) next_id w (no_job next_id ids places (none_from ids next_id next_id are.below (omega arith))) k

        pub one_more : length (entries_in (ids' ++ next_id ∷ []) (places' ++ Some w ∷ [])) ≡ length (entries_in ids places) + 1
        one_more = ap length entries_with ∙ length-append (entries_in ids places) ((next_id, w) ∷ [])

        pub with_one : ArePlaces (ids' ++ next_id ∷ []) (places' ++ Some w ∷ []) (count + 1) (next_id + 1)
        with_one = record {
          beside = let n = length-append ids' (next_id ∷ []) in let m = length-append places' (Some w ∷ []) in omega (arith, n, m, row.beside);
          ordered = rise_to_next ids' next_id in_row.ordered in_row.below;
          below = below_next ids' next_id in_row.below;
          counted = let n = one_more in omega (arith, n, are.counted);
        }
