-- How many jobs are stopped, where one place changes.
use Rattle.std.proofs.Common.{◌≡◌, refl, sym, ap, ◌∙◌, arith, ℕ, zero, suc, ◌+◌, ◌<◌, ◌≤◌, Option, Some, None, is_some, List, [], ◌∷◌, ◌++◌, length, get_or, set, if◌then◌else◌, option_map, get_or-set_same, length-set}
use Rattle.std.proofs.lemmas.List.{get_or_read}
use Rattle.std.specs.List.{cons_option}
use Rattle.croner_scheduler.specs.declared.waiting.Stop.{Stop}
use Rattle.croner_scheduler.specs.declared.waiting.Waiting.{Waiting}
use Rattle.croner_scheduler.specs.Kept.{stop_of}
use Rattle.croner_scheduler.proofs.Places.{no_more}
use Rattle.croner_scheduler.specs.Private.Places.{entries_in, ArePlaces}
use Rattle.croner_scheduler.specs.Private.Steps.{stop_len, job_standing_at}
use Rattle.croner_scheduler.specs.Stops.{stops_in}

module _ {J T : Type 0} where
  first_stop : (x : ℕ) (w : Waiting J T) (es : List (ℕ × Waiting J T)) → length (stops_in ((x, w) ∷ es)) ≡ stop_len (Some w) + length (stops_in es)
  first_stop x w es = by (stop_of w.next)
    where
      by : (o : Option Stop) → length (cons_option (option_map (λ stop. (x, stop)) o) (stops_in es)) ≡ (if is_some o then 1 else 0) + length (stops_in es)
      by None = omega arith
      by (Some stop) = omega arith

  first_place : (x : ℕ) (o : Option (Waiting J T)) (ids : List ℕ) (places : List (Option (Waiting J T)))
      → length (stops_in (entries_in (x ∷ ids) (o ∷ places))) ≡ stop_len o + length (stops_in (entries_in ids places))
  first_place x None ids places = omega arith
  first_place x (Some w) ids places = first_stop x w (entries_in ids places)

  -- of one job at most one is
  pub one_stop : (o : Option (Waiting J T)) → stop_len o ≤ 1
  one_stop None = omega arith
  one_stop (Some w) = by (stop_of w.next)
    where
      by : (o : Option Stop) → (if is_some o then 1 else 0) ≤ 1
      by None = omega arith
      by (Some stop) = omega arith

  -- what stands at a place is changed
  stops_set : (ids : List ℕ) (places : List (Option (Waiting J T))) (place : ℕ) (o : Option (Waiting J T)) → length ids ≡ length places → place < length ids
      → length (stops_in (entries_in ids (set places place o))) + stop_len (get_or places place None) ≡ length (stops_in (entries_in ids places)) + stop_len o
  stops_set [] places place o beside lt = absurd (omega (arith, lt))
  stops_set (x ∷ ids) [] place o beside lt = absurd (omega (arith, beside))
  stops_set (x ∷ ids) (p ∷ places) zero o beside lt =
      let old = first_place x p ids places in
      let new = first_place x o ids places in
      omega (arith, old, new)
  stops_set (x ∷ ids) (p ∷ places) (suc place) o beside lt =
      let old = first_place x p ids places in
      let new = first_place x p ids (set places place o) in
      let more = stops_set ids places place o (omega (arith, beside)) (omega (arith, lt)) in
      omega (arith, old, new, more)

  -- no more are stopped than there are
  few_stops : (es : List (ℕ × Waiting J T)) → length (stops_in es) ≤ length es
  few_stops [] = omega arith
  few_stops ((x, w) ∷ es) = let first = first_stop x w es in let rest = few_stops es in let one = one_stop (Some w) in omega (arith, first, rest, one)

  module _ (ids : List ℕ) (places : List (Option (Waiting J T))) (count next_id : ℕ) (are : ArePlaces ids places count next_id) (stopped : ℕ)
      (is : stopped ≡ length (stops_in (entries_in ids places))) where
    pub stopped_few : stopped ≤ length places
    stopped_few =
        let few = few_stops (entries_in ids places) in
        let le = no_more ids places in
        omega (arith, few, le, is, are.beside)

    module _ (place id : ℕ) (found : (place < length ids) × (get_or ids place 0 ≡ id)) (o : Option (Waiting J T)) (there : o ≡ get_or places place o) where
      lt : place < length places
      lt = omega (arith, found.0, are.beside)

      -- what stands at a place is changed
      pub counted_set : (p : Option (Waiting J T)) → length (stops_in (entries_in ids (set places place p))) + stop_len o ≡ stopped + stop_len p
      counted_set p =
          let many = stops_set ids places place p are.beside found.0 in
          let before = ap stop_len (get_or_read places place o lt there None) in
          omega (arith, many, before, is)

      -- and read again
      pub counted_after : (p o' : Option (Waiting J T)) → o' ≡ get_or (set places place p) place o'
          → length (stops_in (entries_in ids (set places place p))) + stop_len o ≡ stopped + stop_len o'
      counted_after p o' there' =
          let long = length-set places place p in
          let in_row = lt in
          let same : o' ≡ p = get_or_read (set places place p) place o' (omega (arith, in_row, long)) there' None ∙ get_or-set_same places place p None lt in
          counted_set p ∙ ap (λ q. stopped + stop_len q) (sym same)

  -- another job stands behind
  pub stops_behind : (es : List (ℕ × Waiting J T)) (x : ℕ) (w : Waiting J T) → length (stops_in (es ++ (x, w) ∷ [])) ≡ length (stops_in es) + stop_len (Some w)
  stops_behind [] x w = let first = first_stop x w [] in omega (arith, first)
  stops_behind ((y, v) ∷ es) x w =
      let old = first_stop y v es in
      let new = first_stop y v (es ++ (x, w) ∷ []) in
      let more = stops_behind es x w in
      omega (arith, old, new, more)

  -- a job at another position, with the same next, is stopped as before
  pub stops_still : (position : T) (o : Option (Waiting J T)) → stop_len (option_map (job_standing_at position) o) ≡ stop_len o
  stops_still position None = refl
  stops_still position (Some w) = refl
