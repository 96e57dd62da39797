-- What calls give of an id over replaces, and from the add of its job to its removal: lists of calls are cut where these stand.
use Rattle.std.proofs.Common.{◌≡◌, refl, sym, ap, ◌∙◌, arith, ◌≤◌, ℕ, ℤ, List, [], ◌∷◌, ◌++◌, None, Some}
use Rattle.std.proofs.lemmas.List.{append_assoc, append-nil}
use Rattle.croner_base.specs.Zone.{Zone}
use Rattle.croner_scheduler.proofs.History.{some_of, gives_in_turn, grow, stays_fresh, stays_gone}
use Rattle.croner_scheduler.specs.Calls.{StandsAt}
use Rattle.croner_scheduler.specs.History.{Call, Add, Replace, Remove, MakesInTurn, given, given_by}
use Rattle.croner_scheduler.specs.Lives.{Replacing, with_replaces, GivesAcross, GivesOfOneLife}
use Rattle.croner_scheduler.specs.Standing.{Held}

given_append : {J : Type 0} (k : ℕ) (before rest : List (Call J)) → given k (before ++ rest) ≡ given k before ++ given k rest
given_append k [] rest = refl
given_append k (call ∷ calls) rest =
    ap (λ items. given_by k call ++ items) (given_append k calls rest) ∙ sym (append_assoc (given_by k call) (given k calls) (given k rest))

module _ {J : Type 0} (runs : J → Zone → ℤ → Type 0) where
  -- what is held where a list of calls is cut
  cut : (before rest : List (Call J)) (h h' : Held J) → MakesInTurn runs (before ++ rest) h h'
      → (between : Held J) × MakesInTurn runs before h between × MakesInTurn runs rest between h'
  cut [] rest h h' makes = (h, record { jobs = λ id. refl; count = refl; next_id = refl }, makes)
  cut (call ∷ calls) rest h h' makes =
      let more = cut calls rest makes.0 h' makes.2 in
      (more.0, (makes.0, makes.1, more.1), more.2)

  pub gives_across : (h : Held J) → GivesAcross runs h
  gives_across h calls [] k h' makes s there stay = let life = gives_in_turn runs h calls h' makes k s there stay in (life.0, life.2, life.1, refl)
  gives_across h calls (next ∷ more) k h' makes s there stay =
      let at = cut calls (Replace k next.job next.position ∷ with_replaces k next.calls more) h h' makes in
      let first = gives_in_turn runs h calls at.0 at.1 k s there stay.0 in
      let start = some_of (StandsAt next.job next.position.zone next.position.instant) (at.2.0.jobs k) at.2.1.1.put in
      let rest = gives_across at.2.0 next.calls more k h' at.2.2 start.0 start.1 stay.1 in (
        rest.0,
        (first.0, start.0, first.2, start.2, rest.1),
        rest.2,
        given_append k calls (Replace k next.job next.position ∷ with_replaces k next.calls more) ∙ ap (λ items. given k calls ++ items) rest.3,
      )

  pub gives_of_one_life : (h : Held J) → ((id : ℕ) → h.next_id ≤ id → h.jobs id ≡ None) → GivesOfOneLife runs h
  gives_of_one_life h fresh before during after k job position h' makes stay =
      let first = cut before (Add job position k ∷ during ++ Remove k ∷ after) h h' makes in
      let added = first.2.1 in
      let rest = cut during (Remove k ∷ after) first.2.0 h' first.2.2 in
      let removed = rest.2.1 in
      let start = some_of (StandsAt job position.zone position.instant) (first.2.0.jobs k) added.added in
      let start_there : first.2.0.jobs k ≡ Some start.0 = start.1 in
      let life = gives_in_turn runs first.2.0 during rest.0 rest.1 k start.0 start_there stay in
      let on = grow runs before h first.0 first.1 in
      let further = grow runs during first.2.0 rest.0 rest.1 in
      let none_before = stays_fresh runs before h first.0 first.1 k (omega (arith, added.id_is)) (fresh k (omega (arith, added.id_is, on))) in
      let none_after = stays_gone runs rest.2.0 after h' rest.2.2 k
      (omega (arith, added.id_is, added.next_id, further, removed.next_id)) removed.gone in (
        start.0,
        life.0,
        start.2,
        life.2,
        given_append k before (Add job position k ∷ during ++ Remove k ∷ after)
            ∙ ap (λ items. items ++ given k (during ++ Remove k ∷ after)) none_before.0
            ∙ given_append k during (Remove k ∷ after) ∙ ap (λ items. given k during ++ items) none_after.0 ∙ append-nil (given k during),
        none_after.1,
      )
