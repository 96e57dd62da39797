-- What the turns of the jobs are after a change of the jobs and of the turns: each next run has its turn, and the first one is awaited.
use Rattle.std.proofs.Common.{◌≡◌, refl, sym, ap, ◌∙◌, subst, ℕ, ℤ, Bool, true, false, cond, ◌||◌, List, [], ◌∷◌, Option, Some, None, IfSome, IfNone, option_map, slice_index_or, nat_cmp}
use Rattle.std.proofs.lemmas.Bool.{false≢true}
use Rattle.std.specs.BTreeMap.{is_at}
use Rattle.std.specs.BinaryHeap.{IsHeap, PopsGreatest}
use Rattle.std.specs.List.Sorted.{IsPermutation}
use Rattle.std.specs.Map.{lookup}
use Rattle.std.specs.declared.cmp.Reverse.{Reverse}
use Rattle.croner_scheduler.proofs.TurnOrder.{same_turn, without_turn}
use Rattle.croner_scheduler.specs.declared.turns.Turn.{Turn}
use Rattle.croner_scheduler.specs.declared.waiting.Waiting.{Waiting}
use Rattle.croner_scheduler.specs.Private.Steps.{jobs_with, job_standing_at, is_awaited_at}
use Rattle.croner_scheduler.specs.Private.Turns.{heap_cmp, has_turn, is_turn, top_of, IsFirstTurn, is_awaited, AreListed, AreTurnsOf}

-- ---- the first turn

module _ {J T : Type 0} (jobs : ℕ → Option (Waiting J T)) (turns : List (Reverse (ℤ × ℕ))) (of : AreTurnsOf jobs turns) where
  -- it is that of the first of the next runs
  pub first_awaited : (first : Option Turn) → first ≡ top_of turns → IsFirstTurn (has_turn turns) first → IsFirstTurn (λ s k. is_awaited_at s (jobs k)) first
  first_awaited (Some due) top first = (subst (λ o. is_awaited jobs o ≡ true) (sym top) of.2, λ s k at. first.1 s k (of.1 s k at))
  first_awaited None top first = λ s k. by (is_awaited_at s (jobs k)) (of.1 s k) (first s k)
    where
      by : {has : Bool} (b : Bool) → (b ≡ true → has ≡ true) → has ≡ false → b ≡ false
      by true listed none = absurd (false≢true (sym none ∙ listed refl))
      by false listed none = refl

-- ---- a turn that no job awaits is taken away

module _ {J T : Type 0} (jobs : ℕ → Option (Waiting J T)) (turns turns' : List (Reverse (ℤ × ℕ))) (turn : Turn) (top : Some turn ≡ top_of turns)
    (stale : is_awaited_at turn.second (jobs turn.id) ≡ false) where
  stale_top : (x : Reverse (ℤ × ℕ)) → x ≡ slice_index_or turns 0 x → is_awaited_at x.0.0 (jobs x.0.1) ≡ false
  stale_top x is = by turns top is
    where
      by : (turns : List (Reverse (ℤ × ℕ))) → Some turn ≡ top_of turns → x ≡ slice_index_or turns 0 x → is_awaited_at x.0.0 (jobs x.0.1) ≡ false
      by [] top is = absurd (cc)
      by (t ∷ ts) top is = subst (λ o. is_awaited jobs o ≡ false) (top ∙ sym (ap (λ (x : Reverse (ℤ × ℕ)). Some (record { id = x.0.1; second = x.0.0 })) is)) stale

  popped_listed : (x : Reverse (ℤ × ℕ)) → x ≡ slice_index_or turns 0 x → IsPermutation turns (x ∷ turns') → AreListed jobs turns → AreListed jobs turns'
  popped_listed x is moved listed s k at = by (is_turn x.0.0 x.0.1 s k) refl (sym (without_turn x turns turns' moved s k) ∙ listed s k at)
    where
      by : (b : Bool) → is_turn x.0.0 x.0.1 s k ≡ b → cond b true (has_turn turns' s k) ≡ true → has_turn turns' s k ≡ true
      by true same has =
          let e = same_turn x.0.0 s x.0.1 k same in
          absurd (false≢true (sym (stale_top x is) ∙ ap (λ z. is_awaited_at z (jobs x.0.1)) e.0 ∙ ap (λ n. is_awaited_at s (jobs n)) e.1 ∙ at))
      by false same has = has

  pub still_listed : (n n' : ℕ) (popped : Option (Reverse (ℤ × ℕ))) → IfSome popped (λ x. x ≡ slice_index_or turns 0 x)
      → IfSome popped (λ x. IsPermutation turns (x ∷ turns')) → IfNone popped ((turns' ≡ turns) × (n' ≡ n)) → AreListed jobs turns → AreListed jobs turns'
  still_listed n n' (Some x) is moved same listed = popped_listed x is moved listed
  still_listed n n' None is moved same listed = subst (λ turns. AreListed jobs turns) (sym same.0) listed

-- what is left is a heap
pub still_heap : (turns turns' : List (Reverse (ℤ × ℕ))) (n n' : ℕ) (popped : Option (Reverse (ℤ × ℕ)))
    → IfSome popped (λ x. PopsGreatest heap_cmp turns x turns') → IfNone popped ((turns' ≡ turns) × (n' ≡ n)) → IsHeap heap_cmp turns → IsHeap heap_cmp turns'
still_heap turns turns' n n' (Some x) pops same heap = (pops heap).0
still_heap turns turns' n n' None pops same heap = subst (IsHeap heap_cmp) (sym same.0) heap

-- ---- a job changes

module _ {J T : Type 0} (jobs jobs' : ℕ → Option (Waiting J T)) (turns : List (Reverse (ℤ × ℕ))) (id : ℕ) where
  pub passed_turns : (position : T) → ((k : ℕ) → jobs' k ≡ jobs_with id (job_standing_at position) k (jobs k)) → AreTurnsOf jobs turns → AreTurnsOf jobs' turns
  passed_turns position stands of = (
    of.0,
    (λ s k at. of.1 s k (sym (still s k) ∙ at)),
    awaited (top_of turns) ∙ of.2,
  )
    where
      standing : (s : ℤ) (o : Option (Waiting J T)) → is_awaited_at s (option_map (job_standing_at position) o) ≡ is_awaited_at s o
      standing s None = refl
      standing s (Some w) = refl

      still : (s : ℤ) (k : ℕ) → is_awaited_at s (jobs' k) ≡ is_awaited_at s (jobs k)
      still s k = ap (is_awaited_at s) (stands k) ∙ by (is_at (nat_cmp id) k)
        where
          by : (b : Bool) → is_awaited_at s (cond b (option_map (job_standing_at position) (jobs k)) (jobs k)) ≡ is_awaited_at s (jobs k)
          by true = standing s (jobs k)
          by false = refl

      awaited : (o : Option Turn) → is_awaited jobs' o ≡ is_awaited jobs o
      awaited None = refl
      awaited (Some turn) = still turn.second turn.id

-- ---- all turns are put anew, one job after the other

module _ {J T : Type 0} (jobs : ℕ → Option (Waiting J T)) where
  -- each next run has its turn, but those of the jobs that are left
  abbrev pub AreListedUpTo : List (ℕ × Waiting J T) → List (Reverse (ℤ × ℕ)) → Type 0
  AreListedUpTo left turns = (s : ℤ) (k : ℕ) → is_awaited_at s (jobs k) ≡ true → (has_turn turns s k || is_awaited_at s (lookup (is_at (nat_cmp k)) left)) ≡ true
