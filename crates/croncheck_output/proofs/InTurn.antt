-- What is taken in turn, one after the other.
use Rattle.std.proofs.Common.{◌≡◌, ◌<◌, ◌≤◌, ◌+◌, ℕ, suc, List, [], ◌∷◌, ◌++◌, sym, subst, take, length, get_or, arith}
use Rattle.std.proofs.Math.Seq.{take-suc}
use Rattle.std.proofs.lemmas.List.{take_all}
use Rattle.crontab.specs.Checked.{TakesInTurn}
use Rattle.crontab.proofs.TakenLines.{in_turn_push}

-- one more of a list was taken
pub in_turn_next : {S Y : Type 0} (takes : S → Y → S → Type 0) (old now new : S) (ys : List Y) (k : ℕ) (y d : Y) → k < length ys → y ≡ get_or ys k d
    → TakesInTurn takes old (take k ys) now → takes now y new → TakesInTurn takes old (take (k + 1) ys) new
in_turn_next {S} {Y} takes old now new ys k y d within is before one =
    let more : suc k ≡ k + 1 = omega arith in
    let taken : take (k + 1) ys ≡ take k ys ++ get_or ys k d ∷ [] =
    subst (λ (n : ℕ). take n ys ≡ take k ys ++ get_or ys k d ∷ []) more (take-suc ys k d within) in
    let step : take (k + 1) ys ≡ take k ys ++ y ∷ [] = subst (λ (x : Y). take (k + 1) ys ≡ take k ys ++ x ∷ []) (sym is) taken in
    subst (λ (xs : List Y). TakesInTurn takes old xs new) (sym step) (in_turn_push takes old now new (take k ys) y before one)

-- all of a list were taken
pub in_turn_all : {S Y : Type 0} (takes : S → Y → S → Type 0) (old new : S) (ys : List Y) (k : ℕ) → length ys ≤ k
    → TakesInTurn takes old (take k ys) new → TakesInTurn takes old ys new
in_turn_all {S} {Y} takes old new ys k all before = subst (λ (xs : List Y). TakesInTurn takes old xs new) (take_all k ys all) before
