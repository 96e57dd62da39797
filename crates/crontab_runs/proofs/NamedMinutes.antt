-- Lists of named minutes: none, and one minute on.
use Rattle.std.proofs.Common.{◌≡◌, sym, ◌∙◌, subst, arith, length-append, ℕ, ◌+◌, ℤ, pos, ◌+ℤ◌, ◌-ℤ◌, ◌<ℤ◌, ◌≤ℤ◌, List, [], ◌∷◌, ◌++◌, length}
use Rattle.std.proofs.lemmas.Int.{ints, by_lt_z}
use Rattle.std.proofs.lemmas.List.Elements.{All-nil, All-cons, All-head, All-tail, All-append, All-weaker, Contains-append_left, Contains-push}
use Rattle.std.specs.List.{All, Contains}
use Rattle.croner_base.specs.Calm.{Rises}
use Rattle.crontab_runs.specs.Starts.{AreNamed}
use Rattle.crontab_runs.specs.Private.Due.{IsNamedCount}

-- one more, which is greater than the others
rises_more : (x : ℤ) (xs : List ℤ) → Rises xs → All (λ e. e <ℤ x) xs → Rises (xs ++ x ∷ [])
rises_more x [] rises below = (All-nil (λ e. x <ℤ e), tt)
rises_more x (y ∷ ys) (first, rises) below = (
  All-append (λ e. y <ℤ e) ys (x ∷ []) first (All-cons (λ e. y <ℤ e) x [] (All-head (λ e. e <ℤ x) y ys below) (All-nil (λ e. y <ℤ e))),
  rises_more x ys rises (All-tail (λ e. e <ℤ x) y ys below),
)

-- no minute lies after one and up to it
pub none_named : (names : ℤ → Type 0) (k : ℤ) → AreNamed names k k []
none_named names k = record {
  rises = tt;
  named = All-nil (λ x. (k <ℤ x) × (x ≤ℤ k) × names x);
  complete = λ x low high is. absurd (omega (arith, ints));
}

-- the next minute is named
pub one_more : (names : ℤ → Type 0) (after upto next : ℤ) (minutes : List ℤ) → after ≤ℤ upto → next ≡ upto +ℤ pos 1 → names next → AreNamed names after upto minutes
    → AreNamed names after next (minutes ++ next ∷ [])
one_more names after upto next minutes order e is all = record {
  rises = rises_more next minutes all.rises (All-weaker (λ x. (after <ℤ x) × (x ≤ℤ upto) × names x) (λ x. x <ℤ next) (λ x h. omega (arith, ints, h.1)) minutes all.named);
  named =
      let P : ℤ → Type 0 = λ x. (after <ℤ x) × (x ≤ℤ next) × names x in
      All-append P minutes (next ∷ [])
      (All-weaker (λ x. (after <ℤ x) × (x ≤ℤ upto) × names x) P (λ x h. (h.0, omega (arith, ints, h.1), h.2)) minutes all.named)
      (All-cons P next [] (omega (arith, ints), omega (arith, ints), is) (All-nil P));
  complete = λ x low high named. by_lt_z x next
      (λ lt. Contains-append_left minutes (next ∷ []) x (all.complete x low (omega (arith, ints)) named))
      (λ le. let same : next ≡ x = omega (arith, ints) in subst (Contains (minutes ++ next ∷ [])) same (Contains-push minutes next));
}

-- the next minute is not named
pub none_more : (names : ℤ → Type 0) (after upto next : ℤ) (minutes : List ℤ) → next ≡ upto +ℤ pos 1 → (names next → ⊥) → AreNamed names after upto minutes
    → AreNamed names after next minutes
none_more names after upto next minutes e is all = record {
  rises = all.rises;
  named = All-weaker (λ x. (after <ℤ x) × (x ≤ℤ upto) × names x) (λ x. (after <ℤ x) × (x ≤ℤ next) × names x) (λ x h. (h.0, omega (arith, ints, h.1), h.2)) minutes all.named;
  complete = λ x low high named. by_lt_z x next
      (λ lt. all.complete x low (omega (arith, ints)) named)
      (λ le. let same : x ≡ next = omega (arith, ints) in absurd (is (subst names same named)));
}

-- one minute alone
pub one_named : (names : ℤ → Type 0) (k : ℤ) → names k → AreNamed names (k -ℤ pos 1) k (k ∷ [])
one_named names k is = one_more names (k -ℤ pos 1) (k -ℤ pos 1) k [] (omega (arith, ints)) (omega (arith, ints)) is (none_named names (k -ℤ pos 1))

-- counts of named minutes: one minute on, which is named, or isn't
pub one_counted : (names : ℤ → Type 0) (after m next : ℤ) (count more : ℕ) → (after +ℤ pos 1) ≤ℤ m → next ≡ m +ℤ pos 1 → more ≡ count + 1 → names m → IsNamedCount names after (m -ℤ pos 1) count
    → IsNamedCount names after (next -ℤ pos 1) more
one_counted names after m next count more order e up is (minutes, all, long) =
    let same : m ≡ next -ℤ pos 1 = omega (arith, ints) in
    let added : AreNamed names after m (minutes ++ m ∷ []) = one_more names after (m -ℤ pos 1) m minutes (omega (arith, ints)) (omega (arith, ints)) is all in
    let length_is : length (minutes ++ m ∷ []) ≡ more = length-append minutes (m ∷ []) ∙ omega (arith, long, up) in
    (minutes ++ m ∷ [], subst (λ (u : ℤ). AreNamed names after u (minutes ++ m ∷ [])) same added, length_is)

pub none_counted : (names : ℤ → Type 0) (after m next : ℤ) (count more : ℕ) → next ≡ m +ℤ pos 1 → more ≡ count → (names m → ⊥) → IsNamedCount names after (m -ℤ pos 1) count
    → IsNamedCount names after (next -ℤ pos 1) more
none_counted names after m next count more e up is (minutes, all, long) =
    let same : m ≡ next -ℤ pos 1 = omega (arith, ints) in
    (minutes, subst (λ (u : ℤ). AreNamed names after u minutes) same (none_more names after (m -ℤ pos 1) m minutes (omega (arith, ints)) is all), long ∙ sym up)
