-- The starts that are found once, one after the other.
use Rattle.std.proofs.Common.{◌≡◌, ◌∙◌, ℕ, ℤ, ◌+◌, Bool, true, false, cond, ◌||◌, ◌&&◌, ◌==◌, List, [], ◌∷◌, ◌++◌, unwrap_or, Option, Some, refl, sym, ap, arith}
use Rattle.std.specs.BTreeMap.{BTreeMap, get, is_at}
use Rattle.std.specs.BTreeSet.{BTreeSet, contains}
use Rattle.std.specs.List.{list_any}
use Rattle.std.specs.Ordering.{int_cmp, nat_cmp, is_eq, ordering_then}
use Rattle.std.specs.declared.cmp.Ordering.{Ordering}
use Rattle.std.specs.declared.cmp.Ordering.TheVariants.{Less, Equal, Greater}
use Rattle.std.proofs.lemmas.Bool.Decides.{nat_tests}
use Rattle.std.proofs.lemmas.List.Folds.{list_any-append}
use Rattle.cronplan.specs.declared.job_dates.DateRange.{DateRange}
use Rattle.cronplan.specs.declared.job_dates.Per.{Per}
use Rattle.cronplan.specs.declared.job_dates.Per.TheVariants as per
use Rattle.cronplan.specs.declared.start.JobStart.{JobStart}
use Rattle.cronplan.specs.Counts.{date_of}
use Rattle.cronplan.specs.JobDates.{has_date, is_of_job, with_new}
use Rattle.cronplan.specs.Private.Once.{is_like, key_of, has_key, key_cmp, AreSeen}

-- ---- keys

same_number : (j k : ℕ) → is_eq (nat_cmp j k) ≡ (j == k)
same_number j k = grind (arith, nat_tests)

one_key : (o : Ordering) (j k : ℕ) → is_eq (ordering_then o (nat_cmp j k)) ≡ (is_eq o && j == k)
one_key Less j k = refl
one_key Equal j k = same_number j k
one_key Greater j k = refl

-- a key in the order of keys, and a start with it
at_key : (p : Per) (s : JobStart) (key : ℤ × ℕ) → is_at (key_cmp (key_of p s)) key ≡ has_key p key s
at_key p s key = one_key (int_cmp (key_of p s).0 key.0) (key_of p s).1 key.1

like_any : (p : Per) (s : JobStart) (found : List JobStart) → list_any (is_like p s) found ≡ list_any (has_key p (key_of p s)) found
like_any per.Date s found = refl
like_any per.Plan s found = refl

-- ---- a start more

-- one that was seen
pub seen_kept : (p : Per) (s : JobStart) (old new : BTreeSet (ℤ × ℕ)) (found : List JobStart) → AreSeen p old found → contains key_cmp old (key_of p s) ≡ true
    → new.keys ≡ old.keys → (found ≡ with_new (is_like p) found s) × AreSeen p new found
seen_kept p s old new found seen had same = (
  sym (ap (λ (b : Bool). cond b found (found ++ s ∷ [])) (like_any p s found ∙ sym (seen (key_of p s)) ∙ had)),
  λ key. ap (λ (ks : List (ℤ × ℕ)). list_any (is_at (key_cmp key)) ks) same ∙ seen key,
)

either : (b c : Bool) → cond b true c ≡ (c || b)
either true true = refl
either true false = refl
either false true = refl
either false false = refl

nothing_more : (b : Bool) → (b || false) ≡ b
nothing_more true = refl
nothing_more false = refl

-- a new one
pub seen_more : (p : Per) (s : JobStart) (old new : BTreeSet (ℤ × ℕ)) (found more : List JobStart) → AreSeen p old found → contains key_cmp old (key_of p s) ≡ false
    → ((key : ℤ × ℕ) → contains key_cmp new key ≡ cond (is_at (key_cmp (key_of p s)) key) true (contains key_cmp old key)) → more ≡ found ++ s ∷ []
    → (more ≡ with_new (is_like p) found s) × AreSeen p new more
seen_more p s old new found more seen absent updates is = (
  is ∙ sym (ap (λ (b : Bool). cond b found (found ++ s ∷ [])) (like_any p s found ∙ sym (seen (key_of p s)) ∙ absent)),
  λ key. updates key ∙ ap (λ (b : Bool). cond b true (contains key_cmp old key)) (at_key p s key) ∙ either (has_key p key s) (contains key_cmp old key)
      ∙ ap (λ (b : Bool). b || has_key p key s) (seen key)
      ∙ sym (ap (list_any (has_key p key)) is ∙ list_any-append (has_key p key) found (s ∷ []) ∙ ap (λ (b : Bool). list_any (has_key p key) found || b) (nothing_more (has_key p key s))),
)

-- ---- counts

-- a job's count more
pub count_more : (dates : DateRange) (s : JobStart) (had : ℕ) (old new : BTreeMap ℕ ℕ) → has_date dates (date_of s.wall) ≡ true → had ≡ unwrap_or (get nat_cmp old s.job) 0
    → ((q : ℕ) → get nat_cmp new q ≡ cond (is_at (nat_cmp s.job) q) (Some (had + 1)) (get nat_cmp old q))
    → (job : ℕ) → unwrap_or (get nat_cmp new job) 0 ≡ unwrap_or (get nat_cmp old job) 0 + cond (is_of_job dates job s) 1 0
count_more dates s had old new inside was updates job = at (s.job == job) refl where
  one : Bool → ℕ
  one b = cond b 1 0

  now : (b : Bool) → (s.job == job) ≡ b → unwrap_or (get nat_cmp new job) 0 ≡ unwrap_or (cond b (Some (had + 1)) (get nat_cmp old job)) 0
  now b e = ap (λ (o : Option ℕ). unwrap_or o 0) (updates job ∙ ap (λ (c : Bool). cond c (Some (had + 1)) (get nat_cmp old job)) (same_number s.job job ∙ e))

  more : (b : Bool) → (s.job == job) ≡ b → ◌≡◌ {A = ℕ} (cond (is_of_job dates job s) 1 0) (cond b 1 0)
  more true e = ap (λ (c : Bool). one (c && has_date dates (date_of s.wall))) e ∙ ap one inside
  more false e = ap (λ (c : Bool). one (c && has_date dates (date_of s.wall))) e

  at : (b : Bool) → (s.job == job) ≡ b → unwrap_or (get nat_cmp new job) 0 ≡ unwrap_or (get nat_cmp old job) 0 + cond (is_of_job dates job s) 1 0
  at true e =
      let same : s.job ≡ job = grind (arith, nat_tests) in
      let first : unwrap_or (get nat_cmp old job) 0 ≡ had = sym (was ∙ ap (λ (k : ℕ). unwrap_or (get nat_cmp old k) 0) same) in
      omega (arith, now true e, more true e, first)
  at false e = omega (arith, now false e, more false e)
