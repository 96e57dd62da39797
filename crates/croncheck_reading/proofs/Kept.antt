-- The places that are kept of jobs.
use Rattle.std.proofs.Common.{◌≡◌, ◌∙◌, ℕ, List, [], ◌∷◌, Bool, true, false, Option, Some, None, cond, true≢false, ap, sym, refl}
use Rattle.std.specs.Prelude.{option_map, is_some, if◌then◌else◌, Result, Ok, Err, IfOk}
use Rattle.std.proofs.lemmas.Cmp.{alike_right, nat_list_cmp_total, on_total, then_total}
use Rattle.std.specs.BTreeMap.{get}
use Rattle.std.specs.Cmp.{IsTotalOrder}
use Rattle.std.specs.Map.{lookup}
use Rattle.std.specs.Option.{option_or}
use Rattle.std.specs.Ordering.{is_eq, ordering_reverse}
use Rattle.std.specs.declared.cmp.Ordering.{Ordering}
use Rattle.std.specs.declared.cmp.Ordering.TheVariants.{Less, Equal, Greater}
use Rattle.croner_pattern.specs.Order.{pattern_cmp_total}
use Rattle.croner.specs.Views.{job_of}
use Rattle.croner_pattern.specs.Meaning.{Meaning}
use Rattle.crontab.specs.declared.content.Outcome.{Outcome}
use Rattle.crontab.specs.Line.{Line}
use Rattle.croncheck_report.specs.declared.report.Same.{Same}
use Rattle.croncheck_reading.specs.declared.same.Seen.{Seen}
use Rattle.croncheck_reading.specs.Same.{meaning_found}
use Rattle.croncheck_report.specs.Report.{file_and_line}
use Rattle.croncheck_reading.specs.Same.{job_compared_in, owner_of, JobKey, key_cmp, are_same, IsCompared, place_kept, KeepsPlaces, Finds, FindsAny}

key_cmp_total : IsTotalOrder key_cmp
key_cmp_total = then_total (on_total (λ (k : JobKey). k.0.items) nat_list_cmp_total) (on_total (λ (k : JobKey). k.1.pattern) pattern_cmp_total)

equal_of : (o : Ordering) → is_eq o ≡ true → o ≡ Equal
equal_of Equal h = refl
equal_of Less h = absurd (true≢false (sym h))
equal_of Greater h = absurd (true≢false (sym h))

-- two that are the same compare alike with each other
alike : (a b c : JobKey) → key_cmp a b ≡ Equal → key_cmp a c ≡ key_cmp b c
alike a b c h =
    key_cmp_total.antisymm a c ∙ ap ordering_reverse (alike_right key_cmp_total a b c h) ∙ sym (key_cmp_total.antisymm b c)

or_none : (q : Option (List ℕ × ℕ)) → q ≡ option_or q None
or_none None = refl
or_none (Some x) = refl

-- two that are the same stand at one place of a list
lookup_same : (a b : JobKey) (es : List (JobKey × Same)) → key_cmp a b ≡ Equal → lookup (λ k. is_eq (key_cmp a k)) es ≡ lookup (λ k. is_eq (key_cmp b k)) es
lookup_same a b [] h = refl
lookup_same a b (e ∷ es) h =
    let here : is_eq (key_cmp a e.0) ≡ is_eq (key_cmp b e.0) = ap is_eq (alike a b e.0 h) in
    rw (here, lookup_same a b es h)

kept_same : (seen : Seen) (a b : JobKey) → are_same a b ≡ true → place_kept seen a ≡ place_kept seen b
kept_same seen a b h = ap (option_map file_and_line) (lookup_same a b seen.jobs.entries (equal_of (key_cmp a b) h))

-- where the entries stay, each job keeps its place
pub kept_entries : (old new : Seen) → new.jobs.entries ≡ old.jobs.entries → KeepsPlaces old new
kept_entries old new same = λ key.
    ap (λ (es : List (JobKey × Same)). option_map file_and_line (lookup (λ k. is_eq (key_cmp key k)) es)) same

-- a job that is found stays where it was, and so does each other
found_again : (p q : Option (List ℕ × ℕ)) (here : List ℕ × ℕ) (same : Bool) (place : List ℕ × ℕ) → p ≡ Some place → (same ≡ true → p ≡ q)
    → q ≡ option_or q (if same then Some here else None)
found_again p (Some x) here same place is alike = refl
found_again p None here false place is alike = refl
found_again p None here true place is alike = absurd (true≢false (ap is_some (sym is ∙ alike refl)))

pub finds_kept : (seen : Seen) (key : JobKey) (here : List ℕ × ℕ) (same : Same) → Some (file_and_line same) ≡ place_kept seen key → Finds key here seen seen (Some same)
finds_kept seen key here same h = record {
  earlier = h;
  first = λ other. found_again (place_kept seen key) (place_kept seen other) here (are_same key other) _ (sym h) (kept_same seen key other);
}

new_first : (p q r : Option (List ℕ × ℕ)) (here : List ℕ × ℕ) (same : Bool) → p ≡ None → (same ≡ true → p ≡ q) → r ≡ (if same then Some here else q)
    → r ≡ option_or q (if same then Some here else None)
new_first p q r here false none alike is = is ∙ or_none q
new_first p q r here true none alike is = is ∙ sym (rw (sym (alike refl), none))

pub finds_none : (old new : Seen) (key : JobKey) (here : List ℕ × ℕ) → None ≡ place_kept old key
    → ((other : JobKey) → place_kept new other ≡ (if are_same key other then Some here else place_kept old other)) → Finds key here old new None
finds_none old new key here none is = record {
  earlier = none;
  first = λ other. new_first (place_kept old key) (place_kept old other) (place_kept new other) here (are_same key other) (sym none) (kept_same old key other) (is other);
}

put_in : (same : Bool) (place : Same) (here : List ℕ × ℕ) (q : Option Same) → file_and_line place ≡ here
    → option_map file_and_line (cond same (Some place) q) ≡ (if same then Some here else option_map file_and_line q)
put_in true place here q h = ap (λ (x : List ℕ × ℕ). Some x) h
put_in false place here q h = refl

-- once a place was put in at a job
pub kept_after : (old new : Seen) (key : JobKey) (here : List ℕ × ℕ) (place : Same)
    → ((other : JobKey) → get key_cmp new.jobs other ≡ cond (is_eq (key_cmp key other)) (Some place) (get key_cmp old.jobs other))
    → file_and_line place ≡ here → (other : JobKey) → place_kept new other ≡ (if are_same key other then Some here else place_kept old other)
kept_after old new key here place gets is other =
    ap (option_map file_and_line) (gets other) ∙ put_in (are_same key other) place here (get key_cmp old.jobs other) is

-- ---- of a line

none_found : (view : Meaning → Meaning) (found : Option Meaning) → None ≡ option_map view found → found ≡ None
none_found view None h = refl
none_found view (Some m) h = absurd (true≢false (ap is_some (sym h)))

-- nothing is compared of it
pub finds_nothing : (line : Line) (found : Outcome) (here : List ℕ × ℕ) (seen : Seen) → None ≡ option_map (job_compared_in line) (meaning_found found)
    → (key : Option JobKey) × IsCompared line found key × FindsAny key here seen seen None
finds_nothing line found here seen h = (None, none_found (job_compared_in line) (meaning_found found) h, (refl, refl))

-- it has a job
pub if_found : {E : Type 0} (line : Line) (outcome : Outcome) (key : JobKey) (here : List ℕ × ℕ) (old new : Seen) (r : Result (Option Same) E)
    → Some (job_of key.1) ≡ option_map (job_compared_in line) (meaning_found outcome) → key.0.items ≡ owner_of line
    → IfOk r (λ found. Finds key here old new found) → IfOk r (λ found. (key : Option JobKey) × IsCompared line outcome key × FindsAny key here old new found)
if_found line outcome key here old new (Ok found) times owner finds = (Some key, (times, owner), finds)
if_found line outcome key here old new (Err e) times owner finds = finds
