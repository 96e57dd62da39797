-- Lists of names, as contracts see them.
use Rattle.std.proofs.Common.{◌≡◌, ◌∙◌, ◌||◌, ℕ, Bool, true, false, List, [], ◌∷◌, ap, refl}
use Rattle.std.specs.Prelude.{filter, not}
use Rattle.std.specs.Borrow.{Bor}
use Rattle.std.specs.List.{list_any}
use Rattle.std.specs.Str.{bytes_eq}
use Rattle.croncheck_report.specs.declared.report.JobReport.{JobReport}
use Rattle.croncheck_report.specs.declared.settings.Settings.{Settings}
use Rattle.croncheck_report.specs.Allowed.{allowable, is_listed, names_seen, lists, names_in, may_stand}

any_of_map : (p : List ℕ → Bool) (names : List (Bor (List ℕ))) → list_any (λ (n : Bor (List ℕ)). p n.now) names ≡ list_any p (names_seen names)
any_of_map p [] = refl
any_of_map p (n ∷ ns) = ap (λ b. p n.now || b) (any_of_map p ns)

-- a test of names is one of what they are
pub any_of_names : (name : List ℕ) (names : List (Bor (List ℕ))) → list_any (λ (n : Bor (List ℕ)). bytes_eq n.now name) names ≡ is_listed (names_seen names) name
any_of_names name names = any_of_map (λ n. bytes_eq n name) names

filtered_on : (p : List ℕ → Bool) (n : Bor (List ℕ)) (ns : List (Bor (List ℕ))) (passes : Bool) → p n.now ≡ passes
    → names_seen (filter (λ (m : Bor (List ℕ)). p m.now) ns) ≡ filter p (names_seen ns)
    → names_seen (filter (λ (m : Bor (List ℕ)). p m.now) (n ∷ ns)) ≡ filter p (names_seen (n ∷ ns))
filtered_on p n ns true is h = rw is (ap (λ r. n.now ∷ r) h)
filtered_on p n ns false is h = rw is h

-- what is filtered of names is what is filtered of what they are
names_filtered : (p : List ℕ → Bool) (names : List (Bor (List ℕ)))
    → names_seen (filter (λ (n : Bor (List ℕ)). p n.now) names) ≡ filter p (names_seen names)
names_filtered p [] = refl
names_filtered p (n ∷ ns) = filtered_on p n ns (p n.now) refl (names_filtered p ns)

-- of some names those that a list has
pub names_of_list : (list : List ℕ) (known names : List (Bor (List ℕ))) → names_seen known ≡ allowable
    → names ≡ filter (λ (n : Bor (List ℕ)). lists list n.now) known → names_seen names ≡ names_in list
names_of_list list known names all is = ap names_seen is ∙ names_filtered (lists list) known ∙ ap (filter (lists list)) all

-- of the names above a job those that don't stand there
pub names_over : (s : Settings) (j : JobReport) (above names : List (Bor (List ℕ)))
    → names ≡ filter (λ (n : Bor (List ℕ)). not (may_stand s j n.now)) above
    → names_seen names ≡ filter (λ name. not (may_stand s j name)) (names_seen above)
names_over s j above names is = ap names_seen is ∙ names_filtered (λ name. not (may_stand s j name)) above
