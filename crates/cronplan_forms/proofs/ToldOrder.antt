-- The order in which windows are told.
use Rattle.std.proofs.Common.{◌≡◌, ◌≢◌, ◌∙◌, ℕ, ℤ, false, List, length, get_or, ap, refl, sym, subst, arith, is_lt}
use Rattle.std.proofs.lemmas.Bool.{true≢false}
use Rattle.std.proofs.lemmas.Cmp.{nat_cmp_total, int_cmp_total, on_total, then_total, back_total}
use Rattle.std.proofs.lemmas.Int.{ints}
use Rattle.std.proofs.lemmas.List.{get_or-map, length-map}
use Rattle.std.proofs.lemmas.List.Sorted.{ranks_by, sorted_far}
use Rattle.std.specs.Cmp.{IsTotalOrder}
use Rattle.std.specs.List.{AllPairs}
use Rattle.std.specs.List.Sorted.{IsPermutation, IsSorted}
use Rattle.std.specs.Ordering.{int_cmp, ordering_index, ordering_reverse, ordering_then}
use Rattle.std.specs.Prelude.{map}
use Rattle.std.specs.declared.cmp.Ordering.{Ordering}
use Rattle.std.specs.declared.cmp.Ordering.TheVariants.{Less, Equal, Greater}
use Rattle.croner_base.specs.Zone.{Zone}
use Rattle.cronplan.specs.declared.plan.Plan.{Plan}
use Rattle.cronplan.specs.declared.windows.Window.{Window}
use Rattle.cronplan.specs.Windows.{seconds_in}
use Rattle.cronplan.proofs.FilteredLists.{AllPairs-permutation}
use Rattle.cronplan_forms.specs.declared.answers.quiet.ShownWindow.{ShownWindow}
use Rattle.cronplan_forms.specs.Answers.{IsQuiet}
use Rattle.cronplan_forms.specs.WindowRuns.{shown_second, told_cmp}

told_total : IsTotalOrder told_cmp
told_total =
    then_total
    (then_total (back_total (on_total (λ (s : ShownWindow). seconds_in s.window) nat_cmp_total)) (on_total (λ (s : ShownWindow). shown_second s.from) nat_cmp_total))
    (on_total (λ (s : ShownWindow). s.window.from.second) int_cmp_total)

-- a tie is one of what comes second too
second-ties : (a b : Ordering) → ordering_then a b ≡ Equal → b ≡ Equal
second-ties Less b e = absurd (omega (arith, ap ordering_index e))
second-ties Equal b e = e
second-ties Greater b e = absurd (omega (arith, ap ordering_index e))

numbers-tie : (i j : ℤ) → int_cmp i j ≡ Equal → i ≡ j
numbers-tie i j e = grind (arith, ints)

-- two windows begin at different seconds
abbrev Apart : ShownWindow → ShownWindow → Type 0
Apart s t = s.window.from.second ≢ t.window.from.second

-- of two such, the one that isn't after the other comes before it
before : (s t : ShownWindow) → is_lt (told_cmp t s) ≡ false → Apart s t → told_cmp s t ≡ Less
before s t up apart = at (told_cmp s t) refl where
  at : (o : Ordering) → told_cmp s t ≡ o → told_cmp s t ≡ Less
  at Less e = e
  at Equal e = absurd (apart (numbers-tie s.window.from.second t.window.from.second (second-ties _ (int_cmp s.window.from.second t.window.from.second) e)))
  at Greater e = absurd (true≢false (sym (ap is_lt (told_total.antisymm t s ∙ ap ordering_reverse e)) ∙ up))

-- windows begin at different seconds with what the clock shows beside them too
apart-shown : (shown : List ShownWindow) → AllPairs (λ (v w : Window). v.from.second ≢ w.from.second) (map (λ (s : ShownWindow). s.window) shown) → AllPairs Apart shown
apart-shown shown h i j d lt within =
    let long : length (map (λ (s : ShownWindow). s.window) shown) ≡ length shown = length-map shown (λ (s : ShownWindow). s.window) in
    subst (λ (v : Window). v.from.second ≢ (get_or shown j d).window.from.second) (get_or-map (λ (s : ShownWindow). s.window) shown i d d.window (omega arith))
    (subst (λ (w : Window). (get_or (map (λ (s : ShownWindow). s.window) shown) i d.window).from.second ≢ w.from.second) (get_or-map (λ (s : ShownWindow). s.window) shown j d d.window within)
    (h i j d.window lt (omega arith)))

-- each comes before all after it
pub strictly : (z : Zone) (p : Plan) (least : ℕ) (shown told : List ShownWindow) → IsQuiet z p least shown → IsPermutation shown told → IsSorted told_cmp told
    → AllPairs (λ s t. told_cmp s t ≡ Less) told
strictly z p least shown told quiet same up i j d lt within =
    let of_shown : AllPairs Apart shown = apart-shown shown (subst (AllPairs (λ (v w : Window). v.from.second ≢ w.from.second)) (sym quiet.of_them) quiet.are_windows.once) in
    let apart : AllPairs Apart told = AllPairs-permutation Apart (λ s t ne e. ne (sym e)) shown told same of_shown in
    before (get_or told i d) (get_or told j d) (sorted_far _ (ranks_by told_total (λ (s : ShownWindow). s)) told up i j d (omega (arith, lt)) within) (apart i j d lt within)
