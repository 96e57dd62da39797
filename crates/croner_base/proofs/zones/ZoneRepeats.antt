-- The changes of a zone whose clock shows the same after 400 years: those of one such period are those of each.
use Rattle.std.proofs.Common.{◌≡◌, ℕ, zero, suc, ◌+◌, ◌-◌, ◌≤◌, ◌<◌, ◌==◌, true, false, cond, refl, sym, ap, ◌∙◌, arith, ℤ, pos, neg_ℤ, ◌+ℤ◌, ◌-ℤ◌, ◌≤ℤ◌, ◌<ℤ◌, int_eq, List, [], ◌∷◌, ◌++◌, map, append_assoc, append-nil, length, get_or, take, drop, subst, Bor, unsigned_abs, vec_len, Option, Some, None}
use Rattle.std.proofs.lemmas.Bool.Decides.{nat_tests}
use Rattle.std.proofs.lemmas.List.Elements.{All-append, All-nil, All-cons, All-weaker}
use Rattle.std.proofs.lemmas.List.{length-map, map-append, get_or-map, get_or_append_left, get_or-drop, length-append, length-drop, map_more, drop_at}
use Rattle.std.specs.List.{All}
use Rattle.jiff_core.specs.Timestamp.{nanos_of_seconds}
use Rattle.jiff_core.specs.declared.Offset.{Offset}
use Rattle.jiff_core.proofs.SignedLemmas.{signed_arith}
use Rattle.jiff_tz.specs.PosixRule as Posix
use Rattle.jiff_tz.specs.PosixRule.{match_some}
use Rattle.jiff_tz.specs.Tzif as Table
use Rattle.jiff_tz.specs.Tzif.{count_at, floor_second, transition_at}
use Rattle.jiff_tz.specs.Zone as Zone
use Rattle.jiff_tz.specs.declared.posix.TimeZone.{TimeZone as Rule}
use Rattle.jiff_tz.specs.declared.timezone.TimeZone.{TimeZone}
use Rattle.jiff_tz.specs.declared.timezone.TimeZone.TheVariants.{UTC, Unknown, Fixed, Posix as OfRule, Tzif as OfTable}
use Rattle.jiff_tz.specs.declared.tzif.Tzif.{Tzif}
use Rattle.jiff_tz.specs.TzifText.{TransitionText, transition_text}
use Rattle.jiff_tz.specs.declared.tzif.transition.Transition.{Transition}
use Rattle.jiff_tz.proofs.ZoneTheorems.{count_is}
use Rattle.croner_base.specs.Private.ZoneSteps.{period, repeated_until, Repeats, again}
use Rattle.croner_base.specs.ZoneTable.{ahead_at, change_at, changes_after, window_changes}
use Rattle.croner_base.proofs.zones.ZoneChanges.{changes_zero, changes_more}
use Rattle.croner_base.proofs.zones.ZonePeriods.{IsRepeated, rule_again}
use Rattle.croner_base.proofs.zones.ZoneYears.{nonneg_abs}

-- ---- zones

-- the first second of the year -9998 in UTC
abbrev pub first_repeated : ℤ
first_repeated = neg_ℤ (pos 377_673_580_800)

-- each row of a zone's table is passed at a second
abbrev pub PassesRows : TimeZone → ℤ → Type 0
PassesRows UTC from = Unit {0}
PassesRows Unknown from = Unit {0}
PassesRows (Fixed offset) from = Unit {0}
PassesRows (OfRule tz) from = Unit {0}
PassesRows (OfTable z) from = 0 < length z.now.transitions.items → (transition_at z.now (length z.now.transitions.items - 1)).second ≤ℤ from

-- a zone without a table
pub no_table : (tz : TimeZone) (from : ℤ) → ((z : Bor Tzif) → tz ≡ OfTable z → ⊥) → PassesRows tz from
no_table UTC from h = tt
no_table Unknown from h = tt
no_table (Fixed offset) from h = tt
no_table (OfRule tz) from h = tt
no_table (OfTable z) from h = absurd (h z refl)

-- the last of the rows that a table shows is its own
pub last_row : (tz : TimeZone) (z : Bor Tzif) (rows : List Transition) (from : ℤ) → tz ≡ OfTable z → map transition_text rows ≡ map transition_text z.now.transitions.items
    → (0 < length rows → (get_or rows (length rows - 1) (Table.no_transition z.now)).second ≤ℤ from) → PassesRows tz from
last_row tz z rows from is same last =
    let items = z.now.transitions.items in
    let n : ℕ = length items in
    let d = Table.no_transition z.now in
    let as_many : length rows ≡ n = sym (length-map rows transition_text) ∙ ap length same ∙ length-map items transition_text in
    rw is (λ some.
    let at : transition_text (get_or rows (n - 1) d) ≡ transition_text (get_or items (n - 1) d) =
    sym (get_or-map transition_text rows (n - 1) d (transition_text d) (omega (arith, some, as_many)))
    ∙ ap (λ l. get_or l (n - 1) (transition_text d)) same ∙ get_or-map transition_text items (n - 1) d (transition_text d) (omega (arith, some)) in
    let second : (get_or rows (n - 1) d).second ≡ (get_or items (n - 1) d).second = ap (λ (t : TransitionText). t.second) at in
    let bound = rw as_many at last in
    omega (arith, signed_arith, bound some, second))

is_repeated : (i : ℤ) → first_repeated ≤ℤ i → (i +ℤ pos period) <ℤ repeated_until → IsRepeated (nanos_of_seconds i)
is_repeated i low high = record { low = omega (arith, signed_arith, low); high = omega (arith, signed_arith, high) }

rule_repeats : (tz : Rule) (i : ℤ) → first_repeated ≤ℤ i → (i +ℤ pos period) <ℤ repeated_until → Posix.offset_at tz (nanos_of_seconds (i +ℤ pos period)) ≡ Posix.offset_at tz (nanos_of_seconds i)
rule_repeats tz i low high =
    let at : nanos_of_seconds (i +ℤ pos period) ≡ nanos_of_seconds i +ℤ pos 12_622_780_800_000_000_000 = omega (arith, signed_arith) in
    ap (Posix.offset_at tz) at ∙ rule_again tz (nanos_of_seconds i) (is_repeated i low high)

all_passed : (z : Tzif) (from i : ℤ) → (0 < length z.transitions.items → (transition_at z (length z.transitions.items - 1)).second ≤ℤ from) → from ≤ℤ i → count_at z (floor_second (nanos_of_seconds i)) ≡ length z.transitions.items
all_passed z from i h le =
    count_is z (floor_second (nanos_of_seconds i)) (length z.transitions.items) (omega arith) (λ some. omega (arith, signed_arith, h some, le)) (λ less. absurd (omega (arith, less)))

table_by : (z : Tzif) (o : Option Rule) (k : ℕ) (i : ℤ) → first_repeated ≤ℤ i → (i +ℤ pos period) <ℤ repeated_until
    → match_some o (Table.type_after z k).offset (λ tz. Posix.offset_at tz (nanos_of_seconds (i +ℤ pos period))) ≡ match_some o (Table.type_after z k).offset (λ tz. Posix.offset_at tz (nanos_of_seconds i))
table_by z None k i low high = refl
table_by z (Some tz) k i low high = rule_repeats tz i low high

table_repeats : (z : Tzif) (from i : ℤ) → (0 < length z.transitions.items → (transition_at z (length z.transitions.items - 1)).second ≤ℤ from) → from ≤ℤ i → first_repeated ≤ℤ i → (i +ℤ pos period) <ℤ repeated_until
    → Table.offset_at z (nanos_of_seconds (i +ℤ pos period)) ≡ Table.offset_at z (nanos_of_seconds i)
table_repeats z from i h le low high =
    let here = all_passed z from i h le in
    let there = all_passed z from (i +ℤ pos period) h (omega (arith, signed_arith, le)) in
    let all : (length z.transitions.items == vec_len z.transitions) ≡ true = grind (arith, nat_tests, z.transitions.ok.0) in
    rw (here, there, all) (table_by z z.posix_tz (length z.transitions.items) i low high)

-- past its rows a zone shows the same again
pub zone_repeats : (tz : TimeZone) (from : ℤ) → first_repeated ≤ℤ from → PassesRows tz from → Repeats tz from
unfolding Zone.offset_at
zone_repeats UTC from low h = λ i le high. refl
zone_repeats Unknown from low h = λ i le high. refl
zone_repeats (Fixed offset) from low h = λ i le high. refl
zone_repeats (OfRule tz) from low h = λ i le high. ap (λ (o : Offset). o.seconds) (rule_repeats tz i (omega (arith, signed_arith, low, le)) high)
zone_repeats (OfTable z) from low h = λ i le high. ap (λ (o : Offset). o.seconds) (table_repeats z.now from i h le (omega (arith, signed_arith, low, le)) high)

-- ---- changes

-- the changes of two stretches, one after the other
changes_split : (f : ℤ → ℤ) (first : ℤ) (a b : ℕ) → changes_after f first (a + b) ≡ changes_after f first a ++ changes_after f (first +ℤ pos a) b
changes_split f first a zero =
    let none : a + 0 ≡ a = omega arith in
    rw (none, changes_zero f (first +ℤ pos a)) (sym (append-nil (changes_after f first a)))
changes_split f first a (suc b) =
    let one : a + suc b ≡ suc (a + b) = omega arith in
    let at : first +ℤ pos (suc (a + b)) ≡ (first +ℤ pos a) +ℤ pos (suc b) = omega (arith, signed_arith) in
    let here : changes_after f first (a + b) ++ change_at f (first +ℤ pos (suc (a + b))) ≡ (changes_after f first a ++ changes_after f (first +ℤ pos a) b) ++ change_at f ((first +ℤ pos a) +ℤ pos (suc b)) = rw (changes_split f first a b, at) refl in
    ap (λ m. changes_after f first m) one ∙ changes_more f first (a + b) ∙ here
    ∙ append_assoc (changes_after f first a) (changes_after f (first +ℤ pos a) b) (change_at f ((first +ℤ pos a) +ℤ pos (suc b)))
    ∙ ap (λ l. changes_after f first a ++ l) (sym (changes_more f (first +ℤ pos a) b))

pub window_split : (tz : TimeZone) (first mid last : ℤ) → first ≤ℤ mid → mid ≤ℤ last → window_changes tz first last ≡ window_changes tz first mid ++ window_changes tz mid last
window_split tz first mid last low high =
    let a = nonneg_abs (mid -ℤ first) (omega (arith, signed_arith, low)) in
    let b = nonneg_abs (last -ℤ mid) (omega (arith, signed_arith, high)) in
    let c = nonneg_abs (last -ℤ first) (omega (arith, signed_arith, low, high)) in
    let all : unsigned_abs (last -ℤ first) ≡ unsigned_abs (mid -ℤ first) + unsigned_abs (last -ℤ mid) = omega (arith, signed_arith, a, b, c) in
    let at : first +ℤ pos (unsigned_abs (mid -ℤ first)) ≡ mid = omega (arith, signed_arith, a) in
    ap (λ m. changes_after (ahead_at tz) first m) all ∙ changes_split (ahead_at tz) first (unsigned_abs (mid -ℤ first)) (unsigned_abs (last -ℤ mid))
    ∙ ap (λ (i : ℤ). window_changes tz first mid ++ changes_after (ahead_at tz) i (unsigned_abs (last -ℤ mid))) at

-- two stretches of a window, after what was there
pub joined_part : (tz : TimeZone) (first mid last : ℤ) (old : List (ℤ × ℤ)) → first ≤ℤ mid → mid ≤ℤ last → (old ++ window_changes tz first mid) ++ window_changes tz mid last ≡ old ++ window_changes tz first last
joined_part tz first mid last old low high = append_assoc old (window_changes tz first mid) (window_changes tz mid last) ∙ ap (λ l. old ++ l) (sym (window_split tz first mid last low high))

change_again : (f : ℤ → ℤ) (i x : ℤ) → x ≡ i +ℤ pos period → f x ≡ f i → f (x -ℤ pos 1) ≡ f (i -ℤ pos 1) → change_at f x ≡ map again (change_at f i)
change_again f i x at here before =
    rw (here, before) (elim (int_eq (f i) (f (i -ℤ pos 1))) as (λ b. cond b [] ((x, f i) ∷ []) ≡ map again (cond b [] ((i, f i) ∷ []))) [
      | true ↦ refl
      | false ↦ ap (λ (y : ℤ). (y, f i) ∷ []) at
    ])

changes_again : (f : ℤ → ℤ) (first : ℤ) (n : ℕ) → ((i : ℤ) → first ≤ℤ i → i ≤ℤ (first +ℤ pos n) → f (i +ℤ pos period) ≡ f i) → changes_after f (first +ℤ pos period) n ≡ map again (changes_after f first n)
changes_again f first zero h = rw (changes_zero f (first +ℤ pos period), changes_zero f first) refl
changes_again f first (suc n) h =
    let i : ℤ = first +ℤ pos (suc n) in
    let x : ℤ = (first +ℤ pos period) +ℤ pos (suc n) in
    let at : x ≡ i +ℤ pos period = omega (arith, signed_arith) in
    let back : x -ℤ pos 1 ≡ (i -ℤ pos 1) +ℤ pos period = omega (arith, signed_arith) in
    let here : f x ≡ f i = ap f at ∙ h i (omega (arith, signed_arith)) (omega (arith, signed_arith)) in
    let before : f (x -ℤ pos 1) ≡ f (i -ℤ pos 1) = ap f back ∙ h (i -ℤ pos 1) (omega (arith, signed_arith)) (omega (arith, signed_arith)) in
    let rest = changes_again f first n (λ j low high. h j low (omega (arith, signed_arith, high))) in
    changes_more f (first +ℤ pos period) n
    ∙ ap (λ l. l ++ change_at f x) rest
    ∙ ap (λ l. map again (changes_after f first n) ++ l) (change_again f i x at here before)
    ∙ sym (map-append again (changes_after f first n) (change_at f i))
    ∙ ap (map again) (sym (changes_more f first n))

-- those of the next period
pub window_again : (tz : TimeZone) (from a b : ℤ) → Repeats tz from → from ≤ℤ a → a ≤ℤ b → (b +ℤ pos period) <ℤ repeated_until → window_changes tz (a +ℤ pos period) (b +ℤ pos period) ≡ map again (window_changes tz a b)
window_again tz from a b h low order high =
    let size = nonneg_abs (b -ℤ a) (omega (arith, signed_arith, order)) in
    let as_long : (b +ℤ pos period) -ℤ (a +ℤ pos period) ≡ b -ℤ a = omega (arith, signed_arith) in
    let same : unsigned_abs ((b +ℤ pos period) -ℤ (a +ℤ pos period)) ≡ unsigned_abs (b -ℤ a) = ap unsigned_abs as_long in
    ap (λ m. changes_after (ahead_at tz) (a +ℤ pos period) m) same
    ∙ changes_again (ahead_at tz) a (unsigned_abs (b -ℤ a)) (λ i from_a to. h i (omega (arith, signed_arith, low, from_a)) (omega (arith, signed_arith, to, size, high)))

-- each change of a window lies no later than its last second
changes_until : (f : ℤ → ℤ) (first : ℤ) (n : ℕ) → All (λ (c : ℤ × ℤ). c.0 ≤ℤ (first +ℤ pos n)) (changes_after f first n)
changes_until f first zero = rw (changes_zero f first) (All-nil (λ (c : ℤ × ℤ). c.0 ≤ℤ (first +ℤ pos 0)))
changes_until f first (suc n) =
    let P : ℤ × ℤ → Type 0 = λ c. c.0 ≤ℤ (first +ℤ pos (suc n)) in
    let a : ℤ = first +ℤ pos (suc n) in
    let rest : All P (changes_after f first n) = All-weaker (λ (c : ℤ × ℤ). c.0 ≤ℤ (first +ℤ pos n)) P (λ c le. omega (arith, signed_arith, le)) (changes_after f first n) (changes_until f first n) in
    let one : All P (change_at f a) = elim (int_eq (f a) (f (a -ℤ pos 1))) as (λ b. All P (cond b [] ((a, f a) ∷ []))) [
      | true ↦ All-nil P
      | false ↦ All-cons P (a, f a) [] (omega (arith, signed_arith)) (All-nil P)
    ] in
    rw (changes_more f first n) (All-append P (changes_after f first n) (change_at f a) rest one)

pub window_until : (tz : TimeZone) (first last : ℤ) → first ≤ℤ last → All (λ (c : ℤ × ℤ). c.0 ≤ℤ last) (window_changes tz first last)
window_until tz first last order =
    let size = nonneg_abs (last -ℤ first) (omega (arith, signed_arith, order)) in
    All-weaker (λ (c : ℤ × ℤ). c.0 ≤ℤ (first +ℤ pos (unsigned_abs (last -ℤ first)))) (λ (c : ℤ × ℤ). c.0 ≤ℤ last) (λ c le. omega (arith, signed_arith, le, size)) (window_changes tz first last) (changes_until (ahead_at tz) first (unsigned_abs (last -ℤ first)))

-- ---- copies

-- an item of a list that grows is the one that it began with
pub copied : (old now more : List (ℤ × ℤ)) (first place : ℕ) (x : ℤ × ℤ) → first ≤ place → place < length old → now ≡ old ++ more → x ≡ get_or now place x → x ≡ get_or (drop first old) (place - first) x
copied old now more first place x low lt is at =
    let from : first + (place - first) ≡ place = omega (arith, low) in
    at ∙ ap (λ l. get_or l place x) is ∙ get_or_append_left old more x place lt ∙ sym (get_or-drop first old (place - first) x ∙ ap (λ i. get_or old i x) from)

-- and is put after it again
pub copied_more : (old now : List (ℤ × ℤ)) (first place : ℕ) (x : ℤ × ℤ) → first ≤ place → place < length old → now ≡ old ++ map again (take (place - first) (drop first old)) → x ≡ get_or now place x
    → now ++ again x ∷ [] ≡ old ++ map again (take (place + 1 - first) (drop first old))
copied_more old now first place x low lt is at =
    let part = drop first old in
    let k : ℕ = place - first in
    let more = map again (take k part) in
    let own : x ≡ get_or part k x = copied old now more first place x low lt is at in
    let size = length-drop first old in
    let next : place + 1 - first ≡ k + 1 = omega (arith, low) in
    let all : map again (take (place + 1 - first) part) ≡ more ++ again x ∷ [] = ap (λ n. map again (take n part)) next ∙ map_more again part k x (omega (arith, size, low, lt)) ∙ ap (λ y. more ++ again y ∷ []) (sym own) in
    ap (λ l. l ++ again x ∷ []) is ∙ append_assoc old more (again x ∷ []) ∙ ap (λ l. old ++ l) (sym all)

-- an item lies no later than those that are copied do
pub copied_until : (old now more : List (ℤ × ℤ)) (first place : ℕ) (x : ℤ × ℤ) (last : ℤ) → first ≤ place → place < length old → now ≡ old ++ more → x ≡ get_or now place x → All (λ (c : ℤ × ℤ). c.0 ≤ℤ last) (drop first old) → x.0 ≤ℤ last
copied_until old now more first place x last low lt is at held =
    let size = length-drop first old in
    subst (λ (y : ℤ × ℤ). y.0 ≤ℤ last) (sym (copied old now more first place x low lt is at)) (held (place - first) x (omega (arith, size, low, lt)))

-- ---- periods

-- the last stretch of changes, where all of them were told in two
pub last_part : (front part all : List (ℤ × ℤ)) (n count : ℕ) → all ≡ front ++ part → n ≡ length all → count ≡ length part → drop (n - count) all ≡ part
last_part front part all n count is size as_many =
    let both = length-append front part in
    let at : n - count ≡ length front = omega (arith, size, ap length is, both, as_many) in
    ap (λ k. drop k all) at ∙ ap (λ l. drop (length front) l) is ∙ drop_at front part (length front) refl

-- the changes of one period more
pub period_more : (tz : TimeZone) (first end : ℤ) (old items more : List (ℤ × ℤ)) → Repeats tz first → (first +ℤ pos period) ≤ℤ end → (end +ℤ pos period) <ℤ repeated_until
    → items ≡ (old ++ window_changes tz first (end -ℤ pos period)) ++ window_changes tz (end -ℤ pos period) end
    → more ≡ items ++ map again (window_changes tz (end -ℤ pos period) end)
    → more ≡ (old ++ window_changes tz first end) ++ window_changes tz end (end +ℤ pos period)
period_more tz first end old items more repeats from until is and_more =
    let begin : ℤ = end -ℤ pos period in
    let back : begin +ℤ pos period ≡ end = omega (arith, signed_arith) in
    let next : map again (window_changes tz begin end) ≡ window_changes tz end (end +ℤ pos period) =
    sym (window_again tz first begin end repeats (omega (arith, signed_arith, from)) (omega (arith, signed_arith)) until) ∙ ap (λ (i : ℤ). window_changes tz i (end +ℤ pos period)) back in
    let joined : items ≡ old ++ window_changes tz first end = is ∙ joined_part tz first begin end old (omega (arith, signed_arith, from)) (omega (arith, signed_arith)) in
    and_more ∙ ap (λ l. l ++ map again (window_changes tz begin end)) joined ∙ ap (λ l. (old ++ window_changes tz first end) ++ l) next

-- as many as in the period before
pub period_count : (tz : TimeZone) (first end : ℤ) → Repeats tz first → (first +ℤ pos period) ≤ℤ end → (end +ℤ pos period) <ℤ repeated_until → length (window_changes tz end (end +ℤ pos period)) ≡ length (window_changes tz (end -ℤ pos period) end)
period_count tz first end repeats from until =
    let begin : ℤ = end -ℤ pos period in
    let back : begin +ℤ pos period ≡ end = omega (arith, signed_arith) in
    let next = window_again tz first begin end repeats (omega (arith, signed_arith, from)) (omega (arith, signed_arith)) until in
    ap (λ (i : ℤ). length (window_changes tz i (end +ℤ pos period))) (sym back) ∙ ap length next ∙ length-map (window_changes tz begin end) again

-- so many were added
pub part_count : (old part all : List (ℤ × ℤ)) (n before : ℕ) → all ≡ old ++ part → n ≡ length all → before ≡ length old → n - before ≡ length part
part_count old part all n before is size at = omega (arith, ap length is, length-append old part, size, at)
