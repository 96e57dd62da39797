-- The changes of an offset: over a stretch without one, at its end, and what the clock of all of them shows.
use Rattle.std.proofs.Common.{◌≡◌, ◌⊎◌, inl, inr, ℕ, zero, suc, ◌+◌, Bool, true, false, cond, refl, sym, ap, ◌∙◌, arith, ℤ, pos, ◌+ℤ◌, ◌-ℤ◌, ◌≤ℤ◌, ◌<ℤ◌, int_eq, int_le, int_lt, List, [], ◌∷◌, ◌++◌, append_assoc, append-nil, unsigned_abs}
use Rattle.std.proofs.lemmas.Bool.Decides.{Decides-int_eq}
use Rattle.std.proofs.lemmas.Int.{by_lt_z}
use Rattle.jiff_core.proofs.SignedLemmas.{signed_arith}
use Rattle.croner_base.specs.Table.{offset_at}
use Rattle.jiff_tz.specs.declared.timezone.TimeZone.{TimeZone}
use Rattle.croner_base.specs.declared.time.table.ClockTable.{ClockTable}
use Rattle.croner_base.specs.Private.ZoneSteps.{IsNextQuestion}
use Rattle.croner_base.specs.TableZone.{HasParts, clock, table_zone}
use Rattle.croner_base.specs.ZoneTable.{IsWindow, ahead_at, change_at, changes_after, window_changes, nearest_in}
use Rattle.croner_base.specs.ZonedZone.{zone_reads}
use Rattle.croner_base.proofs.tables.TableTests.{not_true, le_test, le_false, le_tells, lt_tells, lt_false}
use Rattle.croner_base.proofs.clocks.ZonedMoments.{zone_reads-held}
use Rattle.croner_base.proofs.zones.ZoneYears.{nonneg_abs}

-- the test of two numbers with what it tells
eq_tells : (a b : ℤ) → ((int_eq a b ≡ true) × (a ≡ b)) ⊎ (int_eq a b ≡ false)
eq_tells a b = by (int_eq a b) refl
  where
    by : (t : Bool) → int_eq a b ≡ t → ((int_eq a b ≡ true) × (a ≡ b)) ⊎ (int_eq a b ≡ false)
    by true e = inl (e, (Decides-int_eq a b).0 e)
    by false e = inr e

pub changes_zero : (f : ℤ → ℤ) (first : ℤ) → changes_after f first 0 ≡ []
unfolding changes_after
changes_zero f first = refl

pub changes_more : (f : ℤ → ℤ) (first : ℤ) (n : ℕ) → changes_after f first (suc n) ≡ changes_after f first n ++ change_at f (first +ℤ pos (suc n))
unfolding changes_after
changes_more f first n = refl

-- where the offset stays no change is added
changes_stay : (f : ℤ → ℤ) (first : ℤ) (n k : ℕ) → ((i : ℤ) → (first +ℤ pos n) ≤ℤ i → i ≤ℤ (first +ℤ pos (n + k)) → f i ≡ f (first +ℤ pos n)) → changes_after f first (n + k) ≡ changes_after f first n
changes_stay f first n zero h =
    let none : n + 0 ≡ n = omega arith in
    ap (λ m. changes_after f first m) none
changes_stay f first n (suc k) h =
    let one : n + suc k ≡ suc (n + k) = omega arith in
    let a : ℤ = first +ℤ pos (suc (n + k)) in
    let here = h a (omega (arith, signed_arith)) (omega (arith, signed_arith)) in
    let before = h (a -ℤ pos 1) (omega (arith, signed_arith)) (omega (arith, signed_arith)) in
    let test : int_eq (f a) (f (a -ℤ pos 1)) ≡ true = (Decides-int_eq (f a) (f (a -ℤ pos 1))).1 (here ∙ sym before) in
    let none : change_at f a ≡ [] = rw test refl in
    ap (λ m. changes_after f first m) one ∙ changes_more f first (n + k) ∙ ap (λ l. changes_after f first (n + k) ++ l) none ∙ append-nil (changes_after f first (n + k))
    ∙ changes_stay f first n k (λ i low high. h i low (omega (arith, signed_arith, high)))

-- so over a stretch the change at its end alone is added
pub changes_step : (f : ℤ → ℤ) (first a c : ℤ) → first ≤ℤ a → a <ℤ c → ((i : ℤ) → a ≤ℤ i → i <ℤ c → f i ≡ f a) → changes_after f first (unsigned_abs (c -ℤ first)) ≡ changes_after f first (unsigned_abs (a -ℤ first)) ++ (cond (int_eq (f c) (f a)) [] ((c, f c) ∷ []))
changes_step f first a c low lt stays =
    let n : ℕ = unsigned_abs (a -ℤ first) in
    let k : ℕ = unsigned_abs (c -ℤ a -ℤ pos 1) in
    let na = nonneg_abs (a -ℤ first) (omega (arith, signed_arith, low)) in
    let ka = nonneg_abs (c -ℤ a -ℤ pos 1) (omega (arith, signed_arith, lt)) in
    let ca = nonneg_abs (c -ℤ first) (omega (arith, signed_arith, low, lt)) in
    let is_a : first +ℤ pos n ≡ a = omega (arith, signed_arith, na) in
    let is_c : first +ℤ pos (suc (n + k)) ≡ c = omega (arith, signed_arith, na, ka) in
    let all : unsigned_abs (c -ℤ first) ≡ suc (n + k) = omega (arith, signed_arith, ca, na, ka) in
    let back : f (c -ℤ pos 1) ≡ f a = stays (c -ℤ pos 1) (omega (arith, signed_arith, lt)) (omega (arith, signed_arith)) in
    let stay = changes_stay f first n k (λ i from to. stays i (omega (arith, signed_arith, is_a, from)) (omega (arith, signed_arith, is_c, to)) ∙ ap f (sym is_a)) in
    let last : change_at f (first +ℤ pos (suc (n + k))) ≡ cond (int_eq (f c) (f a)) [] ((c, f c) ∷ []) =
    ap (λ x. change_at f x) is_c ∙ ap (λ v. cond (int_eq (f c) v) [] ((c, f c) ∷ [])) back in
    ap (λ m. changes_after f first m) all ∙ changes_more f first (n + k)
    ∙ ap (λ l. l ++ change_at f (first +ℤ pos (suc (n + k)))) stay ∙ ap (λ l. changes_after f first n ++ l) last

-- past all the changes the offset of the last second is in force
pub offset_past : (f : ℤ → ℤ) (first : ℤ) (n : ℕ) (rest : List (ℤ × ℤ)) (i : ℤ) → (first +ℤ pos n) ≤ℤ i → offset_at (f first) (changes_after f first n ++ rest) i ≡ offset_at (f (first +ℤ pos n)) rest i
offset_past f first zero rest i le =
    let is : first +ℤ pos 0 ≡ first = omega (arith, signed_arith) in
    rw (changes_zero f first, is) refl
offset_past f first (suc n) rest i le =
    let a : ℤ = first +ℤ pos (suc n) in
    let b : ℤ = a -ℤ pos 1 in
    let is : first +ℤ pos n ≡ b = omega (arith, signed_arith) in
    let split : changes_after f first (suc n) ++ rest ≡ changes_after f first n ++ (change_at f a ++ rest) = rw (changes_more f first n) (append_assoc (changes_after f first n) (change_at f a) rest) in
    let past : int_le a i ≡ true = le_test a i le in
    let rest_is : offset_at (f b) (change_at f a ++ rest) i ≡ offset_at (f a) rest i =
    elim (eq_tells (f a) (f b)) [ inl same ↦ rw (same.0, same.1) refl | inr moved ↦ rw (moved, past) refl ] in
    rw split (offset_past f first n (change_at f a ++ rest) i (omega (arith, signed_arith, le)) ∙ rw is rest_is)

-- a change that lies ahead does not count
ahead : (o : ℤ) (cs : List (ℤ × ℤ)) (c : ℤ × ℤ) (i : ℤ) → i <ℤ c.0 → offset_at o (cs ++ c ∷ []) i ≡ offset_at o cs i
ahead o [] c i lt = let t : int_le c.0 i ≡ false = le_false c.0 i lt in rw t refl
ahead o (d ∷ ds) c i lt = elim (le_tells d.0 i) [ inl past ↦ rw past.0 (ahead d.1 ds c i lt) | inr before ↦ rw before.0 refl ]

-- before the first second its offset is in force
pub offset_before : (f : ℤ → ℤ) (first : ℤ) (n : ℕ) (i : ℤ) → i ≤ℤ first → offset_at (f first) (changes_after f first n) i ≡ f first
offset_before f first zero i le = rw (changes_zero f first) refl
offset_before f first (suc n) i le =
    let a : ℤ = first +ℤ pos (suc n) in
    let split = changes_more f first n in
    let rest = offset_before f first n i le in
    rw split (elim (eq_tells (f a) (f (a -ℤ pos 1))) [
      | inl same ↦ rw (same.0, append-nil (changes_after f first n)) rest
      | inr moved ↦ rw moved (ahead (f first) (changes_after f first n) (a, f a) i (omega (arith, signed_arith, le)) ∙ rest)
    ])

-- and up to the last one each second's own
pub offset_within : (f : ℤ → ℤ) (first : ℤ) (n : ℕ) (i : ℤ) → first ≤ℤ i → i ≤ℤ (first +ℤ pos n) → offset_at (f first) (changes_after f first n) i ≡ f i
offset_within f first zero i low high =
    let is : first ≡ i = omega (arith, signed_arith, low, high) in
    rw (changes_zero f first) (ap f is)
offset_within f first (suc n) i low high =
    let a : ℤ = first +ℤ pos (suc n) in
    by_lt_z i a
    (λ lt.
    let rest = offset_within f first n i low (omega (arith, signed_arith, lt)) in
    rw (changes_more f first n) (elim (eq_tells (f a) (f (a -ℤ pos 1))) [
      | inl same ↦ rw (same.0, append-nil (changes_after f first n)) rest
      | inr moved ↦ rw moved (ahead (f first) (changes_after f first n) (a, f a) i lt ∙ rest)
    ]))
    (λ ge.
    let is : a ≡ i = omega (arith, signed_arith, ge, high) in
    let past = offset_past f first (suc n) [] i (omega (arith, signed_arith, is)) in
    ap (λ cs. offset_at (f first) cs i) (sym (append-nil (changes_after f first (suc n)))) ∙ past ∙ ap f is)

-- what the clock of the changes of a window shows at each instant
window_offset : (f : ℤ → ℤ) (first last i : ℤ) → first ≤ℤ last → offset_at (f first) (changes_after f first (unsigned_abs (last -ℤ first))) i ≡ f (nearest_in first last i)
window_offset f first last i order =
    let n : ℕ = unsigned_abs (last -ℤ first) in
    let size = nonneg_abs (last -ℤ first) (omega (arith, signed_arith, order)) in
    let is : first +ℤ pos n ≡ last = omega (arith, signed_arith, size) in
    elim (lt_tells i first) [
      | inl early ↦ rw early.0 (offset_before f first n i (omega (arith, signed_arith, early)))
      | inr from ↦ elim (lt_tells last i) [
        | inr until ↦ rw (from.0, until.0) (offset_within f first n i from.1 (omega (arith, signed_arith, is, until)))
        | inl late ↦
            let past = offset_past f first n [] i (omega (arith, signed_arith, is, late)) in
            rw (from.0, late.0) (ap (λ cs. offset_at (f first) cs i) (sym (append-nil (changes_after f first n))) ∙ past ∙ ap f is)
      ]
    ]

-- the table of a window shows what the zone shows at the nearest second of the window
pub window_beyond : (tz : TimeZone) (first last : ℤ) (t : ClockTable) (i : ℤ) → first ≤ℤ last → HasParts (ahead_at tz first) (window_changes tz first last) t → (table_zone t).reads i ≡ i +ℤ ahead_at tz (nearest_in first last i)
unfolding clock
window_beyond tz first last t i order h = rw (h.first_is, h.changes_are) (ap (λ (o : ℤ). i +ℤ o) (window_offset (ahead_at tz) first last i order))

-- and at its seconds what the zone shows there
pub window_reads : (tz : TimeZone) (first last : ℤ) (t : ClockTable) (i : ℤ) → IsWindow first last → HasParts (ahead_at tz first) (window_changes tz first last) t → first ≤ℤ i → i ≤ℤ last → (table_zone t).reads i ≡ zone_reads tz i
window_reads tz first last t i w h low high =
    let a : int_lt i first ≡ false = lt_false i first low in
    let b : int_lt last i ≡ false = lt_false last i high in
    let own : nearest_in first last i ≡ i = rw (a, b) refl in
    let held = zone_reads-held tz i (omega (arith, signed_arith, w.held_first, low)) (omega (arith, signed_arith, w.held_last, high)) in
    window_beyond tz first last t i w.order h ∙ ap (λ (j : ℤ). i +ℤ ahead_at tz j) own ∙ sym held

-- the changes up to the next question: one more where the offset differs there
pub next_changes : (tz : TimeZone) (first last a c : ℤ) → first ≤ℤ a → IsNextQuestion tz a last c → changes_after (ahead_at tz) first (unsigned_abs (c -ℤ first)) ≡ changes_after (ahead_at tz) first (unsigned_abs (a -ℤ first)) ++ (cond (int_eq (ahead_at tz c) (ahead_at tz a)) [] ((c, ahead_at tz c) ∷ []))
next_changes tz first last a c low h = changes_step (ahead_at tz) first a c low h.later h.stays

-- at the first second there is none
pub no_changes : (f : ℤ → ℤ) (first i : ℤ) → i ≡ first → changes_after f first (unsigned_abs (i -ℤ first)) ≡ []
no_changes f first i e =
    let size = nonneg_abs (i -ℤ first) (omega (arith, signed_arith, e)) in
    let none : unsigned_abs (i -ℤ first) ≡ 0 = omega (arith, signed_arith, e, size) in
    ap (λ m. changes_after f first m) none ∙ changes_zero f first

-- the changes stay where the offset at the next question is the same
pub changes_kept : (tz : TimeZone) (first last a c x y : ℤ) → first ≤ℤ a → IsNextQuestion tz a last c → x ≡ ahead_at tz a → y ≡ ahead_at tz c → y ≡ x → window_changes tz first a ≡ window_changes tz first c
changes_kept tz first last a c x y low q ex ey e =
    let f = ahead_at tz in
    let all : List (ℤ × ℤ) = window_changes tz first a in
    let test : int_eq (f c) (f a) ≡ true = (Decides-int_eq (f c) (f a)).1 (sym ey ∙ e ∙ ex) in
    let none : cond (int_eq (f c) (f a)) [] ((c, f c) ∷ []) ≡ [] = rw test refl in
    let next = next_changes tz first last a c low q in
    let same : all ++ cond (int_eq (f c) (f a)) [] ((c, f c) ∷ []) ≡ all = ap (λ l. all ++ l) none ∙ append-nil all in
    sym (next ∙ same)

-- and are one more where it is not
pub changes_added : (tz : TimeZone) (first last a c x y : ℤ) → first ≤ℤ a → IsNextQuestion tz a last c → x ≡ ahead_at tz a → y ≡ ahead_at tz c → (y ≡ x → ⊥) → window_changes tz first c ≡ window_changes tz first a ++ (c, y) ∷ []
changes_added tz first last a c x y low q ex ey ne =
    let f = ahead_at tz in
    let all : List (ℤ × ℤ) = window_changes tz first a in
    let test : int_eq (f c) (f a) ≡ false = not_true _ (λ h. ne (ey ∙ (Decides-int_eq (f c) (f a)).0 h ∙ sym ex)) in
    let one : cond (int_eq (f c) (f a)) [] ((c, f c) ∷ []) ≡ (c, f c) ∷ [] = rw test refl in
    let next = next_changes tz first last a c low q in
    let same : all ++ cond (int_eq (f c) (f a)) [] ((c, f c) ∷ []) ≡ all ++ (c, f c) ∷ [] = ap (λ l. all ++ l) one in
    let value : all ++ (c, f c) ∷ [] ≡ all ++ (c, y) ∷ [] = ap (λ v. all ++ (c, v) ∷ []) (sym ey) in
    next ∙ same ∙ value
