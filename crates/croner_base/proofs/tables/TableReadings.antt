-- What the clock of a calm table reads, and which instants read a wall second.
use Rattle.std.proofs.Common.{◌≡◌, ◌↔◌, ◌⊎◌, inl, inr, ◌∙◌, true, false, refl, arith, ℕ, zero, suc, ◌<◌, ◌≤◌, ℤ, pos, ◌+ℤ◌, ◌-ℤ◌, ◌<ℤ◌, ◌≤ℤ◌, int_le, List, [], ◌∷◌, length, get_or}
use Rattle.std.proofs.lemmas.Int.{ints, to_z-of_z, by_lt_z}
use Rattle.jiff_core.proofs.SignedLemmas.{signed_arith}
use Rattle.croner_base.specs.declared.time.value.Resolution.{Resolution}
use Rattle.croner_base.specs.declared.time.value.Resolution.TheVariants.{Single, Ambiguous, Gap}
use Rattle.croner_base.specs.Calm.{NamesAll}
use Rattle.croner_base.specs.Limits.{apart_limit}
use Rattle.croner_base.specs.Zone.{Zone}
use Rattle.croner_base.specs.Table.{is_apart, are_changes, offset_at, is_offset, is_calm_table, offset_limit}
use Rattle.croner_base.specs.Private.TableSteps.{offset_past, IsCountUntil}
use Rattle.croner_base.specs.TableZone.{clock, clock_reads, instants_around, instants_of}
use Rattle.croner_base.proofs.tables.TableCheck.{first_change, calm_parts}
use Rattle.croner_base.proofs.tables.TableOffsets.{offset_within, stays}
use Rattle.croner_base.proofs.tables.TableTests.{lt_of, le_of, le_test, le_false, lt_test, lt_false, lt_tells, offset_bounds}

-- the others lie after the first change
pub apart_after : (c : ℤ × ℤ) (cs : List (ℤ × ℤ)) (j : ℕ) (d : ℤ × ℤ) → j < length cs → is_apart c cs ≡ true → are_changes c.1 cs ≡ true → c.0 <ℤ (get_or cs j d).0
apart_after c [] j d lt a h = absurd (omega arith)
apart_after c (e ∷ es) zero d lt a h = let l = lt_of (c.0 +ℤ pos apart_limit) e.0 a in omega (arith, signed_arith, l)
apart_after c (e ∷ es) (suc j) d lt a h =
    let l = lt_of (c.0 +ℤ pos apart_limit) e.0 a in
    let f = first_change c.1 e es h in
    let r = apart_after e es j d (omega arith) f.apart f.rest in
    omega (arith, signed_arith, l, r)

ascending : (o : ℤ) (cs : List (ℤ × ℤ)) (i j : ℕ) (d : ℤ × ℤ) → i ≤ j → j < length cs → are_changes o cs ≡ true → (get_or cs i d).0 ≤ℤ (get_or cs j d).0
ascending o [] i j d le lt h = absurd (omega arith)
ascending o (c ∷ cs) zero zero d le lt h = omega (arith, signed_arith)
ascending o (c ∷ cs) zero (suc j) d le lt h =
    let f = first_change o c cs h in
    let r = apart_after c cs j d (omega arith) f.apart f.rest in
    omega (arith, signed_arith, r)
ascending o (c ∷ cs) (suc i) zero d le lt h = absurd (omega arith)
ascending o (c ∷ cs) (suc i) (suc j) d le lt h = ascending c.1 cs i j d (omega arith) (omega arith) (first_change o c cs h).rest

each_offset : (o : ℤ) (cs : List (ℤ × ℤ)) (j : ℕ) (d : ℤ × ℤ) → j < length cs → are_changes o cs ≡ true → is_offset (get_or cs j d).1 ≡ true
each_offset o [] j d lt h = absurd (omega arith)
each_offset o (c ∷ cs) zero d lt h = (first_change o c cs h).offset_in
each_offset o (c ∷ cs) (suc j) d lt h = each_offset c.1 cs j d (omega arith) (first_change o c cs h).rest

-- the changes rise, so those at or before an instant come first
pub at_or_before_first : (o : ℤ) (cs : List (ℤ × ℤ)) (i : ℤ) (d : ℤ × ℤ) → is_calm_table o cs ≡ true → (j k : ℕ) → j ≤ k → k < length cs → int_le (get_or cs k d).0 i ≡ true → int_le (get_or cs j d).0 i ≡ true
at_or_before_first o cs i d h j k le lt up =
    let a = ascending o cs j k d le lt (calm_parts o cs h).changes in
    let b = le_of (get_or cs k d).0 i up in
    le_test _ i (omega (arith, signed_arith, a, b))

-- the point between the changes at or before an instant and the others
pub count_until : (cs : List (ℤ × ℤ)) (i : ℤ) (n : ℕ) → n ≤ length cs → ((k : ℕ) (d : ℤ × ℤ) → 0 ≤ k → k < n → int_le (get_or cs k d).0 i ≡ true) → ((k : ℕ) (d : ℤ × ℤ) → n ≤ k → k < length cs → int_le (get_or cs k d).0 i ≡ false) → IsCountUntil cs i n
count_until [] i n le p q = omega arith
count_until (c ∷ cs) i zero le p q = let past = q 0 c (omega arith) (omega arith) in grind (arith, ints, past)
count_until (c ∷ cs) i (suc n) le p q = (
  le_of c.0 i (p 0 c (omega arith) (omega arith)),
  count_until cs i n (omega arith) (λ k d a l. p (suc k) d (omega arith) (omega arith)) (λ k d a l. q (suc k) d (omega arith) (omega arith)),
)

past_shift : (o : ℤ) (c : ℤ × ℤ) (cs : List (ℤ × ℤ)) (n : ℕ) → offset_past c.1 cs n ≡ offset_past o (c ∷ cs) (suc n)
past_shift o c cs zero = refl
past_shift o c cs (suc n) = refl

-- the offset in force is the one after the changes at or before the instant
pub offset_by_count : (o : ℤ) (cs : List (ℤ × ℤ)) (i : ℤ) (n : ℕ) → IsCountUntil cs i n → offset_at o cs i ≡ offset_past o cs n
offset_by_count o [] i zero u = refl
offset_by_count o [] i (suc n) u = absurd (cc)
offset_by_count o (c ∷ cs) i zero u = let t = le_false c.0 i u in rw t
offset_by_count o (c ∷ cs) i (suc n) u = let t = le_test c.0 i u.0 in rw t (offset_by_count c.1 cs i n u.1 ∙ past_shift o c cs n)

-- the first change that is not more than a day before a wall second decides
pub resolved_around : (o : ℤ) (cs : List (ℤ × ℤ)) (w : ℤ) (n : ℕ) → IsCountUntil cs (w -ℤ pos offset_limit -ℤ pos 1) n → n < length cs
    → instants_of o cs w ≡ instants_around (get_or cs n (pos 0, pos 0)).0 (w -ℤ offset_past o cs n) (w -ℤ offset_past o cs (suc n))
resolved_around o [] w n u lt = absurd (omega arith)
resolved_around o (c ∷ cs) w zero u lt = let t = lt_false (c.0 +ℤ pos offset_limit) w (omega (arith, signed_arith, u)) in rw t
resolved_around o (c ∷ cs) w (suc n) u lt =
    let t = lt_test (c.0 +ℤ pos offset_limit) w (omega (arith, signed_arith, u.0)) in
    rw (t, ← past_shift o c cs n) (resolved_around c.1 cs w n u.1 (omega arith))

-- where there is none, the last offset does
pub resolved_last : (o : ℤ) (cs : List (ℤ × ℤ)) (w : ℤ) (n : ℕ) → IsCountUntil cs (w -ℤ pos offset_limit -ℤ pos 1) n → n ≡ length cs → instants_of o cs w ≡ Single (w -ℤ offset_past o cs n)
resolved_last o [] w n u e = rw u
resolved_last o (c ∷ cs) w zero u e = absurd (omega (arith, e))
resolved_last o (c ∷ cs) w (suc n) u e =
    let t = lt_test (c.0 +ℤ pos offset_limit) w (omega (arith, signed_arith, u.0)) in
    rw (t, ← past_shift o c cs n) (resolved_last c.1 cs w n u.1 (omega (arith, e)))

-- each offset of a table is at most a day
-- of a calm table the first offset and that of each change are offsets
pub calm_offsets : (o : ℤ) (cs : List (ℤ × ℤ)) → is_calm_table o cs ≡ true
    → (is_calm_table o cs ≡ true) × (is_offset o ≡ true) × ((k : ℕ) (d : ℤ × ℤ) → k < length cs → is_offset (get_or cs k d).1 ≡ true)
calm_offsets o cs h = (h, (calm_parts o cs h).offset_in, λ k d lt. each_offset o cs k d lt (calm_parts o cs h).changes)

pub ruleset offsets = (ints, to_z-of_z, calm_offsets)

-- at a change and after it the others decide, before it the first offset is in force
pub passed : (o : ℤ) (c : ℤ × ℤ) (cs : List (ℤ × ℤ)) (i : ℤ) → c.0 ≤ℤ i → offset_at o (c ∷ cs) i ≡ offset_at c.1 cs i
passed o c cs i h = let t = le_test c.0 i h in rw t

pub ahead : (o : ℤ) (c : ℤ × ℤ) (cs : List (ℤ × ℤ)) (i : ℤ) → i <ℤ c.0 → offset_at o (c ∷ cs) i ≡ o
ahead o c cs i h = let t = le_false c.0 i h in rw t

-- where a clock reads a wall second, around a change
abbrev ReadsAround : (ℤ → ℤ) → ℤ → ℤ → ℤ → ℤ → Type 0
ReadsAround reads w d early late = (i : ℤ) → (reads i ≡ w) ↔ (((i ≡ early) × (early <ℤ d)) ⊎ ((i ≡ late) × (d ≤ℤ late)))

around_first : (o : ℤ) (c : ℤ × ℤ) (cs : List (ℤ × ℤ)) (w : ℤ) → is_offset o ≡ true → are_changes o (c ∷ cs) ≡ true → w ≤ℤ (c.0 +ℤ pos offset_limit) → ReadsAround (clock_reads o (c ∷ cs)) w c.0 (w -ℤ o) (w -ℤ c.1)
around_first o c cs w in_bounds h near i =
    let f = first_change o c cs h in
    let b = offset_within o (c ∷ cs) i in_bounds h in
    let a = offset_bounds c.1 f.offset_in in
    by_lt_z i c.0
    (λ lt. let e = ahead o c cs i lt in ((λ r. inl (omega (arith, signed_arith, r, e), omega (arith, signed_arith, r, e, lt))), λ h. omega (arith, signed_arith, h, e, lt)))
    (λ ge.
    let e = passed o c cs i ge in
    let late : i ≤ℤ (c.0 +ℤ pos apart_limit) → offset_at o (c ∷ cs) i ≡ c.1 = λ le. e ∙ stays c cs i f.apart le in (
      (λ r. let l = late (omega (arith, signed_arith, r, b, near)) in inr (omega (arith, signed_arith, r, l), omega (arith, signed_arith, r, l, ge))),
      λ h. let l = late (omega (arith, signed_arith, h, a, near, ge)) in omega (arith, signed_arith, h, l, ge),
    ))

names_around : (z : Zone) (w d x y : ℤ) → ReadsAround z.reads w d x y → NamesAll z w (instants_around d x y)
names_around z w d x y s = elim (lt_tells x d) [
  | inl early ↦ elim (lt_tells y d) [
    | inl none ↦ rw (early.0, none.0) (λ i. ((λ r. let h = (s i).0 r in omega (arith, signed_arith, h, none.1)), λ e. (s i).1 (inl (e, early.1))))
    | inr late ↦ rw (early.0, late.0) (
      omega (arith, signed_arith, early.1, late.1),
      λ i. (
        (λ r. elim ((s i).0 r) [ inl p ↦ inl p.0 | inr p ↦ inr p.0 ]),
        λ h. (s i).1 (elim h [ inl e ↦ inl (e, early.1) | inr e ↦ inr (e, late.1) ]),
      ),
    )
  ]
  | inr past ↦ elim (lt_tells y d) [
    | inl none ↦ rw (past.0, none.0) (λ i r. let h = (s i).0 r in absurd (omega (arith, signed_arith, h, past.1, none.1)))
    | inr late ↦ rw (past.0, late.0) (λ i. ((λ r. let h = (s i).0 r in omega (arith, signed_arith, h, past.1)), λ e. (s i).1 (inr (e, late.1))))
  ]
]

-- two clocks that read a second at the same instants
names_alike : (y z : Zone) (w : ℤ) (r : Resolution ℤ) → ((i : ℤ) → (y.reads i ≡ w) ↔ (z.reads i ≡ w)) → NamesAll y w r → NamesAll z w r
names_alike y z w (Single a) same n = λ i. ((λ e. (n i).0 ((same i).1 e)), λ e. (same i).0 ((n i).1 e))
names_alike y z w (Ambiguous a b) same n = (n.0, λ i. ((λ e. (n.1 i).0 ((same i).1 e)), λ e. (same i).0 ((n.1 i).1 e)))
names_alike y z w Gap same n = λ i e. n i ((same i).1 e)

names_from : (o : ℤ) (cs : List (ℤ × ℤ)) (w : ℤ) → is_offset o ≡ true → are_changes o cs ≡ true → NamesAll (clock o cs) w (instants_of o cs w)
unfolding clock
names_from o [] w b h = λ i. ((λ e. omega (arith, signed_arith, e)), λ e. omega (arith, signed_arith, e))
names_from o (c ∷ cs) w b h = elim (lt_tells (c.0 +ℤ pos offset_limit) w) [
  | inl far ↦
      let f = first_change o c cs h in
      let same : (i : ℤ) → (clock_reads c.1 cs i ≡ w) ↔ (clock_reads o (c ∷ cs) i ≡ w) = λ i.
      let x = offset_within c.1 cs i f.offset_in f.rest in
      let y = offset_within o (c ∷ cs) i b h in (
        (λ e. let q = passed o c cs i (omega (arith, signed_arith, e, x, far.1)) in omega (arith, signed_arith, e, q)),
        (λ e. let q = passed o c cs i (omega (arith, signed_arith, e, y, far.1)) in omega (arith, signed_arith, e, q)),
      ) in
      rw far.0 (names_alike (clock c.1 cs) (clock o (c ∷ cs)) w _ same (names_from c.1 cs w f.offset_in f.rest))
  | inr here ↦ rw here.0 (names_around (clock o (c ∷ cs)) w c.0 _ _ (around_first o c cs w b h here.1))
]

-- the resolution of a calm table names all instants of a second
pub names_instants : (o : ℤ) (cs : List (ℤ × ℤ)) (w : ℤ) → is_calm_table o cs ≡ true → NamesAll (clock o cs) w (instants_of o cs w)
names_instants o cs w h =
    let p = calm_parts o cs h in
    names_from o cs w p.offset_in p.changes
