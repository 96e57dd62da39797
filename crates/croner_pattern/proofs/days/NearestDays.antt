-- The nearest working days of targets, as bits: where each target's bit goes.
use Rattle.std.proofs.Common.{◌≡◌, ℕ, zero, suc, ◌+◌, ◌-◌, ◌<◌, ◌≤◌, ◌⊎◌, ◌≢◌, Bool, true, false, not, ◌&&◌, ◌||◌, eqb, ltb, nat_lt, refl, ap, sym, ◌∙◌, arith, inl, inr}
use Rattle.std.specs.List.{list_any, range_with_len}
use Rattle.std.proofs.lemmas.Bool.{and_parts, cases_eq, cases_lt, eqb-true, false≢true}
use Rattle.std.proofs.lemmas.Bool.Decides.{nat_tests}
use Rattle.croner_pattern.specs.Days.{days_of, weekday_of, is_nearest, resolved_day}
use Rattle.croner_pattern.specs.Private.DayBits.{has_bit}
use Rattle.croner_pattern.proofs.days.DayTable.{nearest_is}
use Rattle.croner_pattern.proofs.questions.ScheduledAnswers.{any-true, any-false}

-- a number of a range that passes
pub record PassesInRange (p : ℕ → Bool) (a n : ℕ) : Type 0 where
  value : ℕ
  low : a ≤ value
  high : value < a + n
  hit : p value ≡ true

either : (a b : Bool) → (a || b) ≡ true → (a ≡ true) ⊎ (b ≡ true)
either true b h = inl refl
either false b h = inr h

passes : (p : ℕ → Bool) (a n : ℕ) → list_any p (range_with_len a n) ≡ true → PassesInRange p a n
passes p a zero h = absurd (false≢true h)
passes p a (suc n) h = elim (either (p a) (list_any p (range_with_len (a + 1) n)) h) [
  | inl hit ↦ record { value = a; low = omega arith; high = omega arith; hit = hit }
  | inr rest ↦ let r = passes p (a + 1) n rest in record { value = r.value; low = omega (arith, r.low); high = omega (arith, r.high); hit = r.hit }
]

both_ways : (a b : Bool) → (a ≡ true → b ≡ true) → (b ≡ true → a ≡ true) → a ≡ b
both_ways true b f g = sym (f refl)
both_ways false true f g = g refl
both_ways false false f g = refl

left : (a b : Bool) → a ≡ true → (a || b) ≡ true
left a b h = ap (λ x. x || b) h

right : (a b : Bool) → b ≡ true → (a || b) ≡ true
right true b h = refl
right false b h = h

both : (a b : Bool) → a ≡ true → b ≡ true → (a && b) ≡ true
both a b h k = ap (λ x. x && b) h ∙ k

-- the three sets of weekdays
record WeekdaySets (w : ℕ) : Type 0 where
  saturday : has_bit 64 w ≡ eqb w 6
  sunday : has_bit 1 w ≡ eqb w 0
  working : has_bit 62 w ≡ (not (eqb w 0) && not (eqb w 6))

sets : (w : ℕ) → w < 7 → WeekdaySets w
sets zero h = record { saturday = refl; sunday = refl; working = refl }
sets (suc zero) h = record { saturday = refl; sunday = refl; working = refl }
sets (suc (suc zero)) h = record { saturday = refl; sunday = refl; working = refl }
sets (suc (suc (suc zero))) h = record { saturday = refl; sunday = refl; working = refl }
sets (suc (suc (suc (suc zero)))) h = record { saturday = refl; sunday = refl; working = refl }
sets (suc (suc (suc (suc (suc zero))))) h = record { saturday = refl; sunday = refl; working = refl }
sets (suc (suc (suc (suc (suc (suc zero)))))) h = record { saturday = refl; sunday = refl; working = refl }
sets (suc (suc (suc (suc (suc (suc (suc w))))))) h = absurd (omega arith)

-- where a target goes
goes_back : (len w x : ℕ) → w ≡ 6 → 1 < x → resolved_day len w x ≡ x - 1
goes_back len w x e h = grind (arith, nat_tests)

goes_two_on : (len w : ℕ) → w ≡ 6 → resolved_day len w 1 ≡ 3
goes_two_on len w e = grind (arith, nat_tests)

goes_on : (len w x : ℕ) → w ≡ 0 → x < len → resolved_day len w x ≡ x + 1
goes_on len w x e h = grind (arith, nat_tests)

goes_two_back : (len w : ℕ) → w ≡ 0 → resolved_day len w len ≡ len - 2
goes_two_back len w e = grind (arith, nat_tests)

stays : (len w x : ℕ) → w ≢ 6 → w ≢ 0 → resolved_day len w x ≡ x
stays len w x a b = grind (arith, nat_tests)

-- the target of the month at a place has a weekday of a set
abbrev pub on : (ℕ → Bool) → ℕ → ℕ → ℕ → ℕ → Bool
on t len first set place = nat_lt place len && (t place && has_bit set (weekday_of first (place + 1)))

-- a target goes to the day at a place
abbrev pub arrives : (ℕ → Bool) → ℕ → ℕ → ℕ → Bool
arrives t len first place =
    (((on t len first 62 place || on t len first 64 (1 + place)) || (eqb place 2 && on t len first 64 0))
    || (ltb 0 place && on t len first 1 (place - 1))) || (on t len first 1 (2 + place) && eqb (2 + place) (len - 1))

abbrev pub reached : (ℕ → Bool) → ℕ → ℕ → ℕ → ℕ → Bool
reached t len first day target = t (target - 1) && is_nearest len first target day

record IsTargetOn (t : ℕ → Bool) (len first set place : ℕ) : Type 0 where
  low : place < len
  target : t ((place + 1) - 1) ≡ true
  weekday : has_bit set (weekday_of first (place + 1)) ≡ true

opened : (t : ℕ → Bool) (len first set place : ℕ) → on t len first set place ≡ true → IsTargetOn t len first set place
opened t len first set place h =
    let p = and_parts (nat_lt place len) _ h in
    let q = and_parts (t place) _ p.1 in
    let low = p.0 in
    let back : (place + 1) - 1 ≡ place = omega arith in
    record { low = grind (arith, nat_tests); target = ap t back ∙ q.0; weekday = q.1 }

closed : (t : ℕ → Bool) (len first set place x : ℕ) → x ≡ place + 1 → x ≤ len → t (x - 1) ≡ true → has_bit set (weekday_of first x) ≡ true → on t len first set place ≡ true
closed t len first set place x e high hit is =
    let below : nat_lt place len ≡ true = grind (arith, nat_tests) in
    let back : x - 1 ≡ place = omega arith in
    both (nat_lt place len) _ below (both (t place) _ (ap t (sym back) ∙ hit) (ap (λ y. has_bit set (weekday_of first y)) (sym e) ∙ is))

module _ (t : ℕ → Bool) (len first place : ℕ) (short : 28 ≤ len) (long : len ≤ 31) (small : first < 7) (here : place < len) where
  witness : (x : ℕ) → 1 ≤ x → x ≤ len → t (x - 1) ≡ true → resolved_day len (weekday_of first x) x ≡ place + 1 → list_any (reached t len first (place + 1)) (days_of len) ≡ true
  witness x low high hit e =
      let same : eqb (place + 1) (resolved_day len (weekday_of first x) x) ≡ true = ap (eqb (place + 1)) e ∙ (let r : eqb (place + 1) (place + 1) ≡ true = grind (arith, nat_tests) in r) in
      any-true (reached t len first (place + 1)) 1 len x low (omega arith)
      (both (t (x - 1)) _ hit (nearest_is len first x (place + 1) short long small low high (omega arith) (omega arith) ∙ same))

  weekday : (x : ℕ) → WeekdaySets (weekday_of first x)
  weekday x = sets (weekday_of first x) (omega arith)

  six : (x : ℕ) → has_bit 64 (weekday_of first x) ≡ true → weekday_of first x ≡ 6
  six x h = eqb-true _ _ (sym (weekday x).saturday ∙ h)

  none : (x : ℕ) → has_bit 1 (weekday_of first x) ≡ true → weekday_of first x ≡ 0
  none x h = eqb-true _ _ (sym (weekday x).sunday ∙ h)

  work : (w : ℕ) → (not (eqb w 0) && not (eqb w 6)) ≡ true → (w ≢ 6) × (w ≢ 0)
  work w h = (grind (arith, nat_tests), grind (arith, nat_tests))

  from_working : on t len first 62 place ≡ true → list_any (reached t len first (place + 1)) (days_of len) ≡ true
  from_working h =
      let o = opened t len first 62 place h in
      let w = work (weekday_of first (place + 1)) (sym (weekday (place + 1)).working ∙ o.weekday) in
      witness (place + 1) (omega arith) (omega arith) o.target (stays len (weekday_of first (place + 1)) (place + 1) w.0 w.1)

  from_saturday : on t len first 64 (1 + place) ≡ true → list_any (reached t len first (place + 1)) (days_of len) ≡ true
  from_saturday h =
      let o = opened t len first 64 (1 + place) h in
      let low = o.low in
      witness ((1 + place) + 1) (omega arith) (omega arith) o.target
      (goes_back len (weekday_of first ((1 + place) + 1)) ((1 + place) + 1) (six ((1 + place) + 1) o.weekday) (omega arith) ∙ omega arith)

  from_first : (eqb place 2 && on t len first 64 0) ≡ true → list_any (reached t len first (place + 1)) (days_of len) ≡ true
  from_first h =
      let p = and_parts (eqb place 2) _ h in
      let at = eqb-true place 2 p.0 in
      let o = opened t len first 64 0 p.1 in
      witness 1 (omega arith) (omega arith) o.target (goes_two_on len (weekday_of first 1) (six 1 o.weekday) ∙ omega arith)

  from_sunday : (ltb 0 place && on t len first 1 (place - 1)) ≡ true → list_any (reached t len first (place + 1)) (days_of len) ≡ true
  from_sunday h =
      let p = and_parts (ltb 0 place) _ h in
      let above : 0 < place = (let q = p.0 in grind (arith, nat_tests)) in
      let o = opened t len first 1 (place - 1) p.1 in
      witness ((place - 1) + 1) (omega arith) (omega arith) o.target
      (goes_on len (weekday_of first ((place - 1) + 1)) ((place - 1) + 1) (none ((place - 1) + 1) o.weekday) (omega arith) ∙ omega arith)

  from_last : (on t len first 1 (2 + place) && eqb (2 + place) (len - 1)) ≡ true → list_any (reached t len first (place + 1)) (days_of len) ≡ true
  from_last h =
      let p = and_parts (on t len first 1 (2 + place)) _ h in
      let at = eqb-true (2 + place) (len - 1) p.1 in
      let o = opened t len first 1 (2 + place) p.0 in
      let end : (2 + place) + 1 ≡ len = omega arith in
      witness ((2 + place) + 1) (omega arith) (omega arith) o.target
      (ap (resolved_day len (weekday_of first ((2 + place) + 1))) end ∙ goes_two_back len (weekday_of first ((2 + place) + 1)) (none ((2 + place) + 1) o.weekday) ∙ omega arith)

  forth : arrives t len first place ≡ true → list_any (reached t len first (place + 1)) (days_of len) ≡ true
  forth h = elim (either _ _ h) [
    | inr e ↦ from_last e
    | inl h4 ↦ elim (either _ _ h4) [
      | inr d ↦ from_sunday d
      | inl h3 ↦ elim (either _ _ h3) [
        | inr c ↦ from_first c
        | inl h2 ↦ elim (either _ _ h2) [
          | inr b ↦ from_saturday b
          | inl a ↦ from_working a
        ]
      ]
    ]
  ]

  -- a target that arrives comes from one of the five
  to_first : (x : ℕ) → x ≤ 1 → 1 ≤ x → t (x - 1) ≡ true → weekday_of first x ≡ 6 → place + 1 ≡ resolved_day len (weekday_of first x) x → arrives t len first place ≡ true
  to_first x high low hit w e =
      let one : x ≡ 1 = omega arith in
      let three : place + 1 ≡ 3 = e ∙ ap (λ y. resolved_day len (weekday_of first x) y) one ∙ goes_two_on len (weekday_of first x) w in
      let is : has_bit 64 (weekday_of first x) ≡ true = ap (has_bit 64) w in
      let at : eqb place 2 ≡ true = grind (arith, nat_tests) in
      left _ _ (left _ _ (right (on t len first 62 place || on t len first 64 (1 + place)) _ (both (eqb place 2) _ at (closed t len first 64 0 x one (omega arith) hit is))))

  to_saturday : (x : ℕ) → 1 < x → x ≤ len → t (x - 1) ≡ true → weekday_of first x ≡ 6 → place + 1 ≡ resolved_day len (weekday_of first x) x → arrives t len first place ≡ true
  to_saturday x low high hit w e =
      let back : place + 1 ≡ x - 1 = e ∙ goes_back len (weekday_of first x) x w low in
      left _ _ (left _ _ (left _ _ (right (on t len first 62 place) _ (closed t len first 64 (1 + place) x (omega arith) high hit (ap (has_bit 64) w)))))

  to_sunday : (x : ℕ) → 1 ≤ x → x < len → t (x - 1) ≡ true → weekday_of first x ≡ 0 → place + 1 ≡ resolved_day len (weekday_of first x) x → arrives t len first place ≡ true
  to_sunday x low high hit w e =
      let on_is : place + 1 ≡ x + 1 = e ∙ goes_on len (weekday_of first x) x w high in
      let above : ltb 0 place ≡ true = grind (arith, nat_tests) in
      left _ _ (right ((on t len first 62 place || on t len first 64 (1 + place)) || (eqb place 2 && on t len first 64 0)) _
      (both (ltb 0 place) _ above (closed t len first 1 (place - 1) x (omega arith) (omega arith) hit (ap (has_bit 1) w))))

  to_last : (x : ℕ) → len ≤ x → x ≤ len → t (x - 1) ≡ true → weekday_of first x ≡ 0 → place + 1 ≡ resolved_day len (weekday_of first x) x → arrives t len first place ≡ true
  to_last x low high hit w e =
      let last : x ≡ len = omega arith in
      let back : place + 1 ≡ len - 2 = e ∙ ap (λ y. resolved_day len (weekday_of first x) y) last ∙ goes_two_back len (weekday_of first x) w in
      let at : eqb (2 + place) (len - 1) ≡ true = grind (arith, nat_tests) in
      right (((on t len first 62 place || on t len first 64 (1 + place)) || (eqb place 2 && on t len first 64 0)) || (ltb 0 place && on t len first 1 (place - 1))) _
      (both (on t len first 1 (2 + place)) _ (closed t len first 1 (2 + place) x (omega arith) high hit (ap (has_bit 1) w)) at)

  off : (w : ℕ) → w ≢ 6 → w ≢ 0 → (not (eqb w 0) && not (eqb w 6)) ≡ true
  off w a b = grind (arith, nat_tests)

  to_working : (x : ℕ) → x ≤ len → t (x - 1) ≡ true → weekday_of first x ≢ 6 → weekday_of first x ≢ 0 → place + 1 ≡ resolved_day len (weekday_of first x) x → arrives t len first place ≡ true
  to_working x high hit a b e =
      let is : place + 1 ≡ x = e ∙ stays len (weekday_of first x) x a b in
      left _ _ (left _ _ (left _ _ (left _ _ (closed t len first 62 place x (sym is) high hit ((weekday x).working ∙ off (weekday_of first x) a b)))))

  back : list_any (reached t len first (place + 1)) (days_of len) ≡ true → arrives t len first place ≡ true
  back h =
      let r = passes (reached t len first (place + 1)) 1 len h in
      let x = r.value in
      let low = r.low in
      let high : x ≤ len = omega (arith, r.high) in
      let p = and_parts (t (x - 1)) _ r.hit in
      let e : place + 1 ≡ resolved_day len (weekday_of first x) x = eqb-true _ _ (sym (nearest_is len first x (place + 1) short long small low high (omega arith) (omega arith)) ∙ p.1) in
      elim (cases_eq (weekday_of first x) 6) [
        | inl w ↦ elim (cases_lt 1 x) [
          | inl more ↦ to_saturday x more high p.0 w e
          | inr one ↦ to_first x one low p.0 w e
        ]
        | inr a ↦ elim (cases_eq (weekday_of first x) 0) [
          | inl w ↦ elim (cases_lt x len) [
            | inl more ↦ to_sunday x low more p.0 w e
            | inr end ↦ to_last x end high p.0 w e
          ]
          | inr b ↦ to_working x high p.0 a b e
        ]
      ]

  pub arrives-is : arrives t len first place ≡ list_any (reached t len first (place + 1)) (days_of len)
  arrives-is = both_ways _ _ forth back

pub no_target : (t : ℕ → Bool) (len first day : ℕ) → ((x : ℕ) → t x ≡ false) → list_any (reached t len first day) (days_of len) ≡ false
no_target t len first day h = any-false (reached t len first day) 1 len (λ x low high. ap (λ b. b && is_nearest len first x day) (h (x - 1)))
