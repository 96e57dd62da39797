-- The first of those that are meant, unit by unit: in years, months and days, and in hours, minutes and seconds. The first has the first
-- number of the greatest unit, and is the first of those that have it.
use Rattle.std.proofs.Common.{◌≡◌, ◌⊎◌, ◌↔◌, inl, inr, ℕ, Option, Some, None, refl, sym, subst, ap, ◌∙◌, arith, ℤ, pos, negsuc, ◌-ℤ◌}
use Rattle.jiff_core.proofs.SignedLemmas.{signed_arith}
use Rattle.croner_base.specs.declared.time.Direction.{Direction}
use Rattle.croner_pattern.specs.Directions.{along, Precedes, Reaches}
use Rattle.croner_pattern.specs.Private.Cursor.{one_on, IsNearest, NoneOn, FindsNearest, IsForemost, FindsForemost, IsFrom, IsAt}
use Rattle.croner_pattern.proofs.civil.Ahead.{same_or_ahead, along-offset, past_zero}

-- what is found among these is found among those
abbrev pub Leads : {X : Type 0} → (X → ℤ) → Direction → (X → Type 0) → (X → Type 0) → Type 0
Leads {X} place dir All Now = (r : Option X) → FindsForemost place Now dir r → FindsForemost place All dir r

pub alike : {X : Type 0} (place : X → ℤ) (dir : Direction) (All Now : X → Type 0) → ((y : X) → All y → Now y) → ((y : X) → Now y → All y) → Leads place dir All Now
alike place dir All Now on back None f = λ y a. f y (on y a)
alike place dir All Now on back (Some x) f = record { is = back x f.is; first = λ y a. f.first y (on y a) }

-- the first of those that lie from a place on is the nearest from it
pub as_nearest : {X : Type 0} (place : X → ℤ) (dir : Direction) (All Kept : X → Type 0) (from : ℤ) → ((y : X) → Kept y ↔ (All y × Reaches dir from (place y))) → (r : Option X) → FindsForemost place Kept dir r → FindsNearest place All dir from r
as_nearest place dir All Kept from kept None f = λ y on a. f y ((kept y).1 (a, on))
as_nearest place dir All Kept from kept (Some x) f = record {
  on = ((kept x).0 f.is).1;
  is = ((kept x).0 f.is).0;
  first = λ y on a. f.first y ((kept y).1 (a, on));
}

pub same_nearest : {X : Type 0} (place : X → ℤ) (dir : Direction) (All Now : X → Type 0) (from : ℤ) → ((y : X) → Now y ↔ All y) → (r : Option X) → FindsNearest place Now dir from r → FindsNearest place All dir from r
same_nearest place dir All Now from same None f = λ y on a. f y on ((same y).1 a)
same_nearest place dir All Now from same (Some x) f = record { on = f.on; is = (same x).0 f.is; first = λ y on a. f.first y on ((same y).1 a) }

pub same_number : (a b : ℕ) → pos a ≡ pos b → a ≡ b
same_number a b e = omega (arith, signed_arith)

pub beyond : (dir : Direction) (a b : ℤ) → Reaches dir (one_on dir a) b → Precedes dir a b
beyond dir a b r = omega (arith, signed_arith, along-offset dir a 1)

pub up_to : (dir : Direction) (a b : ℤ) → Precedes dir a b → Reaches dir (one_on dir a) b
up_to dir a b r = omega (arith, signed_arith, along-offset dir a 1)

-- ---- by the numbers of one unit

-- each has a number of the unit, which is one of those that are named, and lies before one with a later number
pub record Ladder {X : Type 0} (place : X → ℤ) (dir : Direction) (All : X → Type 0) (key : X → ℤ) (Named : ℕ → Type 0) : Type 0 where
  pub number : X → ℕ
  pub shown : (x : X) → All x → key x ≡ pos (number x)
  pub named : (x : X) → All x → Named (number x)
  pub apart : (a b : X) → All a → All b → Precedes dir (key a) (key b) → Precedes dir (place a) (place b)

module _ {X : Type 0} {place : X → ℤ} {dir : Direction} {All : X → Type 0} {key : X → ℤ} {Named : ℕ → Type 0} (l : Ladder place dir All key Named) where
  -- the first with a number comes before each with that number or a later one
  before : (k : ℤ) (x y : X) → IsForemost place (IsAt All key k) dir x → All y → Reaches dir k (key y) → Reaches dir (place x) (place y)
  before k x y f a r = elim (same_or_ahead dir k (key y) r) [
    | inl same ↦ f.first y (record { among = a; here = sym same })
    | inr later ↦ omega (arith, signed_arith, l.apart x y f.is.among a (subst (λ z. Precedes dir z (key y)) (sym f.is.here) later))
  ]

  -- the first of those with the nearest number that is named, from one on
  pub found : (from : ℤ) (k : ℕ) (x : X) → IsNearest pos Named dir from k → IsForemost place (IsAt All key (pos k)) dir x → IsForemost place (IsFrom All key dir from) dir x
  found from k x n f = record {
    is = record { among = f.is.among; on = subst (Reaches dir from) (sym f.is.here) n.on };
    first = λ y h.
        let e = l.shown y h.among in
        before (pos k) x y f h.among (subst (Reaches dir (pos k)) (sym e) (n.first (l.number y) (subst (Reaches dir from) e h.on) (l.named y h.among)));
  }

  -- the first of those with the first number
  pub begun : (k : ℕ) (x : X) → IsForemost pos Named dir k → IsForemost place (IsAt All key (pos k)) dir x → IsForemost place All dir x
  begun k x n f = record {
    is = f.is.among;
    first = λ y a. before (pos k) x y f a (subst (Reaches dir (pos k)) (sym (l.shown y a)) (n.first (l.number y) (l.named y a)));
  }

  -- the search may begin at the nearest number, also at the nearest of more than those that are named
  pub skipped : (Wider : ℕ → Type 0) → ((n : ℕ) → Named n → Wider n) → (from : ℤ) (k : ℕ) → IsNearest pos Wider dir from k → Leads place dir (IsFrom All key dir from) (IsFrom All key dir (pos k))
  skipped Wider wide from k n =
      alike place dir (IsFrom All key dir from) (IsFrom All key dir (pos k))
      (λ y h.
      let e = l.shown y h.among in
      record { among = h.among; on = subst (Reaches dir (pos k)) (sym e) (n.first (l.number y) (subst (Reaches dir from) e h.on) (wide (l.number y) (l.named y h.among))) })
      (λ y h. record { among = h.among; on = omega (arith, signed_arith, n.on, h.on) })

  -- where none has the nearest number, it goes on with the next one
  pub missed : (from next : ℤ) (k : ℕ) → IsNearest pos Named dir from k → ((x : X) → ¬ (IsAt All key (pos k) x)) → next ≡ one_on dir (pos k) → Leads place dir (IsFrom All key dir from) (IsFrom All key dir next)
  missed from next k n none e r f =
      skipped Named (λ n p. p) from k n r
      (alike place dir (IsFrom All key dir (pos k)) (IsFrom All key dir next)
      (λ y h. elim (same_or_ahead dir (pos k) (key y) h.on) [
        | inl same ↦ absurd (none y (record { among = h.among; here = sym same }))
        | inr later ↦ record { among = h.among; on = subst (λ z. Reaches dir z (key y)) (sym e) (up_to dir (pos k) (key y) later) }
      ])
      (λ y h. record { among = h.among; on = omega (arith, signed_arith, beyond dir (pos k) (key y) (subst (λ z. Reaches dir z (key y)) e h.on)) }) r f)

  -- nothing is left where no number is named, nor before the number 0
  pub none_named : ((n : ℕ) → ¬ (Named n)) → (x : X) → ¬ (All x)
  none_named none x a = none (l.number x) (l.named x a)

  pub ended : (from : ℤ) → NoneOn pos Named dir from → (x : X) → ¬ (IsFrom All key dir from x)
  ended from none x h =
      none (l.number x) (subst (Reaches dir from) (l.shown x h.among) h.on) (l.named x h.among)

  pub spent : (from : ℤ) (k : ℕ) → IsNearest pos Named dir from k → ((x : X) → ¬ (IsAt All key (pos k) x)) → one_on dir (pos k) ≡ negsuc 0 → (x : X) → ¬ (IsFrom All key dir from x)
  spent from k n none e =
      missed from (one_on dir (pos k)) k n none refl None (ended (one_on dir (pos k)) (λ v on is. past_zero dir k v e on))

-- ---- by three units

-- a later number of the greatest unit lies later, with the same one a later number of the next, and with both the same all lie as far apart
-- as their numbers of the least unit
pub record Order {X : Type 0} (dir : Direction) (place high middle low : X → ℤ) : Type 0 where
  pub by_high : (a b : X) → Precedes dir (high a) (high b) → Precedes dir (place a) (place b)
  pub by_middle : (a b : X) → high b ≡ high a → Precedes dir (middle a) (middle b) → Precedes dir (place a) (place b)
  pub by_low : (a b : X) → high b ≡ high a → middle b ≡ middle a → along dir (place b) -ℤ along dir (place a) ≡ along dir (low b) -ℤ along dir (low a)

module _ {X : Type 0} {dir : Direction} {place high middle low : X → ℤ} (o : Order dir place high middle low) where
  pub reach-high : (a b : X) → Reaches dir (place a) (place b) → Reaches dir (high a) (high b)
  reach-high a b r = grind (arith, signed_arith, o.by_high b a)

  pub reach-middle : (a b : X) → high b ≡ high a → Reaches dir (place a) (place b) → Reaches dir (middle a) (middle b)
  reach-middle a b e r = grind (arith, signed_arith, o.by_middle b a (sym e))

  pub place-reach : (a b : X) → Reaches dir (high a) (high b) → (high b ≡ high a → Reaches dir (middle a) (middle b)) → (high b ≡ high a → middle b ≡ middle a → Reaches dir (low a) (low b)) → Reaches dir (place a) (place b)
  place-reach a b h m l = elim (same_or_ahead dir (high a) (high b) h) [
    | inr later ↦ omega (arith, signed_arith, o.by_high a b later)
    | inl e ↦ elim (same_or_ahead dir (middle a) (middle b) (m (sym e))) [
      | inr later ↦ omega (arith, signed_arith, o.by_middle a b (sym e) later)
      | inl f ↦ omega (arith, signed_arith, o.by_low a b (sym e) (sym f), l (sym e) (sym f))
    ]
  ]

  -- what has the same numbers lies nowhere earlier
  pub single : (All : X → Type 0) (h m l : ℤ) (x : X) → All x → high x ≡ h → middle x ≡ m → low x ≡ l → IsForemost place (IsAt (IsAt (IsAt All high h) middle m) low l) dir x
  single All h m l x is eh em el = record {
    is = record { among = record { among = record { among = is; here = eh }; here = em }; here = el };
    first = λ y k. omega (arith, signed_arith, o.by_low x y (k.among.among.here ∙ sym eh) (k.among.here ∙ sym em), ap (along dir) (k.here ∙ sym el));
  }

  -- a place with these numbers, or the next one
  pub record Start (s : X) (from h m l : ℤ) : Type 0 where
    pub high_is : high s ≡ h
    pub middle_is : middle s ≡ m
    pub low_is : along dir l -ℤ along dir (low s) ≡ along dir from -ℤ along dir (place s)
    pub on : Reaches dir (place s) from
    pub at_most_one : Reaches dir from (one_on dir (place s))

  ahead : (key : X → ℤ) (k : ℤ) (x y : X) → key x ≡ k → Reaches dir (one_on dir k) (key y) → Precedes dir (key x) (key y)
  ahead key k x y e r = subst (λ z. Precedes dir z (key y)) (sym e) (beyond dir k (key y) r)

  -- what lies from the start on: in its own two units the least ones from its number on, in its own greatest unit the later ones of the next,
  -- and the later ones of the greatest
  module _ (All : X → Type 0) {s : X} {from h m l : ℤ} (start : Start s from h m l) where
    abbrev Low : X → Type 0
    Low = IsFrom (IsAt (IsAt All high h) middle m) low dir l

    abbrev Middle : X → Type 0
    Middle = IsFrom (IsAt All high h) middle dir (one_on dir m)

    abbrev High : X → Type 0
    High = IsFrom All high dir (one_on dir h)

    part : (y : X) → All y → Reaches dir from (place y) → Low y ⊎ (Middle y ⊎ High y)
    part y a r =
        let on : Reaches dir (place s) (place y) = omega (arith, signed_arith, start.on) in
        elim (same_or_ahead dir h (high y) (subst (λ z. Reaches dir z (high y)) start.high_is (reach-high s y on))) [
          | inr later ↦ inr (inr (record { among = a; on = up_to dir h (high y) later }))
          | inl same ↦
              let e : high y ≡ high s = sym (start.high_is ∙ same) in
              elim (same_or_ahead dir m (middle y) (subst (λ z. Reaches dir z (middle y)) start.middle_is (reach-middle s y e on))) [
                | inr later ↦ inr (inl (record { among = record { among = a; here = sym same }; on = up_to dir m (middle y) later }))
                | inl here ↦ inl (record {
                  among = record { among = record { among = a; here = sym same }; here = sym here };
                  on = omega (arith, signed_arith, start.low_is, o.by_low s y e (sym (start.middle_is ∙ here)));
                })
              ]
        ]

    low_on : (y : X) → Low y → Reaches dir from (place y)
    low_on y k = omega (arith, signed_arith, k.on, start.low_is, o.by_low s y (k.among.among.here ∙ sym start.high_is) (k.among.here ∙ sym start.middle_is))

    middle_on : (y : X) → Middle y → Reaches dir from (place y)
    middle_on y k = omega (arith, signed_arith, start.at_most_one, along-offset dir (place s) 1, o.by_middle s y (k.among.here ∙ sym start.high_is) (ahead middle m s y start.middle_is k.on))

    high_on : (y : X) → High y → Reaches dir from (place y)
    high_on y k = omega (arith, signed_arith, start.at_most_one, along-offset dir (place s) 1, o.by_high s y (ahead high h s y start.high_is k.on))

    pub in_low : (x : X) → IsForemost place Low dir x → IsNearest place All dir from x
    in_low x f = record { on = low_on x f.is; is = f.is.among.among.among; first = λ y r a. first y (part y a r) }
      where
        first : (y : X) → Low y ⊎ (Middle y ⊎ High y) → Reaches dir (place x) (place y)
        first y (inl k) = f.first y k
        first y (inr (inl k)) = omega (arith, signed_arith, o.by_middle x y (k.among.here ∙ sym f.is.among.among.here) (ahead middle m x y f.is.among.here k.on))
        first y (inr (inr k)) = omega (arith, signed_arith, o.by_high x y (ahead high h x y f.is.among.among.here k.on))

    pub in_middle : (x : X) → ((y : X) → ¬ (Low y)) → IsForemost place Middle dir x → IsNearest place All dir from x
    in_middle x none f = record { on = middle_on x f.is; is = f.is.among.among; first = λ y r a. first y (part y a r) }
      where
        first : (y : X) → Low y ⊎ (Middle y ⊎ High y) → Reaches dir (place x) (place y)
        first y (inl k) = absurd (none y k)
        first y (inr (inl k)) = f.first y k
        first y (inr (inr k)) = omega (arith, signed_arith, o.by_high x y (ahead high h x y f.is.among.here k.on))

    pub in_high : (r : Option X) → ((y : X) → ¬ (Low y)) → ((y : X) → ¬ (Middle y)) → FindsForemost place High dir r → FindsNearest place All dir from r
    in_high r none nor = as_nearest place dir All High from (λ y. (λ k. (k.among, high_on y k), λ p. rest y (part y p.0 p.1))) r
      where
        rest : (y : X) → Low y ⊎ (Middle y ⊎ High y) → High y
        rest y (inl k) = absurd (none y k)
        rest y (inr (inl k)) = absurd (nor y k)
        rest y (inr (inr k)) = k
