-- The zone that holds little is calm where the whole zone is, and what it holds.
use Rattle.std.proofs.Common.{◌≡◌, ap, refl, inl, inr, ◌↔◌, arith, Bool, true, false, ℤ, pos, ◌+ℤ◌, ◌-ℤ◌, ◌<ℤ◌, ◌≤ℤ◌, Option, Some, None, IsSome}
use Rattle.std.proofs.lemmas.Int.{ints, by_lt_z}
use Rattle.croner_base.specs.declared.time.civil.CivilDateTime.{CivilDateTime}
use Rattle.croner_base.specs.declared.time.value.Resolution.{Resolution}
use Rattle.croner_base.specs.declared.time.value.Resolution.TheVariants.{Single, Ambiguous, Gap}
use Rattle.croner_base.specs.Calm.{IsCalm}
use Rattle.croner_base.specs.Civil.{wall_second}
use Rattle.croner_base.specs.Zone.{Zone}
use Rattle.croner_base.proofs.tables.TableTests.{both_parts, le_of, lt_of, le_test, lt_test}
use Rattle.croner.specs.Private.search.Halves.{Break}
use Rattle.croner.proofs.zone.ZoneOrder.{Exactly, calm_of, exact_of, Calm, below_before, above_after}
use Rattle.croner.proofs.zone.GapSides.{unread_is_in_gap}
use Rattle.croner_backends.specs.Narrow.{is_between, is_held, narrowed, narrow, IsHeldBetween}

-- ---- calm

-- what is held is resolved as before
kept_same : (reads : ℤ → ℤ) (low high w : ℤ) (o : Option (Resolution ℤ)) (r : Resolution ℤ) → narrowed reads low high w o ≡ Some r → o ≡ Some r
kept_same reads low high w None r e = e
kept_same reads low high w (Some s) r e =
    let both : (b : Bool) → is_held reads low high w s ≡ b → Some s ≡ Some r =
    elim [ true ↦ λ h. rw h at e | false ↦ λ h. let none = rw h at e in absurd (cc) ] in
    both _ refl

pub narrow_calm : (z : Zone) (low high : ℤ) → IsCalm z → IsCalm (narrow z low high)
narrow_calm z low high calm =
    record {
      exact = λ c r e. calm.exact c r (kept_same z.reads low high (wall_second c) (z.resolves c) r e);
      small = calm.small;
      apart = calm.apart;
      few = calm.few;
    }

-- ---- the sides of a gap

module _ (reads : ℤ → ℤ) (calm : Calm reads) (w d : ℤ) (below : reads (d -ℤ pos 1) <ℤ w) (above : w <ℤ reads d) where
  ends : Break reads (d -ℤ pos 1)
  ends = λ (e : reads (d -ℤ pos 1 +ℤ pos 1) ≡ reads (d -ℤ pos 1) +ℤ pos 1).
      let back : reads (d -ℤ pos 1 +ℤ pos 1) ≡ reads d = ap reads (omega (arith, ints)) in
      omega (arith, ints)

  -- before the gap's end the clock shows less
  pub less_before : (i : ℤ) → i <ℤ d → reads i <ℤ w
  less_before i lt = let low = below_before reads calm (d -ℤ pos 1) i ends (omega (arith, ints)) in omega (arith, ints)

  -- and from it on more
  pub more_after : (i : ℤ) → d ≤ℤ i → w <ℤ reads i
  more_after i le =
      let high = above_after reads calm (d -ℤ pos 1) i ends (omega (arith, ints)) in
      let back : reads (d -ℤ pos 1 +ℤ pos 1) ≡ reads d = ap reads (omega (arith, ints)) in
      omega (arith, ints)

  -- so no instant shows a second of the gap
  pub not_shown : (i : ℤ) → reads i ≡ w → ⊥
  not_shown i e =
      by_lt_z i d
      (λ lt. let less = less_before i lt in absurd (omega (arith, ints)))
      (λ ge. let more = more_after i ge in absurd (omega (arith, ints)))

-- ---- what is held

between_parts : (low high i : ℤ) → is_between low high i ≡ true → (low ≤ℤ i) × (i ≤ℤ high)
between_parts low high i h = let p = both_parts _ _ h in (le_of _ _ p.0, le_of _ _ p.1)

between_test : (low high i : ℤ) → (low ≤ℤ i) × (i ≤ℤ high) → is_between low high i ≡ true
between_test low high i h = let a = le_test _ _ h.0 in let b = le_test _ _ h.1 in rw (a, b)

module _ (reads : ℤ → ℤ) (calm : Calm reads) (low high w : ℤ) where
  pub held_between : (r : Resolution ℤ) → Exactly reads w r → is_held reads low high w r ≡ true → IsHeldBetween reads low high w
  held_between (Single a) named h = λ i of. elim of [
    | inl shows ↦ let same = named.1 i shows in rw same (between_parts low high a h)
    | inr (below, above) ↦ absurd (not_shown reads calm w i below above a named.0)
  ]
  held_between (Ambiguous a b) named h = λ i of.
      let p = both_parts _ _ h in
      elim of [
        | inl shows ↦
            elim (named.3 i shows) [
              | inl same ↦ rw same (between_parts low high a p.0)
              | inr same ↦ rw same (between_parts low high b p.1)
            ]
        | inr (below, above) ↦ absurd (not_shown reads calm w i below above a named.1)
      ]
  held_between Gap named h = λ i of.
      let p = both_parts _ _ h in
      let before : reads (low -ℤ pos 1) <ℤ w = lt_of _ _ p.0 in
      let last : w <ℤ reads high = lt_of _ _ p.1 in
      elim of [
        | inl shows ↦ absurd (named i shows)
        | inr (below, above) ↦ (
          by_lt_z i low
              (λ lt. let more = more_after reads calm w i below above (low -ℤ pos 1) (omega (arith, ints)) in absurd (omega (arith, ints)))
              (λ le. le),
          by_lt_z high i
              (λ lt. let less = less_before reads calm w i below above high lt in absurd (omega (arith, ints)))
              (λ le. le),
        )
      ]

  pub between_held : (r : Resolution ℤ) → Exactly reads w r → IsHeldBetween reads low high w → is_held reads low high w r ≡ true
  between_held (Single a) named h = between_test low high a (h a (inl named.0))
  between_held (Ambiguous a b) named h =
      let x = between_test low high a (h a (inl named.1)) in
      let y = between_test low high b (h b (inl named.2)) in
      rw (x, y) refl
  between_held Gap named h =
      let (p, below, above) = unread_is_in_gap reads calm w named in
      let back : reads (p +ℤ pos 1 -ℤ pos 1) ≡ reads p = ap reads (omega (arith, ints)) in
      let under : reads (p +ℤ pos 1 -ℤ pos 1) <ℤ w = omega (arith, ints) in
      let within = h (p +ℤ pos 1) (inr (under, above)) in
      let x = lt_test _ _ (less_before reads calm w (p +ℤ pos 1) under above (low -ℤ pos 1) (omega (arith, ints))) in
      let y = lt_test _ _ (more_after reads calm w (p +ℤ pos 1) under above high (omega (arith, ints))) in
      rw (x, y) refl

some_held : (reads : ℤ → ℤ) (low high w : ℤ) (r : Resolution ℤ) → IsSome (narrowed reads low high w (Some r)) → is_held reads low high w r ≡ true
some_held reads low high w r some =
    let both : (b : Bool) → is_held reads low high w r ≡ b → b ≡ true =
    elim [ true ↦ λ h. refl | false ↦ λ h. let none = rw h at some in absurd (cc) ] in
    both _ refl

held_some : (reads : ℤ → ℤ) (low high w : ℤ) (r : Resolution ℤ) → is_held reads low high w r ≡ true → IsSome (narrowed reads low high w (Some r))
held_some reads low high w r h = rw h refl

holds_between : (z : Zone) (low high : ℤ) → IsCalm z → (c : CivilDateTime) (o : Option (Resolution ℤ)) → z.resolves c ≡ o → IsSome (narrowed z.reads low high (wall_second c) o) ↔ (IsSome o × IsHeldBetween z.reads low high (wall_second c))
holds_between z low high calm c None e = (λ some. absurd (cc), λ both. absurd (let some = both.0 in cc))
holds_between z low high calm c (Some r) e =
    let named = exact_of z calm c r e in
    let w = wall_second c in (
      λ some. (refl, held_between z.reads (calm_of z calm) low high w r named (some_held z.reads low high w r some)),
      λ both. held_some z.reads low high w r (between_held z.reads (calm_of z calm) low high w r named both.1),
    )

-- a wall second is held where the zone holds it, and all instants that show it, and the end of its gap, lie between
pub narrow_holds : (z : Zone) (low high : ℤ) → IsCalm z → (c : CivilDateTime) → IsSome ((narrow z low high).resolves c) ↔ (IsSome (z.resolves c) × IsHeldBetween z.reads low high (wall_second c))
narrow_holds z low high calm c = holds_between z low high calm c (z.resolves c) refl
