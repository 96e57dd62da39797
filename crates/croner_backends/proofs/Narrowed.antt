-- What a backend that holds little makes of what the table holds.
use Rattle.std.proofs.Common.{◌≡◌, ◌∙◌, ap, refl, inl, inr, ◌↔◌, Bool, true, false, ◌&&◌, ℤ, ◌+ℤ◌, Option, Some, None, IsTrue, IsSome, IfSome, Result, Ok, Err, IfErr}
use Rattle.croner_base.specs.declared.errors.CronError.{CronError}
use Rattle.croner_base.specs.declared.errors.CronError.TheVariants.{InvalidTime}
use Rattle.croner_base.specs.declared.time.civil.CivilDateTime.{CivilDateTime}
use Rattle.croner_base.specs.declared.time.table.TableTime.{TableTime}
use Rattle.croner_base.specs.declared.time.value.Resolution.{Resolution}
use Rattle.croner_base.specs.declared.time.value.Resolution.TheVariants.{Single, Ambiguous}
use Rattle.croner_base.specs.Civil.{wall_second}
use Rattle.croner_base.specs.Clocked.{IsAtSecond}
use Rattle.croner_base.specs.TableZone.{table_moment}
use Rattle.croner_base.specs.Zone.{Zone, Moment, Names, IsResolved, IsUnheld, IsMoved}
use Rattle.croner_backends.specs.declared.narrow.NarrowTime.{NarrowTime}
use Rattle.croner_backends.specs.Narrow.{is_between, is_held, narrow}
use Rattle.croner_backends.specs.NarrowMoment.{narrow_moment, narrow_second}

-- what a test says of a value that is kept, and of one that is not
pub some_true : {X : Type 0} (x : X) (b : Bool) → IsSome (Some x) ↔ IsTrue b → b ≡ true
some_true x b h = h.0 refl

pub none_false : {X : Type 0} (r : Option X) (b : Bool) → r ≡ None → IsSome r ↔ IsTrue b → b ≡ false
none_false (Some x) b e h = absurd (cc)
none_false None true e h = absurd (cc (h.1 refl))
none_false None false e h = refl

-- a refusal by one error alone
pub refused_as : {X : Type 0} (P : CronError → Type 0) (r : Result X CronError) → P InvalidTime → ((e : CronError) → r ≡ Err e → e ≡ InvalidTime) → IfErr r P
refused_as P (Ok x) h only = tt
refused_as P (Err e) h only = let same = only e refl in rw same h

both_false : (a b : Bool) → b ≡ false → (a && b) ≡ false
both_false true b h = h
both_false false b h = refl

-- ---- what the zone resolves

module _ (z : Zone) (low high : ℤ) (c : CivilDateTime) where
  pub held : (r : Resolution ℤ) → z.resolves c ≡ Some r → is_held z.reads low high (wall_second c) r ≡ true → (narrow z low high).resolves c ≡ Some r
  held r e h = rw (e, h) refl

  pub not_held : (r : Resolution ℤ) → z.resolves c ≡ Some r → is_held z.reads low high (wall_second c) r ≡ false → IsUnheld false (narrow z low high) c InvalidTime
  not_held r e h = inr (inr refl, rw (e, h) refl)

  pub not_resolved : z.resolves c ≡ None → IsUnheld false (narrow z low high) c InvalidTime
  not_resolved e = inr (inr refl, rw e refl)

-- a backend that never lacks memory refuses only what it does not hold
pub unheld_none : (z : Zone) (c : CivilDateTime) (e : CronError) → IsUnheld false z c e → z.resolves c ≡ None
unheld_none z c e (inl lacks) = absurd (cc (lacks.1))
unheld_none z c e (inr other) = other.1

-- ---- what a value names

-- the value is the second of the table, between the two instants
abbrev pub IsKept : ℤ → ℤ → TableTime → NarrowTime → Type 0
IsKept low high x k = narrow_moment k ≡ narrow_second x low high

module _ (z : Zone) (low high : ℤ) where
  pub names_kept : (w : ℤ) (x : TableTime) (k : NarrowTime) → Names table_moment z w x → IsKept low high x k → Names narrow_moment (narrow z low high) w k
  names_kept w x k n e =
      let i : k.time.second ≡ x.second = ap (λ (m : Moment). m.instant) e in
      record {
        zone_is = ap (λ (m : Moment). m.zone) e ∙ ap (λ (v : Zone). narrow v low high) n.zone_is;
        whole = refl;
        reads_it = rw i n.reads_it;
      }

  pub single_kept : (c : CivilDateTime) (x : TableTime) (k : NarrowTime) → IsResolved table_moment z c (Single x) → is_between low high x.second ≡ true → IsKept low high x k → IsResolved narrow_moment (narrow z low high) c (Single k)
  single_kept c x k r h e =
      let i : k.time.second ≡ x.second = ap (λ (m : Moment). m.instant) e in (
        names_kept (wall_second c) x k r.0 e,
        rw i (held z low high c (Single x.second) r.1 h),
      )

  pub two_kept : (c : CivilDateTime) (x y : TableTime) (k l : NarrowTime) → IsResolved table_moment z c (Ambiguous x y) → is_between low high x.second ≡ true → is_between low high y.second ≡ true → IsKept low high x k → IsKept low high y l → IsResolved narrow_moment (narrow z low high) c (Ambiguous k l)
  two_kept c x y k l r h g e f =
      let i : k.time.second ≡ x.second = ap (λ (m : Moment). m.instant) e in
      let j : l.time.second ≡ y.second = ap (λ (m : Moment). m.instant) f in (
        names_kept (wall_second c) x k r.0 e,
        names_kept (wall_second c) y l r.1 f,
        rw (i, j) r.2,
        rw (i, j) (held z low high c (Ambiguous x.second y.second) r.3 (rw (h, g) refl)),
      )

  pub single_out : (c : CivilDateTime) (x : TableTime) → IsResolved table_moment z c (Single x) → is_between low high x.second ≡ false → IsUnheld false (narrow z low high) c InvalidTime
  single_out c x r h = not_held z low high c (Single x.second) r.1 h

  pub first_out : (c : CivilDateTime) (x y : TableTime) → IsResolved table_moment z c (Ambiguous x y) → is_between low high x.second ≡ false → IsUnheld false (narrow z low high) c InvalidTime
  first_out c x y r h = not_held z low high c (Ambiguous x.second y.second) r.3 (rw h refl)

  pub second_out : (c : CivilDateTime) (x y : TableTime) → IsResolved table_moment z c (Ambiguous x y) → is_between low high y.second ≡ false → IsUnheld false (narrow z low high) c InvalidTime
  second_out c x y r h = not_held z low high c (Ambiguous x.second y.second) r.3 (both_false _ _ h)

-- ---- so many seconds later

pub moved_kept : (t : NarrowTime) (x : TableTime) (s : ℤ) (r : Option NarrowTime) → IsMoved table_moment (table_moment t.time) s (Some x) → IsSome r ↔ IsTrue (is_between t.low t.high x.second) → IfSome r (IsKept t.low t.high x) → IsMoved narrow_moment (narrow_moment t) s r
moved_kept t x s (Some k) m h e =
    let i : x.second ≡ t.time.second +ℤ s = ap (λ (v : Moment). v.instant) m.0 in
    let b : is_between t.low t.high x.second ≡ true = some_true k _ h in (
      e ∙ ap (λ (v : Moment). record v { zone = narrow v.zone t.low t.high }) m.0,
      let both : is_between t.low t.high (t.time.second +ℤ s) ≡ true = rw i at b in rw (both, m.1) refl,
    )
moved_kept t x s None m h e =
    let i : x.second ≡ t.time.second +ℤ s = ap (λ (v : Moment). v.instant) m.0 in
    let none : Option NarrowTime = None in
    let b : is_between t.low t.high x.second ≡ false = none_false none _ refl h in
    let out : is_between t.low t.high (t.time.second +ℤ s) ≡ false = rw i at b in rw out refl

pub not_moved : (t : NarrowTime) (s : ℤ) → IsMoved table_moment (table_moment t.time) s None → IsMoved narrow_moment (narrow_moment t) s None
not_moved t s m = both_false _ _ m

-- ---- at a second

pub kept_at : (t : NarrowTime) (x : TableTime) (s : ℤ) (r : Option NarrowTime) → IsAtSecond table_moment (table_moment t.time).zone s (Some x) → IsSome r ↔ IsTrue (is_between t.low t.high x.second) → IfSome r (IsKept t.low t.high x) → IsAtSecond narrow_moment (narrow_moment t).zone s r
kept_at t x s (Some k) m h e =
    let i : x.second ≡ s = ap (λ (v : Moment). v.instant) m.0 in
    let b : is_between t.low t.high x.second ≡ true = some_true k _ h in (
      e ∙ ap (λ (v : Moment). record v { zone = narrow v.zone t.low t.high }) m.0,
      let both : is_between t.low t.high s ≡ true = rw i at b in rw (both, m.1) refl,
    )
kept_at t x s None m h e =
    let i : x.second ≡ s = ap (λ (v : Moment). v.instant) m.0 in
    let none : Option NarrowTime = None in
    let b : is_between t.low t.high x.second ≡ false = none_false none _ refl h in
    let out : is_between t.low t.high s ≡ false = rw i at b in rw out refl

pub not_at : (t : NarrowTime) (s : ℤ) → IsAtSecond table_moment (table_moment t.time).zone s None → IsAtSecond narrow_moment (narrow_moment t).zone s None
not_at t s m = both_false _ _ m
