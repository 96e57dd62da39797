-- The order of the runs that a table's jobs have ahead of an iterator: the nearest first, and of several at one instant that of
-- the lowest place. Private contracts alone cite these definitions.
use Rattle.std.specs.Prelude.{ℕ, ℤ, pos}
use Rattle.std.specs.Cmp.{IsTotalOrder, nat_cmp_total, int_cmp_total, on_total, then_total, back_total}
use Rattle.std.specs.Ordering.{nat_cmp, int_cmp, on, then_cmp, flip_args}
use Rattle.std.specs.declared.cmp.Ordering.{Ordering}
use Rattle.croner_base.specs.declared.time.Direction.{Direction}
use Rattle.croner_base.specs.declared.time.Direction.TheVariants.{Forward, Backward}
use Rattle.croner_base.specs.Zone.{Moment, nanos_of}
use Rattle.croner.specs.declared.crontable.due.Due.{Due}

-- forward runs come before backward ones; no iterator has both
abbrev pub rank : Direction → ℕ
rank Forward = 0
rank Backward = 1

-- where a forward run lies, and where a backward one
abbrev pub forward_nanos : Direction → ℤ → ℤ
forward_nanos Forward n = n
forward_nanos Backward n = pos 0

abbrev pub backward_nanos : Direction → ℤ → ℤ
backward_nanos Forward n = pos 0
backward_nanos Backward n = n

module _ {T : Type 0} (moment : T → Moment) where
  abbrev pub nanos_due : Due T → ℤ
  nanos_due due = nanos_of (moment due.run)

  -- the greater is the nearer, and of two at one instant that of the lower place
  abbrev pub due_cmp : Due T → Due T → Ordering
  due_cmp =
      then_cmp (on (λ due. rank due.direction) nat_cmp) (then_cmp (flip_args (on (λ due. forward_nanos due.direction (nanos_due due)) int_cmp))
      (then_cmp (on (λ due. backward_nanos due.direction (nanos_due due)) int_cmp) (flip_args (on (λ due. due.place) nat_cmp))))

  pub due_cmp_total : IsTotalOrder due_cmp
  due_cmp_total =
      then_total (on_total (λ due. rank due.direction) nat_cmp_total) (then_total (back_total (on_total (λ due. forward_nanos due.direction (nanos_due due)) int_cmp_total))
      (then_total (on_total (λ due. backward_nanos due.direction (nanos_due due)) int_cmp_total) (back_total (on_total (λ due. due.place) nat_cmp_total))))
