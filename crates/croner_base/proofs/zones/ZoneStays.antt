-- Up to its next transition, and within one UTC year, a zone of jiff keeps its offset.
use Rattle.std.proofs.Common.{◌≡◌, inl, inr, ℕ, ◌-◌, ◌<◌, true, false, ◌==◌, refl, ap, arith, ℤ, pos, neg_ℤ, ◌≤ℤ◌, ◌<ℤ◌, int_le, int_lt, Option, Some, None, IfSome, length, vec_len}
use Rattle.std.proofs.lemmas.Bool.Decides.{nat_tests}
use Rattle.std.proofs.lemmas.Int.{ints, by_lt_z}
use Rattle.std.proofs.lemmas.List.Sums.{prefix_len_passes, prefix_len-le-length}
use Rattle.jiff_core.specs.Timestamp.{nanos_of_seconds, IsTimestampNanos}
use Rattle.jiff_core.specs.declared.Offset.{Offset}
use Rattle.jiff_core.proofs.SignedLemmas.{signed_arith}
use Rattle.jiff_tz.specs.PosixRule as Posix
use Rattle.jiff_tz.specs.PosixRule.{in_window, ordered, match_some, utc_window}
use Rattle.jiff_tz.specs.Tzif as Table
use Rattle.jiff_tz.specs.Tzif.{count_at, floor_second, transition_at}
use Rattle.jiff_tz.specs.Year.{year_of_nanos}
use Rattle.jiff_tz.specs.Zone as Zone
use Rattle.jiff_tz.specs.declared.posix.Dst.{Dst}
use Rattle.jiff_tz.specs.declared.posix.TimeZone.{TimeZone as Rule}
use Rattle.jiff_tz.specs.declared.timezone.TimeZone.{TimeZone}
use Rattle.jiff_tz.specs.declared.timezone.TimeZone.TheVariants.{UTC, Unknown, Fixed, Posix as OfRule, Tzif as OfTable}
use Rattle.jiff_tz.specs.declared.tzif.Tzif.{Tzif}
use Rattle.jiff_tz.specs.declared.info.OffsetInfo.{OffsetInfo}
use Rattle.jiff_tz.proofs.ZoneTheorems.{count_is}
use Rattle.croner_base.specs.Private.ZoneSteps.{IsHeld, IsYearEnd, IsNextQuestion}
use Rattle.croner_base.specs.ZoneTable.{ahead_at}
use Rattle.croner_base.proofs.tables.TableTests.{le_of, le_test, le_tells, lt_tells}

pub ge_of : (a b : ℤ) → int_lt a b ≡ false → b ≤ℤ a
ge_of a b h = grind (arith, ints)

-- two moments on the same side of both ends of a window
same_side : (w : ℤ × ℤ) (n m : ℤ) → int_le w.0 m ≡ int_le w.0 n → int_le w.1 m ≡ int_le w.1 n → int_lt m w.0 ≡ int_lt n w.0 → int_lt m w.1 ≡ int_lt n w.1 → in_window w m ≡ in_window w n
same_side w n m a b c d = rw (a, b, c, d) refl

-- below the end, both before it
both_before : (w n m : ℤ) → n <ℤ w → m <ℤ w → (int_le w m ≡ int_le w n) × (int_lt m w ≡ int_lt n w)
both_before w n m h k = (grind (arith, ints), grind (arith, ints))

both_past : (w n m : ℤ) → w ≤ℤ n → w ≤ℤ m → (int_le w m ≡ int_le w n) × (int_lt m w ≡ int_lt n w)
both_past w n m h k = (grind (arith, ints), grind (arith, ints))

-- no end of the window lies between the two moments
abbrev IsUncrossed : ℤ → ℤ → ℤ → Type 0
IsUncrossed w n m = (int_le w m ≡ int_le w n) × (int_lt m w ≡ int_lt n w)

window_stays : (w : ℤ × ℤ) (n m : ℤ) → IsUncrossed (ordered w).0 n m → IsUncrossed (ordered w).1 n m → in_window w m ≡ in_window w n
window_stays w n m first last = elim (le_tells w.0 w.1) [
  | inl up ↦ let f = rw up.0 at first in let l = rw up.0 at last in same_side w n m f.0 l.0 f.1 l.1
  | inr down ↦ let f = rw down.0 at first in let l = rw down.0 at last in same_side w n m l.0 f.0 l.1 f.1
]

-- the first end is the earlier one
ordered_up : (w : ℤ × ℤ) → (ordered w).0 ≤ℤ (ordered w).1
ordered_up w = elim (le_tells w.0 w.1) [ inl up ↦ rw up.0 up.1 | inr down ↦ rw down.0 (omega (arith, signed_arith, down)) ]

-- an end after n, if it is an instant, comes after m; so it does if it is none
after_both : (tz : Rule) (d : Dst) (w : ℤ × ℤ) (e n m : ℤ) → IsTimestampNanos n → IsTimestampNanos m → n <ℤ e → IfSome (Posix.transition_of tz d w e) (λ t. m <ℤ t.0) → m <ℤ e
after_both tz d w e n m hn hm after h =
    by_lt_z (pos 253_402_207_200_999_999_999) e
    (λ past. omega (arith, signed_arith, hm, past))
    (λ within.
    let low : int_le (neg_ℤ (pos 377_705_023_201_000_000_000)) e ≡ true = le_test (neg_ℤ (pos 377_705_023_201_000_000_000)) e (omega (arith, signed_arith, hn, after)) in
    let high : int_le e (pos 253_402_207_200_999_999_999) ≡ true = le_test e (pos 253_402_207_200_999_999_999) within in
    let h2 = rw (low, high) at h in
    h2)

-- the two moments lie on one side of both ends
rule_window : (tz : Rule) (d : Dst) (y n m : ℤ) → IsTimestampNanos n → IsTimestampNanos m → n ≤ℤ m → IfSome (Posix.next_by tz d y n) (λ t. m <ℤ t.0) → in_window (utc_window d y tz.std_offset) m ≡ in_window (utc_window d y tz.std_offset) n
rule_window tz d y n m hn hm le h =
    let w = utc_window d y tz.std_offset in
    let a = (ordered w).0 in
    let b = (ordered w).1 in
    let up : a ≤ℤ b = ordered_up w in
    elim (lt_tells n a) [
      | inl before ↦
          let h2 = rw before.0 at h in
          let past = after_both tz d w a n m hn hm before.1 h2 in
          window_stays w n m (both_before a n m before.1 past) (both_before b n m (omega (arith, signed_arith, before, up)) (omega (arith, signed_arith, past, up)))
      | inr from ↦
          let h2 = rw from.0 at h in
          let first = both_past a n m from.1 (omega (arith, signed_arith, from, le)) in
          elim (lt_tells n b) [
            | inl before ↦
                let h3 = rw before.0 at h2 in
                let past = after_both tz d w b n m hn hm before.1 h3 in
                window_stays w n m first (both_before b n m before.1 past)
            | inr until ↦ window_stays w n m first (both_past b n m until.1 (omega (arith, signed_arith, until, le)))
          ]
    ]

-- a rule keeps its offset
abbrev rule_keeps : Rule → Option Dst → ℤ → ℤ → Type 0
rule_keeps tz o n m =
    match_some (Posix.dst_at_by tz.std_offset o m) tz.std_offset (λ d. d.offset) ≡ match_some (Posix.dst_at_by tz.std_offset o n) tz.std_offset (λ d. d.offset)

rule_stays_by : (tz : Rule) (o : Option Dst) (n m : ℤ) → IsTimestampNanos n → IsTimestampNanos m → n ≤ℤ m → year_of_nanos m ≡ year_of_nanos n → IfSome (match_some o None (λ d. Posix.next_by tz d (year_of_nanos n) n)) (λ t. m <ℤ t.0) → rule_keeps tz o n m
rule_stays_by tz None n m hn hm le y h = refl
rule_stays_by tz (Some d) n m hn hm le y h =
    let e = rule_window tz d (year_of_nanos n) n m hn hm le h in
    rw (y, e) refl

pub rule_stays : (tz : Rule) (n m : ℤ) → IsTimestampNanos n → IsTimestampNanos m → n ≤ℤ m → year_of_nanos m ≡ year_of_nanos n → IfSome (Posix.next_at tz n) (λ t. m <ℤ t.0) → Posix.offset_at tz m ≡ Posix.offset_at tz n
rule_stays tz n m hn hm le y h = rule_stays_by tz tz.dst n m hn hm le y h

-- between two rows of a table as many rows are passed
count_stays : (z : Tzif) (s t : ℤ) → s ≤ℤ t → (count_at z s < length z.transitions.items → t <ℤ (transition_at z (count_at z s)).second) → count_at z t ≡ count_at z s
count_stays z s t le next =
    count_is z t (count_at z s) (prefix_len-le-length _ z.transitions.items)
    (λ some.
    let pass = prefix_len_passes (λ r. int_le r.second s) z.transitions.items (count_at z s - 1) (Table.no_transition z) (omega (arith, some)) in
    let under = le_of (transition_at z (count_at z s - 1)).second s pass in
    omega (arith, signed_arith, under, le))
    next

table_stays_by : (z : Tzif) (o : Option Rule) (k : ℕ) (n m : ℤ) → IsTimestampNanos n → IsTimestampNanos m → n ≤ℤ m → year_of_nanos m ≡ year_of_nanos n → IfSome (match_some o None (λ tz. Posix.next_at tz n)) (λ t. m <ℤ t.0) → match_some o (Table.type_after z k).offset (λ tz. Posix.offset_at tz m) ≡ match_some o (Table.type_after z k).offset (λ tz. Posix.offset_at tz n)
table_stays_by z None k n m hn hm le y h = refl
table_stays_by z (Some tz) k n m hn hm le y h = rule_stays tz n m hn hm le y h

-- so does a table with a rule after it
pub table_stays : (z : Tzif) (n m : ℤ) → IsTimestampNanos n → IsTimestampNanos m → n ≤ℤ m → year_of_nanos m ≡ year_of_nanos n → IfSome (Table.next_at z n) (λ t. m <ℤ t.0) → Table.offset_at z m ≡ Table.offset_at z n
table_stays z n m hn hm le y h =
    let k = count_at z (floor_second n) in
    elim (k == vec_len z.transitions) as (λ b. (k == vec_len z.transitions) ≡ b → Table.offset_at z m ≡ Table.offset_at z n) [
      | true ↦ λ e.
          let all : k ≡ length z.transitions.items = grind (arith, nat_tests, e, z.transitions.ok.0) in
          let count : count_at z (floor_second m) ≡ k = count_stays z (floor_second n) (floor_second m) (omega (arith, signed_arith, le)) (λ l. absurd (omega (arith, all, l))) in
          let h2 = rw e at h in
          rw (count, e) (table_stays_by z z.posix_tz k n m hn hm le y h2)
      | false ↦ λ e.
          let h2 = rw e at h in
          let count : count_at z (floor_second m) ≡ k = count_stays z (floor_second n) (floor_second m) (omega (arith, signed_arith, le)) (λ l. omega (arith, signed_arith, h2)) in
          rw (count, e) refl
    ] refl

-- and so does every zone
pub zone_stays : (tz : TimeZone) (n m : ℤ) → IsTimestampNanos n → IsTimestampNanos m → n ≤ℤ m → year_of_nanos m ≡ year_of_nanos n → IfSome (Zone.next_at tz n) (λ t. m <ℤ t.0) → Zone.offset_at tz m ≡ Zone.offset_at tz n
unfolding Zone.offset_at Zone.next_at
zone_stays UTC n m hn hm le y h = refl
zone_stays Unknown n m hn hm le y h = refl
zone_stays (Fixed offset) n m hn hm le y h = refl
zone_stays (OfRule tz) n m hn hm le y h = ap (λ (o : Offset). o.seconds) (rule_stays tz n m hn hm le y h)
zone_stays (OfTable z) n m hn hm le y h = ap (λ (o : Offset). o.seconds) (table_stays z.now n m hn hm le y h)

before_next : (o : Option (ℤ × OffsetInfo)) (r j : ℤ) (s : ℤ) → s <ℤ j → j <ℤ r → IfSome o (λ t. (k : ℤ) → s <ℤ k → k <ℤ r → nanos_of_seconds k <ℤ t.0) → IfSome o (λ t. nanos_of_seconds j <ℤ t.0)
before_next None r j s low high h = tt
before_next (Some t) r j s low high h = h j low high

-- a later second is the next question, if it lies in the window and in the year, and each one between lies before the next transition
pub question_is : (tz : TimeZone) (s last end r : ℤ) (o : Option (ℤ × OffsetInfo)) → IsHeld s → IsHeld last → IsYearEnd (nanos_of_seconds s) end → o ≡ Zone.next_at tz (nanos_of_seconds s)
    → s <ℤ r → r ≤ℤ last → r ≤ℤ end → IfSome o (λ t. (j : ℤ) → s <ℤ j → j <ℤ r → nanos_of_seconds j <ℤ t.0) → IsNextQuestion tz s last r
question_is tz s last end r o hs hl year e later within ends h = record {
  later = later;
  within = within;
  stays = λ j low high. by_lt_z s j
      (λ lt. zone_stays tz (nanos_of_seconds s) (nanos_of_seconds j)
      (omega (arith, signed_arith, hs), omega (arith, signed_arith, hs))
      (omega (arith, signed_arith, hs, low), omega (arith, signed_arith, hl, high, within))
      (omega (arith, signed_arith, low))
      (year.same (nanos_of_seconds j) (omega (arith, signed_arith, low)) (omega (arith, signed_arith, high, ends)))
      (rw (← e) (before_next o r j s lt high h)))
      (λ ge. let same : j ≡ s = omega (arith, signed_arith, ge, low) in ap (ahead_at tz) same);
}
