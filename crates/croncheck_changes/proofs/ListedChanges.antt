-- The watched changes of a table's clock are those that the table lists.
use Rattle.std.proofs.Common.{◌≡◌, ℕ, zero, suc, ◌+◌, ◌<◌, ◌≤◌, Bool, true, false, refl, sym, ap, ◌∙◌, subst, inl, inr, arith, ℤ, pos, ◌+ℤ◌, ◌-ℤ◌, ◌<ℤ◌, ◌≤ℤ◌, if◌then◌else◌, List, [], ◌∷◌, ◌++◌, length, get_or, drop}
use Rattle.std.specs.Bool.{Decides}
use Rattle.std.specs.List.{All}
use Rattle.std.proofs.lemmas.Bool.{false≢true}
use Rattle.std.proofs.lemmas.Bool.Decides.{Decides-and}
use Rattle.std.proofs.lemmas.Int.{ints, by_lt_z, to_z-of_z}
use Rattle.std.proofs.lemmas.List.{append_assoc, append-nil, drop_all, drop_more}
use Rattle.std.proofs.lemmas.List.Elements.{All-nil, All-cons, All-head, All-tail, All-weaker}
use Rattle.croner_base.specs.declared.time.table.ClockTable.{ClockTable}
use Rattle.croner_base.specs.declared.time.table.TableTime.{TableTime}
use Rattle.croner_base.specs.Calm.{IsChange}
use Rattle.croner_base.specs.Limits.{apart_limit}
use Rattle.croner_base.specs.Table.{is_apart, are_changes}
use Rattle.croner_base.specs.TableZone.{clock, clock_reads, table_zone}
use Rattle.croner_base.specs.Zone.{Zone}
use Rattle.croner_base.proofs.tables.TableCalm.{IsOffsetChange, place, at_change}
use Rattle.croner_base.proofs.tables.TableCheck.{first_change, calm_parts}
use Rattle.croner_base.proofs.tables.TableReadings.{passed}
use Rattle.croner_base.proofs.tables.TableTests.{lt_of, le_of, lt_test, le_test, not_true, step_moves}
use Rattle.croncheck_changes.specs.Changes.{IsJump, IsWatched, AreChanges, AreChangesFrom, watched_seconds, first_watched, end_watched}
use Rattle.croncheck_changes.specs.declared.changes.Change.{Change}
use Rattle.croncheck_changes.specs.Private.Watched.{is_watched, change_of, watched_at}

-- ---- what a loop over a table's changes keeps of them

watched_parts : (s i : ℤ) → Decides (is_watched s i) ((s <ℤ i) × ((i ≤ℤ (s +ℤ pos watched_seconds)) × ((first_watched ≤ℤ i) × (i <ℤ end_watched))))
watched_parts s i =
    Decides-and _ _ (lt_of s i, lt_test s i)
    (Decides-and _ _ (le_of i _, le_test i _) (Decides-and _ _ (le_of first_watched i, le_test first_watched i) (lt_of i end_watched, lt_test i end_watched)))

pub watched_by : (s i : ℤ) → Decides (is_watched s i) (IsWatched s i)
watched_by s i =
    let w = watched_parts s i in (
      λ h. let p = w.0 h in record { follows = p.0; within = p.1.0; from = p.1.1.0; before = p.1.1.1 },
      λ h. w.1 (h.follows, (h.within, (h.from, h.before))),
    )

-- a change of a table, after an offset
abbrev row_change : ℤ → ℤ × ℤ → Change
row_change offset c = change_of offset c.0 c.1

-- the watched ones of a first offset and changes
abbrev pub watched_of : ℤ → ℤ → List (ℤ × ℤ) → List Change
watched_of start offset [] = []
watched_of start offset (c ∷ cs) =
    if is_watched start c.0 then row_change offset c ∷ watched_of start c.1 cs else watched_of start c.1 cs

-- ---- they are the clock's

-- the watched changes of a zone after an instant
record ArePast (z : Zone) (start past : ℤ) (changes : List Change) : Type 0 where
  each : All (λ c. (past <ℤ c.instant) × IsJump z c × IsWatched start c.instant) changes
  every : (i : ℤ) → past <ℤ i → IsChange z i → IsWatched start i → ¬ (All (λ c. ¬ (c.instant ≡ i)) changes)
  ordered : (j k : ℕ) (d : Change) → j < k → k < length changes → (get_or changes j d).instant <ℤ (get_or changes k d).instant

-- from an instant on a zone reads as a table
abbrev ReadsAs : Zone → ℤ → ℤ → List (ℤ × ℤ) → Type 0
ReadsAs z from offset cs = (i : ℤ) → from ≤ℤ i → z.reads i ≡ clock_reads offset cs i

-- the first of changes lies after an instant
abbrev IsFirstPast : ℤ → List (ℤ × ℤ) → Type 0
IsFirstPast past [] = Unit {0}
IsFirstPast past (c ∷ cs) = past <ℤ c.0

plain_change : (u v i x y : ℤ) → u ≡ i +ℤ x → v ≡ (i -ℤ pos 1) +ℤ y → x ≡ y → u ≡ v +ℤ pos 1
plain_change u v i x y p q e = omega (arith, ints, p, q, e)

plain_before : (u i x : ℤ) → u ≡ (i -ℤ pos 1) +ℤ x → i +ℤ x ≡ u +ℤ pos 1
plain_before u i x e = omega (arith, ints, e)

offset_changes : (z : Zone) (past o : ℤ) (cs : List (ℤ × ℤ)) (i : ℤ) → ReadsAs z past o cs → past <ℤ i → IsChange z i → IsOffsetChange o cs i
offset_changes z past o cs i reads follows change same =
    change (plain_change _ _ i _ _ (reads i (omega (arith, ints, follows))) (reads (i -ℤ pos 1) (omega (arith, ints, follows))) same)

-- after the first change a table reads as the others do from there on
reads_on : (z : Zone) (past o : ℤ) (c : ℤ × ℤ) (cs : List (ℤ × ℤ)) → past <ℤ c.0 → ReadsAs z past o (c ∷ cs) → ReadsAs z c.0 c.1 cs
reads_on z past o c cs follows reads i from = reads i (omega (arith, ints, follows, from)) ∙ ap (λ (x : ℤ). i +ℤ x) (passed o c cs i from)

-- the first change moves the clock
is_jump : (z : Zone) (past o : ℤ) (c : ℤ × ℤ) (cs : List (ℤ × ℤ)) → past <ℤ c.0 → are_changes o (c ∷ cs) ≡ true → ReadsAs z past o (c ∷ cs) → IsJump z (row_change o c)
is_jump z past o c cs follows h reads =
    let f = first_change o c cs h in
    let at = at_change o c cs c.0 f.apart refl in
    let here : z.reads c.0 ≡ c.0 +ℤ c.1 = reads c.0 (omega (arith, ints, follows)) ∙ ap (λ (x : ℤ). c.0 +ℤ x) at.0 in
    let before : z.reads (c.0 -ℤ pos 1) ≡ (c.0 -ℤ pos 1) +ℤ o = reads (c.0 -ℤ pos 1) (omega (arith, ints, follows)) ∙ ap (λ (x : ℤ). (c.0 -ℤ pos 1) +ℤ x) at.1 in
    record {
      changes = λ same. step_moves o c.1 f.step (omega (arith, ints, here, before, same));
      before_is = plain_before _ c.0 o before;
      after_is = sym here;
    }

first_past : (c : ℤ × ℤ) (cs : List (ℤ × ℤ)) → is_apart c cs ≡ true → IsFirstPast c.0 cs
first_past c [] apart = tt
first_past c (d ∷ ds) apart = let far = lt_of (c.0 +ℤ pos apart_limit) d.0 apart in omega (arith, ints, far)

none_past : (z : Zone) (start past o : ℤ) → ReadsAs z past o [] → ArePast z start past []
none_past z start past o reads = record {
  each = All-nil _;
  every = λ i follows change watched others. offset_changes z past o [] i reads follows change refl;
  ordered = λ j k d before within. absurd (omega (arith, within));
}

ordered_more : (z : Zone) (start past : ℤ) (c : Change) (cs : List Change) → ArePast z start c.instant cs
    → (j k : ℕ) (d : Change) → j < k → k < length (c ∷ cs) → (get_or (c ∷ cs) j d).instant <ℤ (get_or (c ∷ cs) k d).instant
ordered_more z start past c cs rest j zero d before within = absurd (omega (arith, before))
ordered_more z start past c cs rest zero (suc k) d before within = (rest.each k d (omega (arith, within))).0
ordered_more z start past c cs rest (suc j) (suc k) d before within = rest.ordered j k d (omega (arith, before)) (omega (arith, within))

-- the changes after a later instant, and one there if it is watched
wider : (z : Zone) (start past later : ℤ) (changes : List Change) → past <ℤ later → ArePast z start later changes → All (λ c. (past <ℤ c.instant) × IsJump z c × IsWatched start c.instant) changes
wider z start past later changes follows rest =
    All-weaker (λ (c : Change). (later <ℤ c.instant) × IsJump z c × IsWatched start c.instant) (λ (c : Change). (past <ℤ c.instant) × IsJump z c × IsWatched start c.instant)
    (λ c h. (omega (arith, ints, follows, h.0), h.1, h.2)) changes rest.each

one_more : (z : Zone) (start past o : ℤ) (c : ℤ × ℤ) (cs : List (ℤ × ℤ)) (changes : List Change) → past <ℤ c.0 → are_changes o (c ∷ cs) ≡ true → ReadsAs z past o (c ∷ cs)
    → IsWatched start c.0 → ArePast z start c.0 changes → ArePast z start past (row_change o c ∷ changes)
one_more z start past o c cs changes follows h reads watched rest = record {
  each = All-cons (λ (d : Change). (past <ℤ d.instant) × IsJump z d × IsWatched start d.instant) (row_change o c) changes (follows, is_jump z past o c cs follows h reads, watched)
      (wider z start past c.0 changes follows rest);
  every = λ i after change is others. elim (place o c cs i (offset_changes z past o (c ∷ cs) i reads after change)) [
    | inl here ↦ All-head (λ (d : Change). ¬ (d.instant ≡ i)) (row_change o c) changes others (sym here)
    | inr later ↦ rest.every i later.0 change is (All-tail (λ (d : Change). ¬ (d.instant ≡ i)) (row_change o c) changes others)
  ];
  ordered = ordered_more z start past (row_change o c) changes rest;
}

no_more : (z : Zone) (start past o : ℤ) (c : ℤ × ℤ) (cs : List (ℤ × ℤ)) (changes : List Change) → past <ℤ c.0 → ReadsAs z past o (c ∷ cs)
    → ¬ (IsWatched start c.0) → ArePast z start c.0 changes → ArePast z start past changes
no_more z start past o c cs changes follows reads not_watched rest = record {
  each = wider z start past c.0 changes follows rest;
  every = λ i after change is others. elim (place o c cs i (offset_changes z past o (c ∷ cs) i reads after change)) [
    | inl here ↦ not_watched (rw here at is)
    | inr later ↦ rest.every i later.0 change is others
  ];
  ordered = rest.ordered;
}

by_test : (z : Zone) (start past o : ℤ) (c : ℤ × ℤ) (cs : List (ℤ × ℤ)) (b : Bool) → is_watched start c.0 ≡ b → past <ℤ c.0 → are_changes o (c ∷ cs) ≡ true
    → ReadsAs z past o (c ∷ cs) → ArePast z start c.0 (watched_of start c.1 cs) → ArePast z start past (watched_of start o (c ∷ cs))
by_test z start past o c cs true is follows h reads rest = rw is (one_more z start past o c cs _ follows h reads ((watched_by start c.0).0 is) rest)
by_test z start past o c cs false is follows h reads rest =
    rw is (no_more z start past o c cs _ follows reads (λ watched. false≢true (sym is ∙ (watched_by start c.0).1 watched)) rest)

are_past : (z : Zone) (start past o : ℤ) (cs : List (ℤ × ℤ)) → IsFirstPast past cs → are_changes o cs ≡ true → ReadsAs z past o cs → ArePast z start past (watched_of start o cs)
are_past z start past o [] follows h reads = none_past z start past o reads
are_past z start past o (c ∷ cs) follows h reads =
    let f = first_change o c cs h in
    by_test z start past o c cs (is_watched start c.0) refl follows h reads
    (are_past z start c.0 c.1 cs (first_past c cs f.apart) f.rest (reads_on z past o c cs follows reads))

-- ---- those of a table

-- an instant before all changes, and not after a start
before_all : (start : ℤ) (cs : List (ℤ × ℤ)) → (past : ℤ) × (past ≤ℤ start) × IsFirstPast past cs
before_all start [] = (start, omega (arith, ints), tt)
before_all start (c ∷ cs) =
    by_lt_z start c.0 (λ before. (start, omega (arith, ints), before)) (λ follows. (c.0 -ℤ pos 1, omega (arith, ints, follows), omega (arith, ints)))

all_past : (z : Zone) (start past : ℤ) (changes : List Change) → past ≤ℤ start → ArePast z start past changes → AreChanges z start changes
all_past z start past changes le are = record {
  each = All-weaker (λ (c : Change). (past <ℤ c.instant) × IsJump z c × IsWatched start c.instant) (λ (c : Change). IsJump z c × IsWatched start c.instant)
      (λ c h. (h.1, h.2)) changes are.each;
  every = λ i change watched. are.every i (omega (arith, ints, le, watched.follows)) change watched;
  ordered = are.ordered;
}

reads_as : (t : ClockTable) (past : ℤ) → ReadsAs (table_zone t) past t.first_offset t.changes.items
unfolding clock
reads_as t past i from = refl

watched_changes : (t : ClockTable) (start : ℤ) → AreChanges (table_zone t) start (watched_of start t.first_offset t.changes.items)
watched_changes t start =
    let first = before_all start t.changes.items in
    all_past (table_zone t) start first.0 _ first.1
    (are_past (table_zone t) start first.0 t.first_offset t.changes.items first.2 (calm_parts t.first_offset t.changes.items t.calm).changes (reads_as t first.0))

-- ---- a loop

-- one change more is read
read_by : (b : Bool) (start o : ℤ) (c : ℤ × ℤ) (cs : List (ℤ × ℤ)) → is_watched start c.0 ≡ b
    → watched_of start o (c ∷ cs) ≡ watched_at start o c.0 c.1 ++ watched_of start c.1 cs
read_by true start o c cs is = rw is refl
read_by false start o c cs is = rw is refl

pub one_read : (start o p : ℤ) (cs : List (ℤ × ℤ)) (n : ℕ) (offset instant next : ℤ) (found more all : List Change) → n < length cs → offset ≡ o
    → instant ≡ (get_or cs n (pos 0, pos 0)).0 → next ≡ (get_or cs n (pos 0, pos 0)).1 → p ≡ (get_or cs n (pos 0, pos 0)).1
    → more ≡ found ++ watched_at start offset instant next → found ++ watched_of start o (drop n cs) ≡ all → more ++ watched_of start p (drop (n + 1) cs) ≡ all
one_read start o p cs n offset instant next found more all inside before at to on is same =
    let row = get_or cs n (pos 0, pos 0) in
    let rest = watched_of start row.1 (drop (n + 1) cs) in
    let put : more ≡ found ++ watched_at start o row.0 row.1 = is ∙ rw (before, at, to) refl in
    let read : watched_of start o (drop n cs) ≡ watched_at start o row.0 row.1 ++ rest = rw (drop_more cs n (pos 0, pos 0) inside) (read_by _ start o row (drop (n + 1) cs) refl) in
    ap (λ (x : ℤ). more ++ watched_of start x (drop (n + 1) cs)) on ∙ ap (λ (xs : List Change). xs ++ rest) put
    ∙ append_assoc found (watched_at start o row.0 row.1) rest ∙ ap (λ (xs : List Change). found ++ xs) (sym read) ∙ same

-- all is read
pub all_read : (t : TableTime) (o : ℤ) (found : List Change) (read : List (ℤ × ℤ)) (n : ℕ) → length read ≤ n
    → found ++ watched_of t.second o (drop n read) ≡ watched_of t.second t.table.now.first_offset t.table.now.changes.items → AreChangesFrom t found
all_read t o found read n end same =
    let all : found ≡ watched_of t.second t.table.now.first_offset t.table.now.changes.items = sym (append-nil found) ∙ rw (drop_all n read end) at same in
    subst (λ (changes : List Change). AreChangesFrom t changes) (sym all) (watched_changes t.table.now t.second)

-- a change that is watched, and another
pub at_watched : (start o i next : ℤ) → IsWatched start i → watched_at start o i next ≡ change_of o i next ∷ []
at_watched start o i next watched = rw ((watched_by start i).1 watched) refl

pub at_other : (start o i next : ℤ) → ¬ (IsWatched start i) → watched_at start o i next ≡ []
at_other start o i next not_watched = rw (not_true (is_watched start i) (λ h. not_watched ((watched_by start i).0 h))) refl

pub ruleset one_watched = (to_z-of_z, append-nil, at_watched, at_other)

-- a change with these seconds
pub is_change : (x : Change) (offset instant next : ℤ) → x.instant ≡ instant → x.before ≡ instant +ℤ offset → x.after ≡ instant +ℤ next → x ≡ change_of offset instant next
is_change x offset instant next e f g = λ i. record { instant = e i; before = f i; after = g i }
