-- What was gathered of jobs, one job after the other.
use Rattle.std.proofs.Common.{◌≡◌, ◌∙◌, ℕ, ℤ, suc, ◌+◌, ◌≤ℤ◌, Bool, true, false, cond, int_lt, fold, Option, Some, List, [], ◌∷◌, ◌++◌, length, sym, ap, subst, arith}
use Rattle.std.proofs.lemmas.Int.{ints}
use Rattle.std.proofs.lemmas.List.{append-nil}
use Rattle.std.proofs.lemmas.List.Concat.{flat_map-append}
use Rattle.std.proofs.lemmas.List.Elements.{All-nil, All-append, All-same, All-weaker}
use Rattle.std.proofs.lemmas.List.Sums.{fold-append}
use Rattle.std.specs.List.{All, flat_map}
use Rattle.croner_base.specs.Zone.{Zone}
use Rattle.cronplan.specs.declared.frequent.Frequent.{Frequent}
use Rattle.cronplan_jobs.specs.declared.jobs.Gathering.{Gathering}
use Rattle.cronplan_jobs.specs.declared.listing.Schedule.{Schedule}
use Rattle.cronplan.specs.declared.span.Span.{Span}
use Rattle.cronplan.specs.declared.start.JobStart.{JobStart}
use Rattle.cronplan.specs.Starts.{earlier_of}
use Rattle.cronplan.specs.Counts.{count_of}
use Rattle.cronplan_jobs.specs.Jobs.{Seen, IsSeen, AreSeen, shown_of, named_of, end_with}
use Rattle.cronplan_jobs.specs.Listed.{IsStartIn}
use Rattle.cronplan_jobs.specs.Private.Gathered.{AddsJob, Names, Shows}

-- what was gathered of these jobs
pub record Gathered (z : Zone) (span : Span) (most : Option ℕ) (jobs : List Schedule) (g : Gathering) : Type 0 where
  pub seen : List Seen
  pub are_seen : AreSeen z span most 0 jobs seen
  pub shown : g.shown.items ≡ flat_map shown_of seen
  pub named : g.frequent.items ≡ flat_map named_of seen
  pub end : g.end ≡ fold end_with span.end seen
  pub from : span.first ≤ℤ g.end
  pub within : g.end ≤ℤ span.end
  pub first : All (λ (s : JobStart). span.first ≤ℤ s.second) g.shown.items

-- one job more after the others
seen_more : (z : Zone) (span : Span) (most : Option ℕ) (place last : ℕ) (jobs : List Schedule) (seen : List Seen) (j : Schedule) (s : Seen) → last ≡ place + length jobs
    → AreSeen z span most place jobs seen → IsSeen z span most last j s → AreSeen z span most place (jobs ++ j ∷ []) (seen ++ s ∷ [])
seen_more z span most place last [] [] j s e all one =
    let same : last ≡ place = omega (arith, e) in (subst (λ (k : ℕ). IsSeen z span most k j s) same one, tt)
seen_more z span most place last [] (x ∷ xs) j s e all one = absurd all
seen_more z span most place last (i ∷ is) [] j s e all one = absurd all
seen_more z span most place last (i ∷ is) (x ∷ xs) j s e all one =
    (all.0, seen_more z span most (suc place) last is xs j s (omega (arith, e)) all.1 one)

one-of : {X : Type 0} (f : Seen → List X) (s : Seen) → flat_map f (s ∷ []) ≡ f s
one-of f s = append-nil (f s)

end_with-from : (first end : ℤ) (s : Seen) → first ≤ℤ end → first ≤ℤ s.end → first ≤ℤ end_with end s
end_with-from first end s le other = at s.is_frequent (int_lt s.end end) where
  at : (a b : Bool) → first ≤ℤ cond a end (cond b s.end end)
  at true b = le
  at false true = other
  at false false = le

end_with-within : (last end : ℤ) (s : Seen) → end ≤ℤ last → s.end ≤ℤ last → end_with end s ≤ℤ last
end_with-within last end s le other = at s.is_frequent (int_lt s.end end) where
  at : (a b : Bool) → cond a end (cond b s.end end) ≤ℤ last
  at true b = le
  at false true = other
  at false false = le

shown-all : (P : JobStart → Type 0) (s : Seen) → All P s.starts → All P (shown_of s)
shown-all P s all = at s.is_frequent where
  at : (a : Bool) → All P (cond a [] s.starts)
  at true = All-nil P
  at false = all

pub gathered_none : (z : Zone) (span : Span) (most : Option ℕ) (g : Gathering) → g.shown.items ≡ [] → g.frequent.items ≡ [] → g.end ≡ span.end → span.first ≤ℤ span.end
    → Gathered z span most [] g
gathered_none z span most g e f h order = record {
  seen = [];
  are_seen = tt;
  shown = e;
  named = f;
  end = h;
  from = omega (arith, ints, h, order);
  within = omega (arith, ints, h);
  first = All-same (λ (s : JobStart). span.first ≤ℤ s.second) g.shown.items [] e (All-nil (λ (s : JobStart). span.first ≤ℤ s.second));
}

pub gathered_more : (z : Zone) (span : Span) (most : Option ℕ) (place : ℕ) (jobs : List Schedule) (j : Schedule) (old new : Gathering) → place ≡ length jobs
    → Gathered z span most jobs old → AddsJob z span most place j old new → Gathered z span most (jobs ++ j ∷ []) new
gathered_more z span most place jobs j old new e g a =
    let P : JobStart → Type 0 = λ s. span.first ≤ℤ s.second in
    record {
      seen = g.seen ++ a.seen ∷ [];
      are_seen = seen_more z span most 0 place jobs g.seen j a.seen (omega (arith, e)) g.are_seen a.is;
      shown = a.shown ∙ ap (λ (xs : List JobStart). xs ++ shown_of a.seen) g.shown ∙ ap (λ (ys : List JobStart). flat_map shown_of g.seen ++ ys) (sym (one-of shown_of a.seen))
          ∙ sym (flat_map-append shown_of g.seen (a.seen ∷ []));
      named = a.named ∙ ap (λ (xs : List Frequent). xs ++ named_of a.seen) g.named ∙ ap (λ (ys : List Frequent). flat_map named_of g.seen ++ ys) (sym (one-of named_of a.seen))
          ∙ sym (flat_map-append named_of g.seen (a.seen ∷ []));
      end = a.end ∙ ap (λ (i : ℤ). end_with i a.seen) g.end ∙ sym (fold-append end_with span.end g.seen (a.seen ∷ []));
      from = subst (λ (i : ℤ). span.first ≤ℤ i) (sym a.end) (end_with-from span.first old.end a.seen g.from a.is.lists.from);
      within = subst (λ (i : ℤ). i ≤ℤ span.end) (sym a.end) (end_with-within span.end old.end a.seen g.within a.is.lists.within);
      first = All-same P new.shown.items (old.shown.items ++ shown_of a.seen) a.shown
          (All-append P old.shown.items (shown_of a.seen) g.first
          (shown-all P a.seen (All-weaker (IsStartIn j z span place) P (λ s h. h.first) a.seen.starts a.is.lists.each)));
    }

-- one job more is named, or shown
pub adds_named : (z : Zone) (span : Span) (most : Option ℕ) (place : ℕ) (j : Schedule) (seen : Seen) (old new : Gathering) → IsSeen z span most place j seen → seen.is_frequent ≡ true
    → Names place seen.starts old new → AddsJob z span most place j old new
adds_named z span most place j seen old new is mark n = record {
  seen = seen;
  is = is;
  shown = n.shown ∙ sym (append-nil old.shown.items) ∙ ap (λ (b : Bool). old.shown.items ++ cond b [] seen.starts) (sym mark);
  named = n.named ∙ ap (λ (k : ℕ). old.frequent.items ++ record { job = k; starts = count_of seen.starts } ∷ []) (sym is.place_is)
      ∙ ap (λ (b : Bool). old.frequent.items ++ cond b (record { job = seen.place; starts = count_of seen.starts } ∷ []) []) (sym mark);
  end = n.end ∙ ap (λ (b : Bool). cond b old.end (earlier_of old.end (Some seen.end))) (sym mark);
}

pub adds_shown : (z : Zone) (span : Span) (most : Option ℕ) (place : ℕ) (j : Schedule) (seen : Seen) (old new : Gathering) → IsSeen z span most place j seen → seen.is_frequent ≡ false
    → Shows seen.starts seen.end old new → AddsJob z span most place j old new
adds_shown z span most place j seen old new is mark n = record {
  seen = seen;
  is = is;
  shown = n.shown ∙ ap (λ (b : Bool). old.shown.items ++ cond b [] seen.starts) (sym mark);
  named = n.named ∙ sym (append-nil old.frequent.items) ∙ ap (λ (b : Bool). old.frequent.items ++ cond b (record { job = seen.place; starts = count_of seen.starts } ∷ []) []) (sym mark);
  end = n.end ∙ ap (λ (b : Bool). cond b old.end (earlier_of old.end (Some seen.end))) (sym mark);
}
