-- The lines of a file, taken one by one.
use Rattle.std.proofs.Common.{◌≡◌, ◌<◌, ◌∙◌, ◌==◌, ℕ, List, [], ◌∷◌, ◌++◌, Option, Some, None, IfSome, Bool, true, false, if◌then◌else◌, length, map, ap, sym, refl, subst, arith}
use Rattle.std.proofs.lemmas.List.{append_assoc, append-nil}
use Rattle.std.specs.Io.BufRead.{take_through, drop_through}
use Rattle.crontab.specs.Checked.{TakesInTurn}
use Rattle.crontab.specs.Lines.{AreLines, ReadsLine, feed}

some_of : (b : Bool) (x : ℕ) (xs : List ℕ) → 0 < length (if b then x ∷ [] else x ∷ xs)
some_of true x xs = omega arith
some_of false x xs = omega arith

nothing_left : (text : List ℕ) → length (take_through feed text) ≡ 0 → text ≡ []
nothing_left [] h = refl
nothing_left (x ∷ xs) h = absurd (omega (arith, some_of (x == feed) x (take_through feed xs), h))

something_left : (text : List ℕ) → 0 < length (take_through feed text) → 0 < length text
something_left [] h = h
something_left (x ∷ xs) h = omega arith

-- one more was taken
pub in_turn_push : {S Y : Type 0} (takes : S → Y → S → Type 0) (old now new : S) (ys : List Y) (y : Y) → TakesInTurn takes old ys now → takes now y new
    → TakesInTurn takes old (ys ++ y ∷ []) new
in_turn_push {S} takes old now new [] y same one = let P : S → Type 0 = λ s. takes s y new in (new, subst P same one, refl)
in_turn_push takes old now new (x ∷ xs) y all one = (all.0, all.1, in_turn_push takes all.0 now new xs y all.2 one)

module _ {S Y : Type 0} (f : List ℕ → Y) (takes : S → Y → S → Type 0) where
  -- the entries of some lines of a text were taken, and the rest is left
  pub record Taken (text rest : List ℕ) (old new : S) : Type 0 where
    pub lines : List (List ℕ)
    pub reads : (more : List (List ℕ)) → AreLines rest more → AreLines text (lines ++ more)
    pub taken : TakesInTurn takes old (map f lines) new

  -- the same where the bytes of a reader are known
  abbrev pub TakenSoFar : Option (List ℕ) → Option (List ℕ) → S → S → Type 0
  TakenSoFar None now old new = Unit {0}
  TakenSoFar (Some text) now old new = (rest : List ℕ) × (now ≡ Some rest) × Taken text rest old new

  pub taken_none : (start : Option (List ℕ)) (old : S) → TakenSoFar start start old old
  taken_none None old = tt
  taken_none (Some text) old = (text, refl, record { lines = []; reads = λ more h. h; taken = refl })

  map_more : (lines : List (List ℕ)) (line : List ℕ) → map f (lines ++ line ∷ []) ≡ map f lines ++ f line ∷ []
  map_more [] line = refl
  map_more (x ∷ xs) line = ap (λ ys. f x ∷ ys) (map_more xs line)

  taken_line : (text rest line : List ℕ) (old now new : S) → Taken text rest old now → line ≡ take_through feed rest → 0 < length line
      → takes now (f line) new → Taken text (drop_through feed rest) old new
  taken_line text rest line old now new t is some one =
      let within : 0 < length rest = something_left rest (subst (λ l. 0 < length l) is some) in
      record {
        lines = t.lines ++ line ∷ [];
        reads = λ more h. subst (AreLines text) (sym (append_assoc t.lines (line ∷ []) more)) (t.reads (line ∷ more) (within, is, h));
        taken = subst (λ (ys : List Y). TakesInTurn takes old ys new) (sym (map_more t.lines line))
            (in_turn_push takes old now new (map f t.lines) (f line) t.taken one);
      }

  -- one more line was read and taken
  pub taken_next : (start before after : Option (List ℕ)) (line : List ℕ) (old now new : S) → TakenSoFar start before old now
      → ReadsLine before after line → 0 < length line → takes now (f line) new → TakenSoFar start after old new
  taken_next None before after line old now new t read some one = tt
  taken_next (Some text) before after line old now new t read some one =
      let is : ReadsLine (Some t.0) after line = subst (λ o. ReadsLine o after line) t.1 read in
      (drop_through feed t.0, is.1, taken_line text t.0 line old now new t.2 is.0 some one)

  taken_whole : (text rest line : List ℕ) (old new : S) → Taken text rest old new → line ≡ take_through feed rest → length line ≡ 0
      → (lines : List (List ℕ)) × AreLines text lines × TakesInTurn takes old (map f lines) new
  taken_whole text rest line old new t is none =
      let left : rest ≡ [] = nothing_left rest (sym (ap length is) ∙ none) in
      (t.lines, subst (AreLines text) (append-nil t.lines) (t.reads [] left), t.taken)

  -- no line is left
  pub taken_all : (start before after : Option (List ℕ)) (line : List ℕ) (old new : S) → TakenSoFar start before old new
      → ReadsLine before after line → length line ≡ 0
      → IfSome start (λ text. (lines : List (List ℕ)) × AreLines text lines × TakesInTurn takes old (map f lines) new)
  taken_all None before after line old new t read none = tt
  taken_all (Some text) before after line old new t read none =
      let is : ReadsLine (Some t.0) after line = subst (λ o. ReadsLine o after line) t.1 read in
      taken_whole text t.0 line old new t.2 is.0 none
