-- Patterns that are words of the call, told one after the other.
use Rattle.std.proofs.Common.{◌≡◌, ◌∙◌, ◌<◌, ◌≤◌, ◌+◌, ◌||◌, ℕ, suc, List, [], ◌∷◌, ◌++◌, Bool, true, false, ap, sym, subst, refl, take, drop, length, get_or, map, cond, arith}
use Rattle.std.specs.List.{prefix_len}
use Rattle.std.proofs.lemmas.List.{map_more, take_all}
use Rattle.crontab.specs.Bytes.{is_of}
use Rattle.crontab.specs.declared.bytes.Kind.TheVariants as kinds
use Rattle.crontab.specs.Checked.{TakesInTurn}
use Rattle.crontab.proofs.TakenLines.{in_turn_push}
use Rattle.croncheck_report.specs.declared.report.Report.{Report}
use Rattle.croncheck_report.specs.declared.settings.Settings.{Settings}
use Rattle.croncheck_report.specs.FileSeen.{is_refused}
use Rattle.croncheck_output.specs.Output.{Written, WritesApart}
use Rattle.croncheck_shown.specs.declared.patterns.Answer.{Answer}
use Rattle.croncheck_shown.specs.Patterns.{Told, TellsPattern, told_by, pattern_in}
use Rattle.croncheck_shown.specs.Reported.{EndsWithFound}
use Rattle.croncheck_report.specs.Report.{IsReportOfPattern, blanks_of}

one_more : (n : ℕ) (x : ℕ) (xs : List ℕ) → drop (1 + n) (x ∷ xs) ≡ drop n xs
one_more n x xs = let e : 1 + n ≡ suc n = omega arith in ap (λ m. drop m (x ∷ xs)) e

none_left_at : (p : ℕ → Bool) (x : ℕ) (xs : List ℕ) → prefix_len p (drop (prefix_len p xs) xs) ≡ 0 → (b : Bool) → p x ≡ b
    → prefix_len p (drop (cond b (1 + prefix_len p xs) 0) (x ∷ xs)) ≡ 0
none_left_at p x xs rest true is = ap (prefix_len p) (one_more (prefix_len p xs) x xs) ∙ rest
none_left_at p x xs rest false is = ap (λ b. cond b (1 + prefix_len p xs) 0) is

-- nothing more passes after the first bytes that do
none_left : (p : ℕ → Bool) (xs : List ℕ) → prefix_len p (drop (prefix_len p xs) xs) ≡ 0
none_left p [] = refl
none_left p (x ∷ xs) = none_left_at p x xs (none_left p xs) (p x) refl

-- no blank stands in front of a pattern
pub no_blanks : (word : List ℕ) → blanks_of (pattern_in word) ≡ 0
no_blanks word = ap (λ n. length (take n (pattern_in word))) (none_left (is_of kinds.Blank) word)

-- a word was told, by the steps of telling it
pub pattern_told : (s : Settings) (answer : Answer) (old new : Written) (before : Bool) (word : List ℕ) (report : Report) (text : List ℕ)
    (refused : Bool) → IsReportOfPattern true s (blanks_of (pattern_in word)) (pattern_in word) report
    → EndsWithFound s.look (told_by answer (pattern_in word) report) text → WritesApart text old new → refused ≡ is_refused report
    → TellsPattern s answer (record { written = old; has_refused = before }) word (record { written = new; has_refused = refused || before })
pattern_told s answer old new before word report text refused reported below written is = record {
  report = report;
  reported = subst (λ (n : ℕ). IsReportOfPattern true s n (pattern_in word) report) (no_blanks word) reported;
  text = text;
  below = below;
  written = written;
  refused = ap (λ (b : Bool). b || before) is;
}

-- the same, where it is said otherwise whether a pattern was refused
pub so_refused : (s : Settings) (answer : Answer) (old : Told) (word : List ℕ) (written : Written) (b either : Bool) → either ≡ b
    → TellsPattern s answer old word (record { written = written; has_refused = b }) → TellsPattern s answer old word (record { written = written; has_refused = either })
so_refused s answer old word written b either is told =
    subst (λ (x : Bool). TellsPattern s answer old word (record { written = written; has_refused = x })) (sym is) told

-- one more word of some was told
pub next_told : {X S : Type 0} (text_of : X → List ℕ) (takes : S → List ℕ → S → Type 0) (old now new : S) (xs : List X) (k : ℕ) (x d : X) → k < length xs
    → x ≡ get_or xs k d → TakesInTurn takes old (map text_of (take k xs)) now → takes now (text_of x) new
    → TakesInTurn takes old (map text_of (take (k + 1) xs)) new
next_told {X} {S} text_of takes old now new xs k x d within is before one =
    let pushed : TakesInTurn takes old (map text_of (take k xs) ++ text_of x ∷ []) new = in_turn_push takes old now new (map text_of (take k xs)) (text_of x) before one in
    let here : TakesInTurn takes old (map text_of (take k xs) ++ text_of (get_or xs k d) ∷ []) new =
    subst (λ (y : X). TakesInTurn takes old (map text_of (take k xs) ++ text_of y ∷ []) new) is pushed in
    subst (λ (ys : List (List ℕ)). TakesInTurn takes old ys new) (sym (map_more text_of xs k d within)) here

-- all words were told
pub all_told : {X S : Type 0} (text_of : X → List ℕ) (takes : S → List ℕ → S → Type 0) (old new : S) (xs : List X) (k : ℕ) → length xs ≤ k
    → TakesInTurn takes old (map text_of (take k xs)) new → TakesInTurn takes old (map text_of xs) new
all_told {X} text_of takes old new xs k all told = subst (λ (ys : List X). TakesInTurn takes old (map text_of ys) new) (take_all k xs all) told
