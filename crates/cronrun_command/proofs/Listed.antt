-- A listing, run by run.
use Rattle.std.proofs.Common.{◌≡◌, ◌∙◌, ◌++◌, ◌∷◌, ◌+◌, ◌<◌, [], ℕ, Bool, List, refl, sym, subst, ap, arith}
use Rattle.std.proofs.lemmas.List.{append_assoc, length_push}
use Rattle.croner_base.specs.Zone.{Moment}
use Rattle.croner_base.specs.declared.errors.CronError.{CronError}
use Rattle.croner.specs.iterator.Listing.{Standing, GivesItem, moved}
use Rattle.cronrun_command.specs.Answer.{AreGiven, stands_after, GivesLines, EndsEarly}
use Rattle.cronrun_command.specs.Ended.{Ends}
use Rattle.cronrun_command.specs.Line.{IsLine, AreLines}
use Rattle.cronrun_command.specs.Written.{AddsNext}

after_push : (s : Standing) (runs : List Moment) (run : Moment) → stands_after s (runs ++ run ∷ []) ≡ moved (stands_after s runs) run
after_push s [] run = refl
after_push s (r ∷ runs) run = after_push (moved s r) runs run

given_push : (s : Standing) (runs : List Moment) (run : Moment) → AreGiven s runs → GivesItem (stands_after s runs) run (moved (stands_after s runs) run)
    → AreGiven s (runs ++ run ∷ [])
given_push s [] run given gives = (gives, tt)
given_push s (r ∷ runs) run given gives = (given.0, given_push (moved s r) runs run given.1 gives)

-- one more run
given_next : (start cur new : Standing) (runs : List Moment) (run : Moment) → AreGiven start runs → cur ≡ stands_after start runs → GivesItem cur run new
    → AreGiven start (runs ++ run ∷ []) × (new ≡ stands_after start (runs ++ run ∷ []))
given_next start cur new runs run given stands gives =
    let P : Standing → Type 0 = λ s. GivesItem s run (moved s run) in
    let Q : Standing → Type 0 = λ s. GivesItem cur run s in (
      given_push start runs run given (subst P stands (subst Q gives.stands gives)),
      gives.stands ∙ ap (λ (s : Standing). moved s run) stands ∙ sym (after_push start runs run),
    )

lines_push : (z : Bool) (runs : List Moment) (run : Moment) (text line : List ℕ) → AreLines z runs text → IsLine z run line
    → AreLines z (runs ++ run ∷ []) (text ++ (line ++ 10 ∷ []))
lines_push z [] run text line none is = (line, [], is, refl, ap (λ (t : List ℕ). t ++ (line ++ 10 ∷ [])) none)
lines_push z (r ∷ runs) run text line (first, rest, is_first, more, e) is = (
  first,
  rest ++ (line ++ 10 ∷ []),
  is_first,
  lines_push z runs run rest line more is,
  ap (λ (t : List ℕ). t ++ (line ++ 10 ∷ [])) e ∙ append_assoc first (10 ∷ rest) (line ++ 10 ∷ []),
)

-- so many runs were given, after which it stands there
pub record Listed (in_zone : Bool) (start cur : Standing) (n : ℕ) (text : List ℕ) : Type 0 where
  pub gives : GivesLines in_zone start n text
  pub stands : cur ≡ stands_after start gives.runs

pub listed_none : (in_zone : Bool) (start : Standing) → Listed in_zone start start 0 []
listed_none in_zone start = record {
  gives = record { runs = []; given = tt; counted = refl; lines = refl };
  stands = refl;
}

pub listed_next : (in_zone : Bool) (start cur new : Standing) (n : ℕ) (before after : List ℕ) → Listed in_zone start cur n before
    → AddsNext in_zone cur new before after → Listed in_zone start new (n + 1) after
listed_next in_zone start cur new n before after l next =
    let w = l.gives in
    let more = given_next start cur new w.runs next.run w.given l.stands next.gives in
    let P : List ℕ → Type 0 = λ t. AreLines in_zone (w.runs ++ next.run ∷ []) t in
    record {
      gives = record {
        runs = w.runs ++ next.run ∷ [];
        given = more.0;
        counted = length_push w.runs next.run ∙ ap (λ (k : ℕ). k + 1) w.counted;
        lines = subst P (sym next.added) (lines_push in_zone w.runs next.run before next.text w.lines next.line);
      };
      stands = more.1;
    }

-- a listing ends early where its next run does not come
pub listed_short : (lack in_zone : Bool) (start cur : Standing) (n count : ℕ) (before after : List ℕ) (e : CronError) → Listed in_zone start cur n before
    → n < count → after ≡ before → Ends lack cur e → EndsEarly lack in_zone start count after e
listed_short lack in_zone start cur n count before after e l few same ends =
    let P : Standing → Type 0 = λ s. Ends lack s e in
    let Q : List ℕ → Type 0 = λ t. AreLines in_zone l.gives.runs t in
    record {
      runs = l.gives.runs;
      given = l.gives.given;
      fewer = omega (arith, l.gives.counted);
      lines = subst Q (sym same) l.gives.lines;
      ends = subst P l.stands ends;
    }
