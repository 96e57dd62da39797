-- What is known of a job's minutes shows that none of some is named.
use Rattle.std.proofs.Common.{◌≡◌, subst, arith, refl, ℤ, pos, ◌+ℤ◌, ◌≤ℤ◌, ◌<ℤ◌, []}
use Rattle.std.proofs.lemmas.Int.{ints}
use Rattle.std.proofs.lemmas.List.Elements.{All-nil}
use Rattle.croner_base.specs.declared.time.Direction.{Direction}
use Rattle.croner_base.specs.declared.time.Direction.TheVariants.{Forward, Backward}
use Rattle.croner_pattern.specs.Meaning.{Meaning}
use Rattle.crontab_runs.specs.Starts.{NamesMinute}
use Rattle.crontab_runs.specs.Private.Due.{IsNamedCount}
use Rattle.crontab_runs.specs.Private.Known.{AreAllFrom}

none_count : (m : Meaning) (after upto : ℤ) → ((k : ℤ) → after <ℤ k → k ≤ℤ upto → NamesMinute m k → ⊥) → IsNamedCount (NamesMinute m) after upto 0
none_count m after upto none = (
  [],
  record {
    rises = tt;
    named = All-nil (λ k. (after <ℤ k) × (k ≤ℤ upto) × NamesMinute m k);
    complete = λ k low high is. absurd (none k low high is);
  },
  refl,
)

-- forward from after the first of them, and backward from the last
pub none_ahead : (m : Meaning) (direction : Direction) (after upto from first : ℤ) → direction ≡ Forward → from ≡ after +ℤ pos 1 → AreAllFrom direction m from first → upto <ℤ first
    → IsNamedCount (NamesMinute m) after upto 0
none_ahead m direction after upto from first e is all past =
    let here : AreAllFrom Forward m from first = subst (λ (d : Direction). AreAllFrom d m from first) e all in
    none_count m after upto (λ k low high named. omega (arith, ints, here k (omega (arith, ints, low, is)) named, high, past))

pub none_back : (m : Meaning) (direction : Direction) (after upto first : ℤ) → direction ≡ Backward → AreAllFrom direction m upto first → first ≤ℤ after → IsNamedCount (NamesMinute m) after upto 0
none_back m direction after upto first e all past =
    let here : AreAllFrom Backward m upto first = subst (λ (d : Direction). AreAllFrom d m upto first) e all in
    none_count m after upto (λ k low high named. omega (arith, ints, here k (omega (arith, ints, high)) named, low, past))
