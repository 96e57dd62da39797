-- One more job behind some, of which the last was taken off.
use Rattle.std.proofs.Common.{◌≡◌, ◌∙◌, List, [], ◌∷◌, ◌++◌, map, refl, ap, sym}
use Rattle.std.proofs.lemmas.List.{append_assoc, map-append}
use Rattle.croncheck_planner.specs.declared.planner.Planned.{Planned}
use Rattle.croncheck_planner.specs.Planner.{JobShown, pair_shown, planned_seen, with_shown}

with_last : (some : List JobShown) (last one : JobShown) → with_shown (some ++ last ∷ []) one ≡ some ++ pair_shown last one
with_last [] last one = refl
with_last (first ∷ []) last one = refl
with_last (first ∷ (second ∷ others)) last one = ap (λ (rest : List JobShown). first ∷ rest) (with_last (second ∷ others) last one)

pub one_more : (old others : List Planned) (last : Planned) (one : JobShown) → old ≡ others ++ last ∷ []
    → map planned_seen others ++ pair_shown (planned_seen last) one ≡ with_shown (map planned_seen old) one
one_more old others last one is = sym (
    ap (λ (jobs : List Planned). with_shown (map planned_seen jobs) one) is
    ∙ ap (λ (some : List JobShown). with_shown some one) (map-append planned_seen others (last ∷ []))
    ∙ with_last (map planned_seen others) (planned_seen last) one)

pub two_more : (old : List Planned) (last one : Planned) (pair : List JobShown) → planned_seen last ∷ planned_seen one ∷ [] ≡ pair
    → map planned_seen ((old ++ last ∷ []) ++ one ∷ []) ≡ map planned_seen old ++ pair
two_more old last one pair is =
    map-append planned_seen (old ++ last ∷ []) (one ∷ [])
    ∙ ap (λ (some : List JobShown). some ++ planned_seen one ∷ []) (map-append planned_seen old (last ∷ []))
    ∙ append_assoc (map planned_seen old) (planned_seen last ∷ []) (planned_seen one ∷ [])
    ∙ ap (λ (some : List JobShown). map planned_seen old ++ some) is
