-- Rows: the jobs of places, and how empty places are taken out.
use Rattle.std.specs.Prelude.{◌≡◌, refl, ℕ, [], ◌∷◌, List, Option, Some, None}
use Rattle.std.proofs.Common.{arith}
use Rattle.croner_scheduler.specs.Ids.{ById, job_of}
use Rattle.croner_scheduler.specs.Private.Places.{entries_in, ids_of, id_room, PutsInFront}
use Rattle.croner_scheduler.specs.Room.{FewGone}

-- the ids 3, 4 and 7, of which 4 was removed
places : List (Option ℕ)
places = Some 30 ∷ None ∷ Some 70 ∷ []

a_removed_job_is_none : entries_in (3 ∷ 4 ∷ 7 ∷ []) places ≡ (3, 30) ∷ (7, 70) ∷ []
unfolding places
a_removed_job_is_none = refl

two : ById ℕ
two = record { entries = (3, 30) ∷ (7, 70) ∷ []; next_id = 8; room = 0 }

the_job_of_an_id : job_of two 7 ≡ Some 70
unfolding two
the_job_of_an_id = refl

no_job_of_a_removed_id : job_of two 4 ≡ None
unfolding two
no_job_of_a_removed_id = refl

-- 7 goes to the place of 4, which goes to that of 7
put_in_front : PutsInFront (3 ∷ 4 ∷ 7 ∷ []) places 1 2 (3 ∷ 7 ∷ 7 ∷ []) (Some 30 ∷ Some 70 ∷ None ∷ []) 2
unfolding places
put_in_front = (refl, refl, refl)

-- an empty place stays
left : PutsInFront (3 ∷ 4 ∷ 7 ∷ []) places 1 1 (3 ∷ 4 ∷ 7 ∷ []) places 1
unfolding places
left = (refl, refl, refl)

-- the ids 3 and 4, before 5, aren't listed, and there is room for more than a program can have
ids_that_follow_one_another : ids_of {Z = ℕ} 3 5 None ≡ 3 ∷ 4 ∷ []
ids_that_follow_one_another = refl

room_for_ids_that_are_not_listed : id_room {Z = ℕ} None ≡ 18446744073709551615
room_for_ids_that_are_not_listed = refl

-- of 16, two may be gone, and not three
two_of_sixteen_gone : FewGone 16 14
two_of_sixteen_gone = omega arith

three_of_sixteen_gone : ¬ (FewGone 16 13)
three_of_sixteen_gone few = omega (arith, few)
