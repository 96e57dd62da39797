-- What a table has once a job is put in the place of another or taken out, and where it has none.
use Rattle.std.proofs.Common.{◌≡◌, ℕ, suc, ◌≤◌, List, length, map, take, drop, ◌++◌, None, sym, ap, ◌∙◌}
use Rattle.std.specs.Prelude.{slice_get, option_map}
use Rattle.std.specs.List.{remove}
use Rattle.std.proofs.lemmas.List.{map-append, map-set, take-map, drop-map}
use Rattle.std.proofs.lemmas.Option.{slice_get-map, slice_get_past}
use Rattle.croner.specs.declared.job.Cron.{Cron}
use Rattle.croner.specs.Views.{job_of}

-- the values of a list without an element are those of the list without that one's
pub map-remove : {X Y : Type 0} (f : X → Y) (xs : List X) (i : ℕ) → map f (remove xs i) ≡ remove (map f xs) i
map-remove f xs i =
    let before : take i (map f xs) ≡ map f (take i xs) = take-map f i xs in
    let after : drop (suc i) (map f xs) ≡ map f (drop (suc i) xs) = drop-map f (suc i) xs in
    let both : map f (take i xs ++ drop (suc i) xs) ≡ map f (take i xs) ++ map f (drop (suc i) xs) = map-append f (take i xs) (drop (suc i) xs) in
    cc

-- there is no pattern past the last job
pub past_jobs : (jobs : List Cron) (k : ℕ) → length jobs ≤ k → None ≡ slice_get (map job_of jobs) k
past_jobs jobs k past = sym (slice_get-map job_of jobs k ∙ ap (option_map job_of) (slice_get_past jobs k past))

pub ruleset changed_tables = (map-set, map-remove, past_jobs)
