-- The files of a call, one after another.
use Rattle.std.proofs.Common.{◌≡◌, ◌<◌, ◌≤◌, ◌+◌, ◌∙◌, ℕ, zero, suc, List, [], ◌∷◌, ◌++◌, ap, sym, take, length, get_or, map, arith}
use Rattle.std.specs.Borrow.{Bor}
use Rattle.std.proofs.lemmas.List.{map-append, map_more, length-map, length-take-le}
use Rattle.croncheck_files.specs.declared.names.Asked.{Asked}
use Rattle.croncheck_files.specs.Names.{Options, File, asked_seen, asked_file_at, asked_files}

-- the file of one more word, which stands at the place after those of the others
asked_push : (o : Options) (s : List ℕ) (places : List ℕ) (i : ℕ) (words : List (List ℕ)) (w : List ℕ)
    → asked_files o s places i (words ++ w ∷ []) ≡ asked_files o s places i words ++ asked_file_at o s (get_or places (i + length words) 0) w ∷ []
asked_push o s places i [] w =
    let same : i ≡ i + zero = omega arith in ap (λ (j : ℕ). asked_file_at o s (get_or places j 0) w ∷ []) same
asked_push o s places i (x ∷ words) w =
    let same : (i + 1) + length words ≡ i + suc (length words) = omega arith in
    ap (λ (fs : List File). asked_file_at o s (get_or places i 0) x ∷ fs)
    (asked_push o s places (i + 1) words w
    ∙ ap (λ (j : ℕ). asked_files o s places (i + 1) words ++ asked_file_at o s (get_or places j 0) w ∷ []) same)

-- the files of the first words, with that of one word more
pub asked_next : (o : Options) (s : List ℕ) (places : List ℕ) (words : List (Bor (List ℕ))) (k : ℕ) (files all : List Asked) (file : Asked) (d : Bor (List ℕ))
    → k < length words → all ≡ files ++ file ∷ [] → asked_seen file ≡ asked_file_at o s (get_or places k 0) (get_or words k d).now
    → map asked_seen files ≡ asked_files o s places 0 (map (λ word. word.now) (take k words))
    → map asked_seen all ≡ asked_files o s places 0 (map (λ word. word.now) (take (k + 1) words))
asked_next o s places words k files all file d within joined is before =
    let w = (get_or words k d).now in
    let first = map (λ (word : Bor (List ℕ)). word.now) (take k words) in
    let below : k ≤ length words = omega arith in
    let many : length first ≡ k = length-map (take k words) (λ (word : Bor (List ℕ)). word.now) ∙ length-take-le k words below in
    let n : k ≡ 0 + length first = omega arith in
    let more : asked_files o s places 0 (map (λ (word : Bor (List ℕ)). word.now) (take (k + 1) words))
    ≡ asked_files o s places 0 first ++ asked_file_at o s (get_or places (0 + length first) 0) w ∷ [] =
    ap (asked_files o s places 0) (map_more (λ (word : Bor (List ℕ)). word.now) words k d within) ∙ asked_push o s places 0 first w in
    ap (map asked_seen) joined ∙ map-append asked_seen files (file ∷ []) ∙ ap (λ (fs : List File). fs ++ asked_seen file ∷ []) before
    ∙ ap (λ (f : File). asked_files o s places 0 first ++ f ∷ []) (is ∙ ap (λ (j : ℕ). asked_file_at o s (get_or places j 0) w) n) ∙ sym more
