-- Lines and files that are told one after the other.
use Rattle.std.proofs.Common.{◌≡◌, ◌<◌, ◌≤◌, ◌+◌, ℕ, List, [], ◌∷◌, ◌++◌, Bool, true, false, Option, Some, None, Result, Ok, Err, inl, inr, ap, sym, ◌∙◌, subst, refl, take, length, get_or, map}
use Rattle.std.specs.Prelude.{IfSome, OnOk, string_bytes, IsPermutation, IsSorted, if◌then◌else◌}
use Rattle.std.specs.declared.alloc.Global.{Global}
use Rattle.std.specs.declared.string.String.{String}
use Rattle.std.specs.String.{string_cmp}
use Rattle.std.proofs.lemmas.List.{map_more, take_all}
use Rattle.crontab.specs.declared.line.Dialect.{Dialect}
use Rattle.croncheck_reading.specs.declared.progress.Terms.{Terms}
use Rattle.croncheck_reading.specs.declared.progress.TermsByKind.{TermsByKind}
use Rattle.crontab.specs.Checked.{LineRead, entry_of_line, TakesInTurn, TakesAll}
use Rattle.croncheck_reading.specs.Files.{Contents}
use Rattle.croncheck_files.specs.Folder.{sort_of}
use Rattle.croncheck_files.specs.Names.{File, dialect_of}
use Rattle.croncheck_output.specs.Builds.{path_shown}
use Rattle.croncheck_files.specs.declared.fitness.Unfit.{Unfit}
use Rattle.croncheck_files.specs.declared.folder.Sort.{Sort}
use Rattle.croncheck_output.specs.Output.{Written, IsFlushed}
use Rattle.croncheck_reading.specs.Tally.{status_of}
use Rattle.croncheck_reading.specs.Sink.{State, at_file, Ends, EndsFile, IsToldFile, IsToldAs, IsToldOf, IsToldEntry, IsToldFolder, IsToldAsked, IsToldStatus, terms_of}
use Rattle.croncheck_reading.specs.Stand.{Stand}
use Rattle.crontab.proofs.TakenLines.{in_turn_push}

-- ---- the lines of a file

module _ {S T V Y : Type 0} (view : S → V) (terms_of : S → T) (Leaves : T → V → Y → V → Type 0) where
  -- one is taken by terms that stay
  abbrev pub Takes : S → Y → S → Type 0
  Takes old y new = Leaves (terms_of old) (view old) y (view new) × (terms_of new ≡ terms_of old)

  in_turn_seen : (t : T) (ys : List Y) (old new : S) → terms_of old ≡ t → TakesInTurn Takes old ys new
      → TakesInTurn (Leaves t) (view old) ys (view new) × (terms_of new ≡ t)
  in_turn_seen t [] old new e h = (ap view h, ap terms_of h ∙ e)
  in_turn_seen t (y ∷ ys) old new e h =
      let between = h.0 in
      let told = h.1 in
      let P : T → Type 0 = λ x. Leaves x (view old) y (view between) in
      let rest = in_turn_seen t ys between new (told.1 ∙ e) h.2 in
      ((view between, subst P e told.0, rest.0), rest.1)

-- the lines of a file were taken, and its end was told
pub file_told : {S T F : Type 0} (view : S → State F) (terms_of : S → T) (Leaves : T → State F → LineRead → State F → Type 0)
    (ends : F → Stand → Written → Written → Type 0) (dialect : Dialect) (name : List ℕ) (unfit : Option Unfit) (remaining : Option (List ℕ)) (t : T) (before : State F) (old new : S)
    (after : State F) → terms_of old ≡ t → view old ≡ at_file name unfit before → TakesAll (Takes view terms_of Leaves) dialect remaining old new
    → EndsFile ends dialect (view new) after → IfSome remaining (λ text. IsToldFile (Leaves t) ends dialect name unfit text before after)
file_told view terms_of Leaves ends dialect name unfit None t before old new after same begun taken ended = tt
file_told {S} {T} {F} view terms_of Leaves ends dialect name unfit (Some text) t before old new after same begun taken ended =
    let ys = map (entry_of_line dialect) taken.0 in
    let told = in_turn_seen view terms_of Leaves t ys old new same taken.2 in
    let P : State F → Type 0 = λ s. TakesInTurn (Leaves t) s ys (view new) in
    (taken.0, view new, taken.1, subst P begun told.0, ended)

-- what holds where a reader's text is known, of a reader whose text is known
pub of_text : {T E : Type 0} (r : Result T E) (remaining : Option (List ℕ)) (text : List ℕ) (P : List ℕ → Type 0) → remaining ≡ Some text
    → OnOk r (IfSome remaining P) → OnOk r (P text)
of_text (Ok x) remaining text P is h = subst (λ (o : Option (List ℕ)). IfSome o P) is h
of_text (Err e) remaining text P is h = tt

-- ---- files

module _ {M X V S : Type 0} (Has : M → Type 0) (view : X → V) (Tells : M → S → V → S → Type 0) where
  -- the first of some were told, unless one failed
  abbrev pub SoFar : List X → S → S → Bool → Type 0
  SoFar xs old new failed = (m : M) → Has m → failed ≡ false → TakesInTurn (Tells m) old (map view xs) new

  pub so_far_none : (old : S) → SoFar [] old old false
  so_far_none old = λ m has ok. refl

  neither : (a b : Bool) → (if a then true else b) ≡ false → (a ≡ false) × (b ≡ false)
  neither true b h = absurd (cc)
  neither false b h = (refl, h)

  -- one more was told
  pub so_far_next : (xs : List X) (k : ℕ) (x d : X) (old between new : S) (failed fails either : Bool) → k < length xs → x ≡ get_or xs k d
      → either ≡ (if fails then true else failed) → SoFar (take k xs) old between failed → ((m : M) → Has m → fails ≡ false → Tells m between (view x) new)
      → SoFar (take (k + 1) xs) old new either
  so_far_next xs k x d old between new failed fails either within is joined before one = λ m has ok.
      let both = neither fails failed (sym joined ∙ ok) in
      let pushed : TakesInTurn (Tells m) old (map view (take k xs) ++ view x ∷ []) new =
      in_turn_push (Tells m) old between new (map view (take k xs)) (view x) (before m has both.1) (one m has both.0) in
      let here : TakesInTurn (Tells m) old (map view (take k xs) ++ view (get_or xs k d) ∷ []) new =
      subst (λ (y : X). TakesInTurn (Tells m) old (map view (take k xs) ++ view y ∷ []) new) is pushed in
      subst (λ (ys : List V). TakesInTurn (Tells m) old ys new) (sym (map_more view xs k d within)) here

  -- all of them were
  pub so_far_all : (xs : List X) (k : ℕ) (old new : S) (failed : Bool) → length xs ≤ k → SoFar (take k xs) old new failed → SoFar xs old new failed
  so_far_all xs k old new failed all before = subst (λ (ys : List X). SoFar ys old new failed) (take_all k xs all) before

-- a file was told by the terms of its kind
pub told_as : {F : Type 0} (takes : Terms → State F → LineRead → State F → Type 0) (ends_file : Terms → F → Stand → Written → Written → Type 0)
    (kinds : TermsByKind) (m : Contents) (f : File) (t : Terms) (dialect : Dialect) (unfit : Option Unfit) (old new : State F) (remaining : Option (List ℕ))
    → t ≡ terms_of kinds dialect → dialect ≡ dialect_of f → unfit ≡ m.unfit_of f.word → remaining ≡ Some (m.text_of f.word)
    → IfSome remaining (λ x. IsToldFile (takes t) (ends_file t) t.settings.now.dialect (path_shown f.name) unfit x old new)
    → IsToldAs takes ends_file kinds m f old new
told_as {F} takes ends_file kinds m f t dialect unfit old new remaining is_t is_dialect is_unfit is h =
    let same : t ≡ terms_of kinds (dialect_of f) = is_t ∙ ap (terms_of kinds) is_dialect in
    let text = m.text_of f.word in
    let P : List ℕ → Type 0 = λ x. IsToldFile (takes t) (ends_file t) t.settings.now.dialect (path_shown f.name) unfit x old new in
    let here : P text = subst (λ (o : Option (List ℕ)). IfSome o P) is h in
    let fit = subst (λ (u : Option Unfit). IsToldFile (takes t) (ends_file t) t.settings.now.dialect (path_shown f.name) u text old new) is_unfit here in
    subst (λ (u : Terms). IsToldFile (takes u) (ends_file u) u.settings.now.dialect (path_shown f.name) (m.unfit_of f.word) text old new) same fit

-- a file was told as its sort says
pub told_of : {F : Type 0} (takes : Terms → State F → LineRead → State F → Type 0) (ends_file : Terms → F → Stand → Written → Written → Type 0)
    (kinds : TermsByKind) (m : Contents) (f : File) (answer : Bool) (sort : Sort) (old new : State F) → sort ≡ sort_of answer f → answer ≡ m.is_folder f.word
    → IsToldOf sort takes ends_file kinds m f old new → IsToldAsked takes ends_file kinds m old f new
told_of {F} takes ends_file kinds m f answer sort old new is_sort is h =
    subst (λ (s : Sort). IsToldOf s takes ends_file kinds m f old new) (is_sort ∙ ap (λ (b : Bool). sort_of b f) is) h

-- all files were told, and their end
pub told_status : {F : Type 0} (takes : Terms → State F → LineRead → State F → Type 0) (ends_file : Terms → F → Stand → Written → Written → Type 0)
    (ends : Terms → F → Written → Written → Type 0) (kinds : TermsByKind) (m : Contents) (files : List File) (t : Terms) (old last ended new : State F)
    (failed : Bool) (status : ℕ) → t ≡ kinds.user → (failed ≡ false → TakesInTurn (IsToldAsked takes ends_file kinds m) old files last)
    → Ends (ends t) last ended → Ends (λ form. IsFlushed) ended new → status ≡ (if failed then 3 else status_of t.settings.now.is_strict new.stand.tally)
    → IsToldStatus takes ends_file ends kinds m files old new status
told_status takes ends_file ends kinds m files t old last ended new true status same told ending flushed is = inl is
told_status takes ends_file ends kinds m files t old last ended new false status same told ending flushed is =
    let at_end = subst (λ (u : Terms). Ends (ends u) last ended) same ending in
    let strictly : status ≡ status_of kinds.user.settings.now.is_strict new.stand.tally =
    is ∙ ap (λ (u : Terms). status_of u.settings.now.is_strict new.stand.tally) same in
    inr ((last, ended, told refl, at_end, flushed), strictly)

-- the files of a folder were told
pub told_folder : {F : Type 0} (takes : Terms → State F → LineRead → State F → Type 0) (ends_file : Terms → F → Stand → Written → Written → Type 0)
    (kinds : TermsByKind) (m : Contents) (f : File) (old new : State F) (found names : List (String Global)) → found ≡ m.names_of f.word
    → IsPermutation found names → IsSorted string_cmp names
    → TakesInTurn (IsToldEntry takes ends_file kinds m f) old (map (λ name. string_bytes name) names) new → IsToldFolder takes ends_file kinds m f old new
told_folder takes ends_file kinds m f old new found names is all in_order told =
    record { names = names; all = subst (λ (xs : List (String Global)). IsPermutation xs names) is all; in_order = in_order; told = told }
