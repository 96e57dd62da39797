-- Lists are written piece by piece.
use Rattle.std.proofs.Common.{◌≡◌, ℕ, ◌+◌, ◌-◌, ◌<◌, ◌≤◌, eqb, leb, cond, true, false, List, [], ◌∷◌, ◌++◌, map, take, drop, length, get_or, ap, sym, ◌∙◌, subst, arith, Result, Ok, Err, string_bytes}
use Rattle.std.specs.declared.string.String.{String}
use Rattle.std.specs.declared.alloc.Global.{Global}
use Rattle.croner_base.specs.declared.errors.CronError.{CronError}
use Rattle.std.proofs.lemmas.Bool.Decides.{nat_tests}
use Rattle.std.proofs.lemmas.List.{get_or-map, get_or_append_left, length-append, length-map, length-take, take_all, append-nil}
use Rattle.std.proofs.Math.Seq.{drop-append_seam}
use Rattle.croner_pattern.specs.Private.Lists.{from_place}
use Rattle.croner_pattern.proofs.descriptions.ListsWritten.{item_more}
use Rattle.croner_summary.specs.declared.language.Style.{Style}
use Rattle.croner_summary.specs.declared.language.SummaryLanguage.{SummaryLanguage}
use Rattle.croner_summary.specs.declared.phrase.Piece.{Piece}
use Rattle.croner_summary.specs.declared.words.Kind.{Kind}
use Rattle.croner_summary.specs.Words.{items_of, left_text, list_text, piece_text, separator}
use Rattle.croner_summary.specs.Private.Appended.{Appends, BeginsList, Begun, WrittenTo}

pub one_more : (l : SummaryLanguage) (kind : Kind) (pieces : List Piece) (count place : ℕ) (d : Piece) (old text : List ℕ) → place < length pieces
    → WrittenTo l kind pieces count place old text → WrittenTo l kind pieces count (place + 1) old (text ++ (separator l place (eqb (place + 1) count) ++ piece_text l kind (get_or pieces place d)))
one_more l kind pieces count place d old text here before rest h =
    let items = map (piece_text l kind) pieces ++ rest in
    let piece = get_or pieces place d in
    let mapped : length (map (piece_text l kind) pieces) ≡ length pieces = length-map pieces (piece_text l kind) in
    let inside : place < length (map (piece_text l kind) pieces) = omega (arith, mapped) in
    let n : length items ≡ count = length-append (map (piece_text l kind) pieces) rest ∙ ap (λ k. k + length rest) mapped ∙ h in
    let within : place < length items = omega (arith, n) in
    let item : get_or items place [] ≡ piece_text l kind piece = get_or_append_left (map (piece_text l kind) pieces) rest [] place inside ∙ get_or-map (piece_text l kind) pieces place d [] here in
    subst (λ k. (text ++ (separator l place (eqb (place + 1) k) ++ piece_text l kind piece)) ++ from_place (separator l) (place + 1) (drop (place + 1) items) ≡ old ++ from_place (separator l) 0 items) n
    (item_more (separator l) text (piece_text l kind piece) (old ++ from_place (separator l) 0 items) place items within item (before rest h))

pub all_written : (l : SummaryLanguage) (kind : Kind) (pieces : List Piece) (count place : ℕ) (old text : List ℕ) → place ≡ length pieces
    → WrittenTo l kind pieces count place old text → Begun l kind pieces count old text
all_written l kind pieces count place old text e before rest h =
    let mapped : length (map (piece_text l kind) pieces) ≡ length pieces = length-map pieces (piece_text l kind) in
    let left : drop (length pieces) (map (piece_text l kind) pieces ++ rest) ≡ rest = ap (λ k. drop k (map (piece_text l kind) pieces ++ rest)) (sym mapped) ∙ drop-append_seam (map (piece_text l kind) pieces) rest in
    ap (λ r. text ++ from_place (separator l) (length pieces) r) (sym left)
    ∙ ap (λ k. text ++ from_place (separator l) k (drop k (map (piece_text l kind) pieces ++ rest))) (sym e)
    ∙ before rest h

all_taken : (n : ℕ) (pieces : List Piece) → length pieces ≤ n → take n pieces ≡ pieces
all_taken n pieces h = take_all n pieces h

pub whole_list : (style : Style) (kind : Kind) (pieces : List Piece) (old new : List ℕ) → length pieces ≤ style.most
    → Begun style.language kind pieces (length pieces) old new → new ≡ old ++ list_text style kind pieces
unfolding list_text
whole_list style kind pieces old new few begun =
    let l = style.language in
    let t = all_taken style.most pieces few in
    let test : leb (length pieces) style.most ≡ true = grind (arith, nat_tests) in
    let items : items_of style kind pieces ≡ map (piece_text l kind) pieces ++ [] = ap (λ xs. map (piece_text l kind) xs ++ cond (leb (length pieces) style.most) [] (left_text l (length pieces - style.most) ∷ [])) t ∙ ap (λ b. map (piece_text l kind) pieces ++ cond b [] (left_text l (length pieces - style.most) ∷ [])) test in
    sym (append-nil new) ∙ begun [] (omega arith) ∙ ap (λ xs. old ++ from_place (separator l) 0 xs) (sym items)

pub cut_list : (style : Style) (kind : Kind) (pieces : List Piece) (old mid new : List ℕ) → style.most < length pieces
    → Begun style.language kind (take style.most pieces) (style.most + 1) old mid
    → new ≡ mid ++ (separator style.language style.most true ++ left_text style.language (length pieces - style.most)) → new ≡ old ++ list_text style kind pieces
unfolding list_text
cut_list style kind pieces old mid new many begun is =
    let l = style.language in
    let more = left_text l (length pieces - style.most) in
    let n : length (take style.most pieces) ≡ style.most = omega (arith, length-take style.most pieces) in
    let test : leb (length pieces) style.most ≡ false = grind (arith, nat_tests) in
    let items : items_of style kind pieces ≡ map (piece_text l kind) (take style.most pieces) ++ (more ∷ []) = ap (λ b. map (piece_text l kind) (take style.most pieces) ++ cond b [] (more ∷ [])) test in
    is
    ∙ ap (λ r. mid ++ (separator l style.most true ++ r)) (sym (append-nil more))
    ∙ ap (λ k. mid ++ from_place (separator l) k (more ∷ [])) (sym n)
    ∙ begun (more ∷ []) (omega (arith, n))
    ∙ ap (λ xs. old ++ from_place (separator l) 0 xs) (sym items)

-- the same of what a call answers
pub whole_written : {X : Type 0} (style : Style) (kind : Kind) (pieces : List Piece) (old new : String Global) (answer : Result X CronError) → length pieces ≤ style.most
    → BeginsList style.language kind pieces (length pieces) old new answer → Appends (list_text style kind pieces) old new answer
whole_written style kind pieces old new (Ok x) few h = whole_list style kind pieces (string_bytes old) (string_bytes new) few h
whole_written style kind pieces old new (Err e) few h = h

pub cut_written : {X : Type 0} (style : Style) (kind : Kind) (pieces : List Piece) (old mid new : String Global) (answer : Result X CronError) → style.most < length pieces
    → Begun style.language kind (take style.most pieces) (style.most + 1) (string_bytes old) (string_bytes mid) → Appends (separator style.language style.most true ++ left_text style.language (length pieces - style.most)) mid new answer
    → Appends (list_text style kind pieces) old new answer
cut_written style kind pieces old mid new (Ok x) many begun h = cut_list style kind pieces (string_bytes old) (string_bytes mid) (string_bytes new) many begun h
cut_written style kind pieces old mid new (Err e) many begun h = h
