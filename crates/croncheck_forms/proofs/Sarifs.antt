-- Results and the tool: the names of files as URIs, and that no object has a float.
use Rattle.std.proofs.Common.{◌≡◌, ◌∙◌, ℕ, List, [], ◌∷◌, ◌++◌, Option, Some, None, false, map, append_assoc, ap, length, sym, refl, arith}
use Rattle.std.proofs.lemmas.List.{append-nil}
use Rattle.serde_json.specs.Data.{Data}
use Rattle.serde_json.specs.View.{items_of}
use Rattle.serde_json.specs.Written.{has_float, items_have_float, compact_text}
use Rattle.croncheck_findings.specs.declared.findings.Finding.{Finding}
use Rattle.croncheck_forms.specs.declared.sarif.columns.Columns.{Columns}
use Rattle.croncheck_forms.specs.declared.sarif.rules.Rule.{Rule}
use Rattle.croncheck_forms.specs.Sarif.{uri_byte, uri_of, region, result_object, rule_object, tool_object}

-- ---- URIs

-- the first byte was put after a URI
pub one_in_uri : (old new : List ℕ) (b : ℕ) (rest bytes : List ℕ) → new ≡ old ++ uri_byte b → bytes ≡ b ∷ rest → new ++ uri_of rest ≡ old ++ uri_of bytes
one_in_uri old new b rest bytes new_is is = rw (new_is, is) (append_assoc old (uri_byte b) (uri_of rest))

-- none is left
pub none_in_uri : (done all : List ℕ) (bytes : List ℕ) → length bytes ≡ 0 → done ++ uri_of bytes ≡ all → done ≡ all
none_in_uri done all [] none h = sym (append-nil done) ∙ h
none_in_uri done all (b ∷ bs) none h = absurd (omega (arith, none))

-- ---- no float

region_whole : (line : ℕ) (columns : Option Columns) → has_float (region line columns) ≡ false
region_whole line None = refl
region_whole line (Some c) = refl

result_whole : (file : List ℕ) (line : ℕ) (columns : Option Columns) (f : Finding) → has_float (result_object file line columns f) ≡ false
result_whole file line columns f = rw (region_whole line columns) refl

-- the text of a result without a float
pub result_written : (file : List ℕ) (line : ℕ) (columns : Option Columns) (f : Finding) (d : Data) (text : List ℕ) → d ≡ result_object file line columns f
    → (has_float d ≡ false → text ≡ compact_text d) → text ≡ compact_text (result_object file line columns f)
result_written file line columns f d text is text_is = text_is (ap has_float is ∙ result_whole file line columns f) ∙ ap compact_text is

rules_whole : (rules : List Rule) → items_have_float (items_of (map rule_object rules)) ≡ false
rules_whole [] = refl
rules_whole (r ∷ rs) = rules_whole rs

tool_whole : (version : List ℕ) (rules : List Rule) → has_float (tool_object version rules) ≡ false
tool_whole version rules = rw (rules_whole rules) refl

pub tool_written : (version : List ℕ) (rules : List Rule) (d : Data) (text : List ℕ) → d ≡ tool_object version rules
    → (has_float d ≡ false → text ≡ compact_text d) → text ≡ compact_text (tool_object version rules)
tool_written version rules d text is text_is = text_is (ap has_float is ∙ tool_whole version rules) ∙ ap compact_text is
