-- Texts in elements of a page, and lists of them. Sources: the HTML standard, section 13.1.2 (elements), and this crate's documentation.
use Rattle.std.specs.Prelude.{ℕ, Bool, List, [], ◌∷◌, ◌++◌, if◌then◌else◌}
use Rattle.std.specs.Fmt.{decimal}
use Rattle.std.specs.List.{flat_map}
use Rattle.cronplan_forms.specs.declared.escapes.Form.TheVariants as forms
use Rattle.cronplan_forms.specs.Escapes.{escaped_text}
use Rattle.cronplan_page.specs.declared.markup.Line.{Line}
use Rattle.cronplan_page.specs.declared.pieces.Piece.{Piece}
use Rattle.cronplan_page.specs.declared.pieces.Piece.TheVariants as pieces
use Rattle.cronplan_page.specs.Pieces.{piece_text}

-- a text as it is written in an element: no byte of it ends the element
abbrev pub html : List ℕ → List ℕ
html text = escaped_text forms.Html text

-- a text between two pieces of markup
unfoldable pub element : Piece → List ℕ → Piece → List ℕ
element front text back = piece_text front ++ (html text ++ piece_text back)

-- a number in a cell of its own
unfoldable pub number_text : ℕ → List ℕ
number_text n = piece_text pieces.Number ++ (decimal n ++ piece_text pieces.CellEnd)

-- a line of a list
unfoldable pub line_text : Line → List ℕ
line_text line = element pieces.Item line.head.now pieces.ItemRest ++ (html line.rest.now ++ piece_text pieces.ItemEnd)

-- some lines
unfoldable pub lines_text : List Line → List ℕ
lines_text lines = flat_map line_text lines

-- a list, or what is said where it has no line
unfoldable pub list_text : List Line → Piece → List ℕ
list_text [] none = piece_text none
list_text (line ∷ lines) none = piece_text pieces.List ++ (lines_text (line ∷ lines) ++ piece_text pieces.ListEnd)

-- the begin of a list, or what is said where it is empty; and its end
abbrev pub list_begin : Bool → Piece → List ℕ
list_begin is_empty none = if is_empty then piece_text none else piece_text pieces.List

abbrev pub list_end : Bool → List ℕ
list_end is_empty = if is_empty then [] else piece_text pieces.ListEnd

-- both around lines
unfoldable pub list_of : Bool → Piece → List ℕ → List ℕ
list_of is_empty none lines = list_begin is_empty none ++ (lines ++ list_end is_empty)

-- a section: its heading and its list
unfoldable pub section_text : Piece → List Line → Piece → List ℕ
section_text heading lines none = piece_text heading ++ list_text lines none
