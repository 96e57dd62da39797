-- Findings as one object of the Static Analysis Results Interchange Format. The members of an object stand in the order of their names. Sources:
-- OASIS, "Static Analysis Results Interchange Format (SARIF) Version 2.1.0"; RFC 3986 ("Unreserved Characters"); and this crate's documentation
-- of `Sarif`.
use Rattle.std.specs.Prelude.{◌≡◌, ℕ, ◌+◌, ◌==◌, ◌||◌, ◌&&◌, nat_le, nat_lt, ◌/◌, ◌%◌, Bool, not, List, [], ◌∷◌, ◌++◌, length, take, map, filter, codes, Option, Some, None, string_bytes, IsUtf8, if◌then◌else◌}
use Rattle.std.specs.Char.{is_ascii_alphanumeric}
use Rattle.serde_json.specs.Data.{Data, number, unsigned, string, array, object, member, no_members}
use Rattle.serde_json.specs.View.{items_of}
use Rattle.serde_json.specs.Written.{compact_text}
use Rattle.croncheck_findings.specs.declared.findings.Extent.{Extent}
use Rattle.croncheck_findings.specs.declared.findings.Finding.{Finding}
use Rattle.croncheck_forms.specs.declared.sarif.columns.Columns.{Columns}
use Rattle.croncheck_forms.specs.declared.sarif.rules.Rule.{Rule}
use Rattle.croncheck_output.specs.Severity.{severity_name}
use Rattle.croncheck_reading.specs.Tally.{one_more}

-- ---- names of files

-- a byte stands for itself in the path of a URI: a letter, a digit, one of `-._~`, or the slash between names
abbrev pub is_uri_byte : ℕ → Bool
is_uri_byte b = is_ascii_alphanumeric b || (b == 45 || (b == 46 || (b == 95 || (b == 126 || b == 47))))

-- the sign of a value below 16
abbrev pub hex_digit : ℕ → ℕ
hex_digit n = if nat_lt n 10 then 48 + n else 55 + n

-- a byte as it stands there: any other by its value, as `%20`
abbrev pub uri_byte : ℕ → List ℕ
uri_byte b = if is_uri_byte b then b ∷ [] else 37 ∷ hex_digit (b / 16) ∷ hex_digit (b % 16) ∷ []

-- the name of a file as a relative URI
abbrev pub uri_of : List ℕ → List ℕ
uri_of [] = []
uri_of (b ∷ bs) = uri_byte b ++ uri_of bs

-- ---- columns

-- the byte continues a character of UTF-8
abbrev pub continues : ℕ → Bool
continues b = nat_le 128 b && nat_lt b 192

-- the characters that begin within so many bytes of a line
abbrev pub characters : ℕ → List ℕ → ℕ
characters n line = length (filter (λ b. not (continues b)) (take n line))

-- the columns of a place of a line, in characters from 1; the second is that after its last one
abbrev pub columns_of : List ℕ → Extent → Columns
columns_of line extent = record { start = one_more (characters extent.start line); end = one_more (characters extent.end line) }

-- the columns of a place, where it is one of a line that is text: else there are none
abbrev pub AreColumns : Option (List ℕ) → Extent → Option Columns → Type 0
AreColumns None extent columns = columns ≡ None
AreColumns (Some line) extent None = ¬ (IsUtf8 line)
AreColumns (Some line) extent (Some c) = IsUtf8 line × (c ≡ columns_of line extent)

-- ---- results

-- a text, as a message or a description
abbrev pub text_object : List ℕ → Data
text_object text = object (member (codes "text") (string text) no_members)

-- a region of a file: a line, and where there are columns those
abbrev pub region : ℕ → Option Columns → Data
region line None = object (member (codes "startLine") (number (unsigned line)) no_members)
region line (Some c) = object
    (member (codes "endColumn") (number (unsigned c.end))
    (member (codes "startColumn") (number (unsigned c.start))
    (member (codes "startLine") (number (unsigned line)) no_members)))

-- a location: the name of a file as a URI, and a region there
abbrev pub location : List ℕ → ℕ → Option Columns → Data
location file line columns =
    object (member (codes "physicalLocation")
    (object (member (codes "artifactLocation") (object (member (codes "uri") (string (uri_of file)) no_members)) (member (codes "region") (region line columns) no_members)))
    no_members)

-- a finding at a line of a file
abbrev pub result_object : List ℕ → ℕ → Option Columns → Finding → Data
result_object file line columns f = object
    (member (codes "level") (string (severity_name f.severity))
    (member (codes "locations") (array (items_of (location file line columns ∷ [])))
    (member (codes "message") (text_object (string_bytes f.text))
    (member (codes "ruleId") (string f.name.now) no_members))))

-- ---- the tool

-- where it is said what cron makes of a line
abbrev pub help_uri : List ℕ
help_uri = codes "https://manpages.debian.org/cron/crontab.5"

-- a rule: what a name of a finding stands for
abbrev pub rule_object : Rule → Data
rule_object r = object
    (member (codes "helpUri") (string help_uri)
    (member (codes "id") (string r.name.now)
    (member (codes "shortDescription") (text_object r.text.now) no_members)))

-- this program in a version, with its rules
abbrev pub tool_object : List ℕ → List Rule → Data
tool_object version rules = object (member (codes "driver")
    (object
    (member (codes "name") (string (codes "croncheck"))
    (member (codes "rules") (array (items_of (map rule_object rules)))
    (member (codes "version") (string version) no_members))))
    no_members)

-- what stands in front of the results
abbrev pub head_text : List ℕ → List Rule → List ℕ
head_text version rules =
    codes "{\"$schema\":\"https://json.schemastore.org/sarif-2.1.0.json\",\"version\":\"2.1.0\",\"runs\":[{\"columnKind\":\"unicodeCodePoints\",\"tool\":"
    ++ (compact_text (tool_object version rules) ++ codes ",\"results\":[\n")
