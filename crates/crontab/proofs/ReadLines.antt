-- The entry of a line, as what takes it sees it.
use Rattle.std.proofs.Common.{◌≡◌, ◌∙◌, ℕ, Bool, List, Option, Some, ap, refl}
use Rattle.crontab.specs.declared.line.Dialect.{Dialect}
use Rattle.crontab.specs.declared.line.Entry.{Entry}
use Rattle.crontab.specs.declared.line.Entry.TheVariants as entries
use Rattle.crontab.specs.Checked.{LineRead, read_in, line_seen}
use Rattle.crontab.specs.Entries.{entry_seen, place_seen}
use Rattle.crontab.specs.Line.{Line, is_system, entry_of}
use Rattle.crontab.specs.Place.{place_of, NamesPlace}

abbrev between : ℕ → ℕ → Option (ℕ × ℕ)
between start end = Some (start, end)

both : (a b c d : ℕ) → a ≡ b → c ≡ d → between a c ≡ between b d
both a b c d h k = ap (λ (x : ℕ). between x c) h ∙ ap (between b) k

-- the place that an entry names is that of its line
places_same : (system : Bool) (bytes : List ℕ) (entry : Entry) → NamesPlace system bytes entry → place_seen entry ≡ place_of system bytes (entry_seen entry)
places_same system bytes entries.Blank h = refl
places_same system bytes entries.Comment h = refl
places_same system bytes (entries.Setting is_zone) h = refl
places_same system bytes (entries.Job j) h = refl
places_same system bytes (entries.Pattern text) h = refl
places_same system bytes (entries.Refused fault start end) h = both _ _ _ _ h.0 h.1

-- what is seen of an entry that is that of its line, in its place, is what was read
pub seen_as_read : (dialect : Dialect) (bytes : List ℕ) (entry : Entry) (is_fed : Bool) → entry_seen entry ≡ entry_of dialect bytes
    → NamesPlace (is_system dialect) bytes entry → line_seen bytes entry is_fed ≡ read_in dialect bytes is_fed
seen_as_read dialect bytes entry is_fed seen named =
    let With : Line → LineRead = λ is. record { bytes = bytes; is = is; place = place_of (is_system dialect) bytes is; is_fed = is_fed } in
    ap (λ (place : Option (ℕ × ℕ)). record { bytes = bytes; is = entry_seen entry; place = place; is_fed = is_fed }) (places_same (is_system dialect) bytes entry named)
    ∙ ap With seen
