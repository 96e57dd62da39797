-- How long ago a run was, in units. Source: this crate's documentation of `Ago`.
use Rattle.std.specs.Prelude.{ℕ, List, [], ◌++◌, codes}
use Rattle.croner_words.specs.Swedish.{o_with_dots}
use Rattle.croncheck_report.specs.declared.settings.Tongue.{Tongue}
use Rattle.croncheck_report.specs.declared.settings.Tongue.TheVariants as tongues
use Rattle.croncheck_shown.specs.Off.{lasting_text}

-- the word in front of a length of time that has passed
abbrev pub ago_front : Tongue → List ℕ
ago_front tongues.English = []
ago_front tongues.Swedish = codes "f" ++ (o_with_dots ++ codes "r ")

-- the word after it
abbrev pub ago_end : Tongue → List ℕ
ago_end tongues.English = codes " ago"
ago_end tongues.Swedish = codes " sedan"

-- how long ago it was: `11 h 20 min ago`
abbrev pub ago_text : Tongue → ℕ → List ℕ
ago_text language n = ago_front language ++ (lasting_text n ++ ago_end language)
