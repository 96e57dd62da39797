-- What a JSON value means as a job.
use Rattle.std.specs.Prelude.{Result, Err}
use Rattle.serde_json.specs.Data.{Data, string}
use Rattle.croner_pattern.specs.Meaning.{Meaning}
use Rattle.croner.specs.parser.Grammar.{Refusal, Invalid, outcome}
use Rattle.croner.specs.parser.Settings.{default_settings}

-- a string means what its text means with the default settings, and no other value means anything
abbrev pub json_outcome : Data → Result Meaning Refusal
json_outcome (string text) = outcome default_settings text
json_outcome other = Err Invalid
