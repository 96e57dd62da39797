-- What a JSON string means.
use Rattle.std.proofs.Common.{◌≡◌, ℕ, List, Some, ap}
use Rattle.std.proofs.lemmas.Option.{none-some, same_Some}
use Rattle.serde_json.specs.Data.{Data, null, boolean, number, string, array, object}
use Rattle.serde_json.specs.Find.{as_str}
use Rattle.croner.specs.parser.Grammar.{outcome}
use Rattle.croner.specs.Json.{json_outcome}
use Rattle.croner.specs.parser.Settings.{default_settings}

-- what has a text means what the text means
pub text_meant : (d : Data) (text : List ℕ) → as_str d ≡ Some text → json_outcome d ≡ outcome default_settings text
text_meant null text e = absurd (none-some text e)
text_meant (boolean b) text e = absurd (none-some text e)
text_meant (number n) text e = absurd (none-some text e)
text_meant (string s) text e = ap (outcome default_settings) (same_Some s text e)
text_meant (array ds) text e = absurd (none-some text e)
text_meant (object ms) text e = absurd (none-some text e)
