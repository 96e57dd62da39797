use Rattle.std.proofs.Common.{◌≡◌, List, ℕ, subst, sym, ◌∙◌, rules, true}
use Rattle.std.specs.List.{list_all}
use Rattle.std.specs.Prelude.{string_bytes}
use Rattle.croncheck_output.specs.Escaped.{bytes_shown, is_harmless}
use Rattle.croncheck_output.proofs.HarmlessBytes.{shown_harmless, printed_same, all_small}
use Rattle.croncheck_output.proofs.escaped.shown_text.Goals as goal

pub returns-clause-harmless : goal.returns-clause-harmless
returns-clause-harmless c =
    let is : string_bytes c.push_shown.new.text ≡ bytes_shown c.args.bytes.now = search rules in
    let P : List ℕ → Type 0 = λ l. list_all is_harmless l ≡ true in
    subst P (sym is) (shown_harmless c.args.bytes.now (all_small c.args.bytes.now (λ k. (c.type_inv.bytes k).fits)))

pub returns-clause-same : goal.returns-clause-same
returns-clause-same c = λ h.
    let is : string_bytes c.push_shown.new.text ≡ bytes_shown c.args.bytes.now = search rules in
    is ∙ printed_same c.args.bytes.now h
