-- Where a command ends, from a place on; and how far words lead to a program.
use Rattle.std.proofs.Common.{◌≡◌, ◌∙◌, ◌<◌, ◌+◌, ℕ, List, ◌∷◌, length, get_or, drop, sym, ap}
use Rattle.std.specs.Prelude.{option_map, unwrap_or, if◌then◌else◌}
use Rattle.std.proofs.lemmas.List.{at_drop_more}
use Rattle.crontab.specs.declared.bytes.Kind.TheVariants as kinds
use Rattle.crontab.specs.Bytes.{front}
use Rattle.crontab.specs.Line.{next}
use Rattle.croncheck_planner.specs.declared.plan.program.Place.{Place}
use Rattle.croncheck_planner.specs.Programs.{is_end, is_option, operand_along, place_after, program_along, step, text_after_command, text_after_sign}

-- the command ends at a place, or it ends after that
pub command_step : (at : Place) (text : List ℕ) (k : ℕ) (b d : ℕ) → k < length text → b ≡ get_or text k d
    → text_after_command at (drop k text)
    ≡ (if is_end at (drop k text) then text_after_sign (drop k text) else text_after_command (place_after at b) (drop (k + 1) text))
command_step at text k b d inside is =
    at_drop_more (text_after_command at) text k d inside
    ∙ ap (λ (rest : List ℕ). if is_end at rest then text_after_sign rest else text_after_command (place_after at (get_or text k d)) (drop (k + 1) text)) (sym (at_drop_more (λ (rest : List ℕ). rest) text k d inside))
    ∙ ap (λ (x : ℕ). if is_end at (drop k text) then text_after_sign (drop k text) else text_after_command (place_after at x) (drop (k + 1) text)) (sym is)

-- one step more
pub program_step : (text command : List ℕ) (k : ℕ) → k < length command
    → program_along (drop k command) text ≡ unwrap_or (option_map (λ rest. program_along (drop (k + 1) command) rest) (step text)) text
program_step text command k inside = at_drop_more (λ (bs : List ℕ). program_along bs text) command k 0 inside

-- one option more
pub operand_step : (rest text : List ℕ) (k : ℕ) → k < length text
    → operand_along (drop k text) rest ≡ (if is_option (front kinds.Word rest) then operand_along (drop (k + 1) text) (next rest) else rest)
operand_step rest text k inside = at_drop_more (λ (bs : List ℕ). operand_along bs rest) text k 0 inside
