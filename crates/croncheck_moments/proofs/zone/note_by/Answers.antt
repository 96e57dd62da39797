use Rattle.std.proofs.Common.{rules, ◌≡◌, ℤ, pos, w32, Some, string_bytes, subst}
use Rattle.std.proofs.lemmas.Int.{to_z-of_z}
use Rattle.croncheck_moments.specs.Zone.{utc_and_hours, note_text}
use Rattle.croncheck_moments.proofs.ZoneWords.{said_of}
use Rattle.croncheck_moments.proofs.zone.note_by.Goals as goal

pub returns-in_ok-note_text-in-Some : goal.returns-in_ok-note_text-in-Some
returns-in_ok-note_text-in-Some c =
    let off : ¬ (c.args.ahead ≡ pos 0) = search rules in
    let parts : Some (c.in-Some.name.now, c.in-Some.hours.now) ≡ utc_and_hours c.args.word.now = search rules in
    let said =
    subst (λ (ahead : ℤ). string_bytes c.in_ok-note_text-in-Some.field-0 ≡ note_text c.in-Some.name.now c.in-Some.hours.now ahead)
    (to_z-of_z w32 c.args.ahead c.ranges.ahead) c.in_ok-note_text-in-Some.ensures in
    said_of c.args.word.now c.in-Some.name.now c.in-Some.hours.now _ c.args.ahead off parts said
