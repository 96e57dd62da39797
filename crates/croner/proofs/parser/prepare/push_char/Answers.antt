use Rattle.std.proofs.Common.{rules, arith, ◌≡◌, ◌++◌, string_bytes}
use Rattle.std.specs.Char.{encode_utf8}
use Rattle.std.specs.Str.Iter.{chars_rest}
use Rattle.croner.proofs.parser.Names.{advance_char, lost_char}
use Rattle.croner.proofs.parser.prepare.push_char.Goals as goal
use Rattle.croner.proofs.parser.prepare.push_char.Goals.{in_default-via-in-Some+else-not-means_nothing, in_default-via-in_default}

pub returns-in_ok-push-in-Some : goal.returns-in_ok-push-in-Some
returns-in_ok-push-in-Some c = λ quartz after_dash h.
    let first : c.args.text.now ≡ encode_utf8 c.in-Some.c ++ c.as_str.result.now = search rules in
    let pushed : string_bytes c.push.new.self ≡ string_bytes c.args.written.now ++ encode_utf8 c.in-Some.c = search rules in
    advance_char quartz after_dash c.args.text.now c.as_str.result.now (string_bytes c.args.written.now) (string_bytes c.push.new.self) c.in-Some.c c.utf8.text h (search rules) first pushed

pub returns-in_default : goal.returns-in_default
returns-in_default c = λ quartz after_dash h. elim c.in_default.branch [
  | in_default-via-in-Some+else-not-means_nothing w ↦
      let first : c.args.text.now ≡ encode_utf8 w.in-Some.c ++ chars_rest c.next.new.self = search rules in
      lost_char quartz after_dash c.args.text.now (chars_rest c.next.new.self) w.in-Some.c h (search rules) first
  | in_default-via-in_default w ↦ absurd (search (rules, arith))
]
