use Rattle.std.proofs.Common.{rules, ap, sym, ◌∙◌, string_bytes}
use Rattle.croner.specs.parser.Cut.{replaced}
use Rattle.croner.specs.Private.parser.Steps.{with_front, has_dash, Advances}
use Rattle.croner.proofs.parser.Names.{with_front-nil}
use Rattle.croner.proofs.parser.prepare.replace_names.Goals as goal

pub loop-rest-init : goal.loop-rest-init
loop-rest-init c = record { is_text = c.utf8.text; same = rw c.in_ok-written.ensures.bytes (with_front-nil _) }

pub loop-rest-preserved : goal.loop-rest-preserved
loop-rest-preserved c =
    let step : Advances c.args.quartz c.loop-rest.after_dash c.loop-rest.rest.now (string_bytes c.loop-rest.written) (string_bytes c.push_piece.new.written) c.in-Some.next.now = search rules in
    record {
      is_text = step.is_text;
      same =
          ap (λ t. with_front (string_bytes c.push_piece.new.written) (replaced c.args.quartz (has_dash t) c.in-Some.next.now)) c.as_bytes.ensures.value ∙ sym step.same
          ∙ c.loop-rest.invariant.same;
    }
