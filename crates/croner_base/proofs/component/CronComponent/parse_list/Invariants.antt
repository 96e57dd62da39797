use Rattle.std.proofs.Common.{◌≡◌, length}
use Rattle.croner_base.specs.Part.{parts_of, pieces_at}
use Rattle.croner_base.proofs.fields.PartsInTurn.{HasRead}
use Rattle.croner_base.proofs.component.CronComponent.parse_list.Given as goal

abbrev pub invariant-loop-part : goal.invariant-loop-part
invariant-loop-part l = record {
  number : l.number ≡ length l.yielded;
  read : HasRead l.initial.self.shape (pieces_at 44 l.fn.list) (length l.yielded) l.self (parts_of l.initial.self.shape (pieces_at 44 l.fn.list)) l.initial.self;
}
