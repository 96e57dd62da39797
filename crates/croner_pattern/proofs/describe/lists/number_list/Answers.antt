use Rattle.std.proofs.Common.{arith, ◌+◌, map, drop, string_bytes}
use Rattle.croner_pattern.specs.Lists.{item_text, number_items, number_list, streaks_of}
use Rattle.croner_pattern.proofs.descriptions.ListsWritten.{text_list-from_place}
use Rattle.croner_pattern.proofs.descriptions.StreaksWritten.{streaks_begun, streak_more, items_left}
use Rattle.croner_pattern.proofs.describe.lists.number_list.Goals as goal

pub loop-start-init : goal.loop-start-init
loop-start-init c = record {
  counted = omega arith;
  within = omega arith;
  written = streaks_begun c.args.and.now _ c.args.values.now _ c.in_ok-text.ensures.bytes (text_list-from_place c.args.and.now (map item_text (number_items c.args.values.now)));
}

pub loop-start-preserved : goal.loop-start-preserved
loop-start-preserved c =
    let streak = c.streak_end-end.ensures in
    let written = c.in_ok-place.ensures in
    let left = items_left c.args.values.now c.streak_end-end.result streak.within in
    record {
      counted = omega (arith, written.counted, c.loop-start.invariant.counted, streak.even, streak.ahead);
      within = omega (arith, streak.within);
      written = streak_more c.args.and.now c.loop-start.place c.in_ok-place.place _ _ _ (string_bytes c.loop-start.text) (string_bytes c.push_streak.new.text) (number_list c.args.and.now c.args.values.now) (streaks_of (drop c.loop-start.start c.args.values.now)) (streaks_of (drop (c.streak_end-end.result + 1) c.args.values.now)) streak.streak left written c.loop-start.invariant.written;
    }
