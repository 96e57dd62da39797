use Rattle.std.proofs.Common.{◌≡◌, rules, ◌<◌, [], get_or, map, length, string_bytes}
use Rattle.std.proofs.lemmas.List.{get_or-map, length-map}
use Rattle.croner_pattern.specs.Private.Lists.{separator}
use Rattle.croner_pattern.specs.Lists.{text_list}
use Rattle.croner_pattern.proofs.descriptions.ListsWritten.{text_list-begun, item_more}
use Rattle.croner_pattern.proofs.describe.lists.text_list.Goals as goal

pub loop-place-init : goal.loop-place-init
loop-place-init c = text_list-begun c.args.and.now _ (map string_bytes c.args.items.now) c.in_ok-text.ensures.bytes

pub loop-place-preserved : goal.loop-place-preserved
loop-place-preserved c =
    let items = map string_bytes c.args.items.now in
    let count = length-map c.args.items.now string_bytes in
    let within : c.loop-place.place < length items = rw count c.loop-place-test.true in
    let item : get_or items c.loop-place.place [] ≡ c.as_str.result.now = search (rules, get_or-map) in
    let more = item_more (separator c.args.and.now) (string_bytes c.loop-place.text) c.as_str.result.now (text_list c.args.and.now items) c.loop-place.place items within item c.loop-place.invariant in
    rw c.in_ok-push_item.ensures (rw count at more)
