use Rattle.std.proofs.Common.{◌≡◌, ◌∙◌, ap, sym, ℕ, ◌-◌, ◌<◌, [], get_or, map, length, string_bytes}
use Rattle.std.proofs.lemmas.List.{get_or-map, length-map}
use Rattle.croner_pattern.specs.Description.{cyclic_name}
use Rattle.croner_pattern.specs.Private.Lists.{separator}
use Rattle.croner_pattern.specs.Lists.{text_list}
use Rattle.croner_pattern.proofs.descriptions.ListsWritten.{text_list-begun, item_more}
use Rattle.croner_pattern.proofs.describe.lists.name_list.Goals as goal

pub loop-place-init : goal.loop-place-init
loop-place-init c =
    text_list-begun c.args.and.now _ (map (λ value. cyclic_name (map (λ name. name.now) c.args.names.now) (value - c.args.first)) c.args.values.now) c.in_ok-text.ensures.bytes

pub loop-place-preserved : goal.loop-place-preserved
loop-place-preserved c =
    let name_of = λ (value : ℕ). cyclic_name (map (λ name. name.now) c.args.names.now) (value - c.args.first) in
    let items = map name_of c.args.values.now in
    let count = length-map c.args.values.now name_of in
    let within : c.loop-place.place < length items = rw count c.loop-place-test.true in
    let item : get_or items c.loop-place.place [] ≡ c.cyclic_name-name.result.now =
    get_or-map name_of c.args.values.now c.loop-place.place 0 [] c.loop-place-test.true ∙ sym (c.cyclic_name-name.ensures ∙ ap (cyclic_name (map (λ name. name.now) c.args.names.now)) (c.from.ensures ∙ c.saturating_sub.ensures)) in
    let more = item_more (separator c.args.and.now) (string_bytes c.loop-place.text) c.cyclic_name-name.result.now (text_list c.args.and.now items) c.loop-place.place items within item c.loop-place.invariant in
    rw c.in_ok-push_item.ensures (rw count at more)
