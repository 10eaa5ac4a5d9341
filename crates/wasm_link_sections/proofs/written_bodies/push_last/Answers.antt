use Rattle.std.proofs.Common.{◌++◌, map, ap, ◌∙◌}
use Rattle.wasm_tree.specs.Views.{body_of}
use Rattle.wasm_binary_write.specs.Spelling.{body, items, sized}
use Rattle.wasm_binary_write.proofs.Spelled.{items_map}
use Rattle.wasm_binary_write.proofs.Turned.{when_ok}
use Rattle.wasm_link_sections.specs.Made.{start_bodies_made}
use Rattle.wasm_link_sections.proofs.written_bodies.push_last.Goals as goal

pub returns : goal.returns
returns c =
    let w = c.args.numbers.now in
    let last = start_bodies_made w w.first.start w.second.start in
    let made = c.in_ok-push_start.ensures ∙ ap (λ l. map body_of l ++ last) c.new-bodies.ensures.items in
    when_ok c.push_items.result _ _
    (λ pushed. pushed ∙ ap (λ l. c.args.out.now.items ++ l) (ap (λ l. items (λ b. sized (body (body_of b))) l) c.as_slice.ensures.value ∙ items_map (λ b. sized (body b)) body_of c.push_start.new.bodies.items ∙ ap (λ l. items (λ b. sized (body b)) l) made))
    c.push_items.ensures
