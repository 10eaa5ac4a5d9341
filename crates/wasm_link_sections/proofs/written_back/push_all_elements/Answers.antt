use Rattle.std.proofs.Common.{rules, ◌≡◌, ◌++◌, false, map, true, OnOk}
use Rattle.wasm_binary_write.specs.Spelling.{element, items}
use Rattle.wasm_binary_write.proofs.Turned.{when_ok}
use Rattle.wasm_link_lang.specs.Reductions.{entries}
use Rattle.wasm_link_sections.specs.Made.{element_made, function_in}
use Rattle.wasm_link_sections.proofs.Sections.{both_pushed}
use Rattle.wasm_link_sections.proofs.written_back.push_all_elements.Goals as goal

pub returns : goal.returns
returns c =
    let w = c.args.numbers.now in
    let one = map (element_made (function_in w false) 0) w.first.elements in
    let two = map (element_made (function_in w true) (entries w.first)) w.second.elements in
    let first : c.push_elements.new.out.items ≡ c.args.out.now.items ++ items element one = search rules in
    let second : OnOk c.push_elements-2.result (c.push_elements-2.new.out.items ≡ c.push_elements.new.out.items ++ items element two) = search rules in
    when_ok c.push_elements-2.result _ _ (both_pushed element one two c.args.out.now.items c.push_elements.new.out.items c.push_elements-2.new.out.items first) second
