use Rattle.std.proofs.Common.{rules, ◌≡◌, ◌++◌, false, true, OnOk}
use Rattle.wasm_binary_write.specs.Spelling.{exported, items}
use Rattle.wasm_binary_write.proofs.Turned.{when_ok}
use Rattle.wasm_link_code.specs.Linked.{moved_exports}
use Rattle.wasm_link_sections.specs.Made.{function_in}
use Rattle.wasm_link_sections.proofs.Sections.{both_pushed}
use Rattle.wasm_link_sections.proofs.written_back.push_all_exports.Goals as goal

pub returns : goal.returns
returns c =
    let w = c.args.numbers.now in
    let one = moved_exports (function_in w false) w.first.exports in
    let two = moved_exports (function_in w true) w.second.exports in
    let first : c.push_exports.new.out.items ≡ c.args.out.now.items ++ items exported one = search rules in
    let second : OnOk c.push_exports-2.result (c.push_exports-2.new.out.items ≡ c.push_exports.new.out.items ++ items exported two) = search rules in
    when_ok c.push_exports-2.result _ _ (both_pushed exported one two c.args.out.now.items c.push_exports.new.out.items c.push_exports-2.new.out.items first) second
