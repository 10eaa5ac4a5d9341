use Rattle.std.proofs.Common.{rules, ◌≡◌, ◌++◌, map, OnOk}
use Rattle.wasm_binary_write.specs.Spelling.{items, segment}
use Rattle.wasm_binary_write.proofs.Turned.{when_ok}
use Rattle.wasm_link_sections.specs.Made.{segment_made}
use Rattle.wasm_link_sections.proofs.Sections.{both_pushed}
use Rattle.wasm_link_sections.proofs.written_back.push_all_segments.Goals as goal

pub returns : goal.returns
returns c =
    let w = c.args.numbers.now in
    let one = map segment_made w.first.segments in
    let two = map segment_made w.second.segments in
    let first : c.push_segments.new.out.items ≡ c.args.out.now.items ++ items segment one = search rules in
    let second : OnOk c.push_segments-2.result (c.push_segments-2.new.out.items ≡ c.push_segments.new.out.items ++ items segment two) = search rules in
    when_ok c.push_segments-2.result _ _ (both_pushed segment one two c.args.out.now.items c.push_segments.new.out.items c.push_segments-2.new.out.items first) second
