use Rattle.std.proofs.Common.{rules, ◌≡◌, ◌++◌, List, ℕ, false, true}
use Rattle.wasm_lang.specs.Modules.{FunctionBody}
use Rattle.wasm_binary_write.specs.Spelling.{body, items, sized}
use Rattle.wasm_binary_write.proofs.Turned.{when_ok}
use Rattle.wasm_link_lang.specs.Reductions.{entries}
use Rattle.wasm_link_sections.specs.Made.{bodies_made, start_bodies_made}
use Rattle.wasm_link_sections.proofs.Sections.{both_pushed}
use Rattle.wasm_link_sections.proofs.written_bodies.push_all.Goals as goal

abbrev spelled : FunctionBody → List ℕ
spelled b = sized (body b)

pub returns : goal.returns
returns c =
    let w = c.args.numbers.now in
    let one = bodies_made w false w.first (entries w.second) 0 w.first.bodies in
    let two = bodies_made w true w.second (entries w.first) 0 w.second.bodies in
    let three = start_bodies_made w w.first.start w.second.start in
    let was = c.args.out.now.items in
    let half = c.push_side.new.out.items in
    let more = c.push_side-2.new.out.items in
    let now = c.push_last.new.out.items in
    let first : half ≡ was ++ items spelled one = search rules in
    let second : more ≡ half ++ items spelled two = search rules in
    when_ok c.push_last.result _ _ (λ last. both_pushed spelled one (two ++ three) was half now first (both_pushed spelled two three half more now second last)) c.push_last.ensures
