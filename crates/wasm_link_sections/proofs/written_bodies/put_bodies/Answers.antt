use Rattle.std.proofs.Common.{arith}
use Rattle.wasm_binary_write.specs.Spelling.{body, sized}
use Rattle.wasm_binary_write.proofs.Turned.{when_ok}
use Rattle.wasm_link_sections.specs.Made.{module_made}
use Rattle.wasm_link_sections.proofs.Sections.{all_put}
use Rattle.wasm_link_sections.proofs.written_bodies.put_bodies.Goals as goal

pub returns : goal.returns
returns c =
    when_ok c.put_size.result _ _
    (all_put 10 c.bodies_count-count.result (λ b. sized (body b)) (module_made c.args.numbers.now).bodies c.args.out.now.items c.push.new.self.items c.push_unsigned.new.out.items c.push_all.new.out.items c.put_size.new.out.items c.len-start.result
    c.bodies_count-count.ensures c.if-count-eq0.false c.in_ok-push.ensures.items (let counted = c.push.new.self.ok.0 in omega (arith, c.len-start.ensures, counted)) c.in_ok-push_unsigned.ensures c.in_ok-push_all.ensures)
    c.put_size.ensures
