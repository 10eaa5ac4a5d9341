use Rattle.std.proofs.Common.{arith, sym, ◌∙◌}
use Rattle.wasm_binary_write.proofs.Turned.{section_put, when_ok}
use Rattle.wasm_binary_write.proofs.spell.push_section.Goals as goal

pub returns : goal.returns
returns g c =
    when_ok c.put_size.result _ _
    (section_put c.args.id g.T.Spell.spelling c.args.list.now c.args.out.now.items c.push.new.self.items c.push_vector.new.out.items c.put_size.new.out.items c.len-start.result (sym c.is_empty.ensures ∙ c.if-is_empty.false)
    c.in_ok-push.ensures.items (let counted = c.push.new.self.ok.0 in omega (arith, c.len-start.ensures, counted)) c.in_ok-push_vector.ensures)
    c.put_size.ensures
