use Rattle.std.proofs.Common.{◌++◌, ap, ◌∙◌, arith}
use Rattle.wasm_tree.specs.Views.{body_of}
use Rattle.wasm_binary_write.specs.Spelling.{body}
use Rattle.wasm_binary_write.proofs.Turned.{sized_behind, when_ok}
use Rattle.wasm_link_move.specs.Moved.{side_of}
use Rattle.wasm_link_sections.specs.Made.{body_with}
use Rattle.wasm_link_sections.proofs.written_bodies.push_sized_body.Goals as goal

pub returns : goal.returns
returns c =
    when_ok c.put_size.result _ _
    (sized_behind c.args.out.now.items _ c.push_body.new.out.items c.put_size.new.out.items c.len-start.result (let counted = c.args.out.now.ok.0 in omega (arith, c.len-start.ensures, counted))
    (c.in_ok-push_body.ensures ∙ ap (λ k. c.args.out.now.items ++ body (body_with c.args.numbers.now (side_of c.args.side) k c.args.other (body_of c.args.body.now))) c.locals_count-scratch.ensures.value))
    c.put_size.ensures
