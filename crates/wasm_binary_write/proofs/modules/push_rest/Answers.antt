use Rattle.wasm_binary_write.proofs.Written.{rest_written, if_ok}
use Rattle.wasm_binary_write.proofs.modules.push_rest.Goals as goal

pub returns : goal.returns
returns c =
    if_ok c.push_section-7.result
    (λ last. rest_written c.args.module.now c.args.out.now.items c.push_section.new.out.items c.push_tables.new.out.items
    c.push_section-2.new.out.items c.push_section-3.new.out.items c.push_section-4.new.out.items c.push_start.new.out.items c.push_section-5.new.out.items c.push_section-6.new.out.items
    c.push_section-7.new.out.items c.as_slice.result.now c.as_slice-2.result.now c.as_slice-3.result.now c.as_slice-4.result.now c.as_slice-5.result.now c.as_slice-6.result.now
    c.as_slice-7.result.now c.as_slice-8.result.now c.in_ok-push_section.ensures c.in_ok-push_tables.ensures c.in_ok-push_section-2.ensures
    c.in_ok-push_section-3.ensures c.in_ok-push_section-4.ensures c.in_ok-push_start.ensures c.in_ok-push_section-5.ensures c.in_ok-push_section-6.ensures last
    c.as_slice.ensures c.as_slice-2.ensures c.as_slice-3.ensures c.as_slice-4.ensures c.as_slice-5.ensures c.as_slice-6.ensures c.as_slice-7.ensures c.as_slice-8.ensures)
    c.push_section-7.ensures
