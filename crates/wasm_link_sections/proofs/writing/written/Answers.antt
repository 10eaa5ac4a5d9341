use Rattle.wasm_link_sections.specs.Made.{module_made}
use Rattle.wasm_link_sections.proofs.Sections.{whole}
use Rattle.wasm_link_sections.proofs.writing.written.Goals as goal

pub returns : goal.returns
returns c =
    whole (module_made c.args.numbers.now) _ _ _ _ _ _ c.in_ok-out.ensures c.in_ok-put_exports.ensures c.in_ok-put_start.ensures c.in_ok-put_elements.ensures c.in_ok-put_bodies.ensures c.in_ok-put_segments.ensures
