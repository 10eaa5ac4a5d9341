use Rattle.wasm_binary_write.proofs.Written.{begun_written}
use Rattle.wasm_binary_write.proofs.modules.begun.Goals as goal

pub returns : goal.returns
returns c = begun_written c.args.module.now _ _ _ c.in_ok-out.ensures.items c.in_ok-push_section.ensures c.as_slice.ensures
