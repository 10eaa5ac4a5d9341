use Rattle.wasm_binary_write.proofs.Written.{written}
use Rattle.wasm_binary_write.proofs.modules.write.Goals as goal

pub returns : goal.returns
returns c = written c.args.module.now _ _ _ c.as_slice.result.now c.in_ok-out.ensures c.in_ok-push_section.ensures c.in_ok-push_rest.ensures c.as_slice.ensures
