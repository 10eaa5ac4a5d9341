use Rattle.wasm_validate.proofs.FunctionTypes.{found_or_past}
use Rattle.wasm_validate.proofs.module.Valid.func_type.Goals as goal

pub returns : goal.returns
returns c = found_or_past c.args.self.now c.args.function _ (c.module_laws.ensures c.args.self.now c.args.function c.numbered.ensures.valid) c.numbered.ensures.found
