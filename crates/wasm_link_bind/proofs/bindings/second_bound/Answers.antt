use Rattle.std.proofs.Common.{◌∙◌}
use Rattle.wasm_link_lang.specs.Pairs.{function_imports}
use Rattle.wasm_link_bind.proofs.Finals.{all_from_zero}
use Rattle.wasm_link_bind.proofs.bindings.second_bound.Goals as goal

pub returns : goal.returns
returns c = c.in_ok-bound.ensures ∙ all_from_zero c.args.first.now (function_imports c.args.second.now.imports)
