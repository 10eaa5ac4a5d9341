use Rattle.std.proofs.Common.{◌≡◌, ◌++◌, subst, OnOk}
use Rattle.wasm_tree.specs.Views.{instr_of}
use Rattle.wasm_binary_write.specs.Spelling.{instruction}
use Rattle.wasm_binary_write.proofs.Spelled.{items_map}
use Rattle.wasm_binary_write.proofs.instrs.push_instrs.Goals as goal

pub returns : goal.returns
returns c =
    subst (λ own. OnOk c.push_items.result (c.push_items.new.out.items ≡ c.args.out.now.items ++ own)) (items_map instruction instr_of c.args.list.now) c.push_items.ensures
