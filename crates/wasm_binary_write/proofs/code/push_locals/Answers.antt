use Rattle.std.proofs.Common.{◌≡◌, ◌++◌, subst, OnOk, ap, ◌∙◌}
use Rattle.wasm_binary_write.specs.Spelling.{run, vector}
use Rattle.wasm_binary_write.specs.Views.{joined_of}
use Rattle.wasm_binary_write.proofs.Spelled.{vector_map}
use Rattle.wasm_binary_write.proofs.code.push_locals.Goals as goal

pub returns : goal.returns
returns c =
    subst (λ own. OnOk c.push_vector.result (c.push_vector.new.out.items ≡ c.args.out.now.items ++ own))
    (ap (λ l. vector (λ r. run (joined_of r)) l) c.deref.ensures.value ∙ vector_map run joined_of c.in_ok-list.list.items ∙ ap (λ l. vector run l) c.in_ok-list.ensures)
    c.push_vector.ensures
