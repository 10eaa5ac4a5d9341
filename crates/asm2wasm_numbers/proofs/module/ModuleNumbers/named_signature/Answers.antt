use Rattle.std.proofs.Common.{ap, ◌∙◌}
use Rattle.asm_tree.specs.declared.tree.Module.{Module as Tree}
use Rattle.asm_tree.specs.Views.{module_view}
use Rattle.asm_lang_valid.specs.Scope.{function_signature, module_meaning}
use Rattle.asm2wasm_numbers.proofs.module.ModuleNumbers.named_signature.Goals as goal

pub returns : goal.returns
returns c =
    c.function_signature.ensures
    ∙ ap function_signature (c.meaning.ensures.known ∙ ap (λ (t : Tree). module_meaning (module_view t) c.as_bytes.result.now) (c.self.invariant.home_is ∙ c.self.view_is) ∙ ap (module_meaning (module_view c.args.self.now)) c.as_bytes.ensures)
