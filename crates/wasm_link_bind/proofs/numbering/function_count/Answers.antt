use Rattle.std.proofs.Common.{◌≡◌, ap, ◌∙◌, arith, length}
use Rattle.wasm_lang.specs.Modules.{WasmModule}
use Rattle.wasm_link_bind.proofs.Sums.{few_unbound_functions}
use Rattle.wasm_link_bind.proofs.numbering.function_count.Goals as goal

pub overflow_add-result : goal.overflow_add-result
overflow_add-result c =
    let few = few_unbound_functions c.args.bindings.now c.requires in
    let first = ap (λ (m : WasmModule). length m.functions) (c.module.ensures.given ∙ c.valid.ensures ∙ c.first.ensures) in
    omega (arith, few, first, c.len-first.ensures, c.unbound_imports.ensures)

pub overflow_add-result-2 : goal.overflow_add-result-2
overflow_add-result-2 c =
    let few = few_unbound_functions c.args.bindings.now c.requires in
    let first = ap (λ (m : WasmModule). length m.functions) (c.module.ensures.given ∙ c.valid.ensures ∙ c.first.ensures) in
    let second = ap (λ (m : WasmModule). length m.functions) (c.module-2.ensures.given ∙ c.valid-2.ensures ∙ c.second.ensures) in
    omega (arith, few, first, second, c.len-first.ensures, c.len-second.ensures, c.unbound_imports.ensures)

pub overflow_cast-result : goal.overflow_cast-result
overflow_cast-result c =
    let few = few_unbound_functions c.args.bindings.now c.requires in
    let first = ap (λ (m : WasmModule). length m.functions) (c.module.ensures.given ∙ c.valid.ensures ∙ c.first.ensures) in
    let second = ap (λ (m : WasmModule). length m.functions) (c.module-2.ensures.given ∙ c.valid-2.ensures ∙ c.second.ensures) in
    omega (arith, few, first, second, c.len-first.ensures, c.len-second.ensures, c.unbound_imports.ensures)
