use Rattle.std.proofs.Common.{◌≡◌, ◌++◌, map, drop}
use Rattle.asm_tree.specs.Views.{module_view, function_view}
use Rattle.asm_lang_valid.specs.Scope.{signature_of}
use Rattle.asm2wasm_translation.specs.Numbers.{type_number}
use Rattle.asm2wasm_sections.proofs.signing.functions.Given as goal

abbrev pub invariant-loop-function : goal.invariant-loop-function
invariant-loop-function l =
    l.types.items ++ map (λ f. type_number (module_view l.numbers) (signature_of f)) (map function_view (drop l.function-index l.functions))
    ≡ map (λ f. type_number (module_view l.numbers) (signature_of f)) (map function_view l.functions)
