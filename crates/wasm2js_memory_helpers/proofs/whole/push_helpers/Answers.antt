use Rattle.std.proofs.Common.{◌≡◌, ◌++◌, map, ap, ◌∙◌}
use Rattle.std.proofs.lemmas.Result.{IfOk-weaker}
use Rattle.sem_words.specs.Lists.{list_items}
use Rattle.wasm_lang.specs.Modules.{WasmModule}
use Rattle.asm_tree.specs.Views.{function_view}
use Rattle.wasm2js_translation.specs.Modules.{helpers}
use Rattle.wasm2js_needs.specs.Needs.{needs_for}
use Rattle.wasm2js_memory_helpers.specs.Choices.{helpers_with, memory_of}
use Rattle.wasm2js_memory_helpers.proofs.Memories.{helpers_are}
use Rattle.wasm2js_memory_helpers.proofs.whole.push_helpers.Goals as goal

pub returns : goal.returns
returns c =
    let old = map function_view (list_items c.args.functions.now) in
    let new = map function_view (list_items c.push_all.new.functions) in
    let needs = c.args.needs.now in
    IfOk-weaker c.push_all.result (λ _. new ≡ old ++ helpers_with needs c.args.memory) (λ _. (m : WasmModule) → c.args.memory ≡ memory_of m → needs ≡ needs_for m → new ≡ old ++ helpers m)
    (λ _ e m is asked. e ∙ ap (λ more. old ++ more) (helpers_are m needs c.args.memory is asked))
    c.push_all.ensures
