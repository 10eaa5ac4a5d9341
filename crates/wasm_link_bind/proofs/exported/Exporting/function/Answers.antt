use Rattle.std.proofs.Common.{◌≡◌, sym, ap, ◌∙◌}
use Rattle.wasm_lang.specs.Modules.{WasmModule}
use Rattle.wasm_lang_exec.specs.Session.{function_named}
use Rattle.wasm_link_bind.specs.Exports.{joined, found}
use Rattle.wasm_link_bind.proofs.exported.Exporting.function.Goals as goal

pub returns-in-Some : goal.returns-in-Some
returns-in-Some c =
    ap joined c.in-Some.ensures.value ∙ ap (found c.self.inside.functions) c.of.ensures ∙ c.self.invariant.0 c.args.name.now ∙ ap (λ (m : WasmModule). function_named m.exports c.args.name.now) c.self.view_is
