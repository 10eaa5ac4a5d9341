use Rattle.std.proofs.Common.{◌≡◌, map, rules}
use Rattle.std.proofs.lemmas.Result.{IfOk-from_err}
use Rattle.sem_words.specs.Lists.{list_items}
use Rattle.asm_tree.specs.Views.{module_view, function_view}
use Rattle.wasm2js_translation.specs.Modules as code
use Rattle.wasm2js.proofs.Joined.{whole}
use Rattle.wasm2js.proofs.translating.translated.Goals as goal

pub returns : goal.returns
returns c = whole c.args.valid.now (module_view c.in_ok-module.module) (map function_view (list_items c.in_ok-functions.functions)) c.in_ok-module.ensures c.in_ok-functions.ensures

pub returns-in_err-module : goal.returns-in_err-module
returns-in_err-module c = IfOk-from_err c.from_residual-in_err-module.result (λ m. module_view m ≡ code.translated c.args.valid.now) (search rules)
