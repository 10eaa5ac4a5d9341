use Rattle.std.proofs.Common.{◌≡◌, map, ap, rules}
use Rattle.std.proofs.lemmas.Result.{IfOk-from_err}
use Rattle.sem_words.specs.Lists.{list_items, text_bytes}
use Rattle.asm_tree.specs.Views.{module_view, global_view, function_view, table_view, exports_view, texts_view}
use Rattle.wasm2js.specs.Parts.{without_functions}
use Rattle.wasm2js.proofs.Joined.{frame}
use Rattle.wasm2js.proofs.translating.frame.Goals as goal

pub returns : goal.returns
returns c =
    frame c.args.valid.now (text_bytes c.in_ok-name.name) (texts_view (list_items c.in_ok-params.params)) (map global_view (list_items c.in_ok-variables.field-0))
    (map function_view (list_items c.new.result)) (map table_view (list_items c.in_ok-tables.field-0)) (exports_view c.in_ok-exports.field-0)
    c.in_ok-name.ensures c.in_ok-params.ensures c.in_ok-variables.ensures (ap (map function_view) c.new.ensures) c.in_ok-tables.ensures c.in_ok-exports.ensures

pub returns-in_err-variables : goal.returns-in_err-variables
returns-in_err-variables c = IfOk-from_err c.from_residual-in_err-variables.result (λ m. module_view m ≡ without_functions c.args.valid.now) (search rules)

pub returns-in_err-tables : goal.returns-in_err-tables
returns-in_err-tables c = IfOk-from_err c.from_residual-in_err-tables.result (λ m. module_view m ≡ without_functions c.args.valid.now) (search rules)
