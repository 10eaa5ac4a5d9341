use Rattle.std.proofs.Common.{map, ap, ◌∙◌}
use Rattle.std.proofs.lemmas.Result.{on_ok_weaker}
use Rattle.sem_words.specs.Lists.{list_items}
use Rattle.asm_lang.specs.Printing.{functions_text}
use Rattle.asm_tree.specs.Views.{function_view}
use Rattle.asm_grammar_print.specs.Put.{written, put}
use Rattle.wasm2js_translation.specs.Modules.{helpers}
use Rattle.wasm2js_functions.proofs.Printed.{printed}
use Rattle.wasm2js.proofs.printing.print_helpers.Goals as goal

pub returns : goal.returns
returns c =
    on_ok_weaker c.put_functions.result
    (λ own. printed (written c.args.out.now) (written c.put_functions.new.out) (map function_view (list_items c.new-made.result)) (map function_view (list_items c.push_helpers.new.functions)) (helpers c.args.valid.now)
    (ap (map function_view) c.new-made.ensures) (c.in_ok-push_helpers.ensures c.args.valid.now c.memory.ensures c.in_ok-needs.ensures)
    (own ∙ ap (λ fs. put (written c.args.out.now) (functions_text (map function_view fs))) c.as_slice.ensures))
    c.put_functions.ensures
