use Rattle.std.proofs.Common.{◌≡◌, rules}
use Rattle.std.proofs.lemmas.Result.{on_ok_weaker, IfOk-from_err}
use Rattle.asm_lang.specs.Printing.{functions_text}
use Rattle.asm_grammar_print.specs.Put.{written, put}
use Rattle.wasm2js_translation.specs.Modules.{functions_of}
use Rattle.wasm2js.proofs.Printed.{all_printed}
use Rattle.wasm2js.proofs.printing.print_all.Goals as goal

pub returns-in_err-print_helpers : goal.returns-in_err-print_helpers
returns-in_err-print_helpers c =
    IfOk-from_err c.from_residual.result (λ v. written c.print_helpers.new.out ≡ put (written c.args.out.now) (functions_text (functions_of c.args.valid.now))) (search rules)

pub returns-in_err-print_functions : goal.returns-in_err-print_functions
returns-in_err-print_functions c =
    IfOk-from_err c.from_residual-in_err-print_functions.result (λ v. written c.print_functions.new.out ≡ put (written c.args.out.now) (functions_text (functions_of c.args.valid.now))) (search rules)

pub returns : goal.returns
returns c =
    on_ok_weaker c.print_last.result
    (all_printed c.args.valid.now (written c.args.out.now) (written c.print_helpers.new.out) (written c.print_functions.new.out) (written c.print_last.new.out) c.in_ok-print_helpers.ensures c.in_ok-print_functions.ensures)
    c.print_last.ensures
