use Rattle.std.proofs.Common.{◌≡◌, ◌∙◌, rules}
use Rattle.std.proofs.lemmas.Result.{IfOk-from_err}
use Rattle.asm_lang.specs.Printing.{canonical_text}
use Rattle.asm_tree.specs.Views.{module_view}
use Rattle.asm_grammar_print.specs.Put.{written}
use Rattle.wasm2js_translation.specs.Modules.{translated}
use Rattle.wasm2js.proofs.Printed.{text_is}
use Rattle.wasm2js.proofs.printing.print_in.Goals as goal

pub returns-in_err-put_back : goal.returns-in_err-put_back
returns-in_err-put_back c = IfOk-from_err c.from_residual-in_err-put_back.result (λ text. text.items ≡ canonical_text (translated c.args.valid.now)) (search rules)

pub returns : goal.returns
returns c =
    c.into_bytes.ensures
    ∙ text_is c.args.valid.now (module_view c.args.frame.now) (written c.new-out.result) (written c.put_front.new.out) (written c.print_all.new.out) (written c.put_back.new.out)
    c.requires.frame c.new-out.ensures c.in_ok-put_front.ensures c.in_ok-print_all.ensures c.in_ok-put_back.ensures
