use Rattle.std.proofs.Common.{map, ap}
use Rattle.std.proofs.lemmas.Result.{on_ok_weaker}
use Rattle.asm_tree.specs.Views.{function_view, module_view}
use Rattle.asm_grammar_print.specs.Put.{written}
use Rattle.asm_grammar_print.proofs.ModulePuts.{module_in_turn}
use Rattle.asm_grammar_print.proofs.printing.put_module.Goals as goal

pub returns : goal.returns
returns c =
    on_ok_weaker c.put_back.result
    (module_in_turn (written c.args.out.now) (written c.put_front.new.out) (written c.put_functions.new.out) (written c.put_back.new.out) (module_view c.args.«module».now)
    (map function_view c.as_slice.result.now) (ap (map function_view) c.as_slice.ensures) c.in_ok-put_front.ensures c.in_ok-put_functions.ensures)
    c.put_back.ensures
