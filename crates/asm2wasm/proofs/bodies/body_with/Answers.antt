use Rattle.std.proofs.Common.{◌-◌, max, length, map, ◌∙◌, ap}
use Rattle.sem_words.specs.Lists.{list_items}
use Rattle.wasm_tree.specs.Views.{instr_of, locals_in}
use Rattle.asm2wasm_translation.specs.Numbers.{first_scratch}
use Rattle.asm2wasm_numbers.specs.Functions.{scope_said}
use Rattle.asm2wasm_emit_switches.specs.Reach.{farthest}
use Rattle.asm2wasm.proofs.Whole.{body_is}
use Rattle.asm2wasm.proofs.bodies.body_with.Goals as goal

pub returns : goal.returns
returns c =
    let scope = scope_said c.args.numbers.now in
    body_is c.args.heap scope (locals_in (list_items c.in_ok-locals.locals)) c.locals_of.result (map instr_of (list_items c.into_list-code.result)) (map instr_of (list_items c.in_ok-ended.field-0))
    c.reaches.ensures
    (c.into_list-code.ensures ∙ c.in_ok-emit_function.ensures)
    (c.locals_of.ensures ∙ ap (λ is. max (first_scratch scope.within) (farthest (map instr_of is)) - length scope.within.params) c.as_slice.ensures)
    c.in_ok-locals.ensures
    c.in_ok-ended.ensures
