use Rattle.std.proofs.Common.{[], ◌++◌, length, map, refl, sym, ap, ◌∙◌}
use Rattle.sem_words.specs.Lists.{list_items}
use Rattle.wasm_laws_trees.specs.Spelled.{flat}
use Rattle.asm_tree.specs.declared.tree.Function.{Function}
use Rattle.asm_tree.specs.Views.{local_view, stmts_view}
use Rattle.asm2wasm_translation.specs.Bodies.{function_code, locals_code, body_code}
use Rattle.asm2wasm_numbers.specs.Functions.{scope_said}
use Rattle.asm2wasm_emit_pieces.proofs.Joined.{joined}
use Rattle.asm2wasm_emit_switches.proofs.Pieces.{first_narrow, rest_narrow}
use Rattle.asm2wasm_emit_values.specs.Contexts.{scope_in}
use Rattle.asm2wasm_emit_bodies.proofs.Bodies.{function_split}
use Rattle.asm2wasm_emit_bodies.proofs.functions.emit_function.Goals as goal

pub emit_locals-requires-clause-narrow : goal.emit_locals-requires-clause-narrow
emit_locals-requires-clause-narrow c =
    let context = c.new-context.result in
    let w = c.args.numbers.now in
    let ps = c.as_slice-first.result.now in
    let ls = c.as_slice.result.now in
    let ss = list_items w.function.body in
    let split = function_split context c.args.size w ps ls ss c.new-context.ensures.numbers c.new-context.ensures.size (c.as_slice-first.ensures ∙ ap (λ (f : Function). list_items f.params) c.function-function.ensures) (c.as_slice.ensures ∙ ap (λ (f : Function). list_items f.locals) c.function-function.ensures) refl in
    first_narrow (function_code c.args.size (scope_said w)) (locals_code context.size (scope_in context) (length ps) (map local_view ls)) (body_code context.size (scope_in context) (stmts_view ss)) split c.requires.narrow

pub emit_body-requires : goal.emit_body-requires
emit_body-requires c =
    let context = c.new-context.result in
    let w = c.args.numbers.now in
    let ps = c.as_slice-first.result.now in
    let ls = c.as_slice.result.now in
    let ss = c.as_slice-2.result.now in
    let split = function_split context c.args.size w ps ls ss c.new-context.ensures.numbers c.new-context.ensures.size (c.as_slice-first.ensures ∙ ap (λ (f : Function). list_items f.params) c.function-function.ensures) (c.as_slice.ensures ∙ ap (λ (f : Function). list_items f.locals) c.function-function.ensures) (c.as_slice-2.ensures ∙ ap (λ (f : Function). list_items f.body) c.function-function.ensures) in
    record { narrow = rest_narrow (function_code c.args.size (scope_said w)) (locals_code context.size (scope_in context) (length ps) (map local_view ls)) (body_code context.size (scope_in context) (stmts_view ss)) split c.requires.narrow }

pub returns : goal.returns
returns c =
    let context = c.new-context.result in
    let w = c.args.numbers.now in
    let ps = c.as_slice-first.result.now in
    let ls = c.as_slice.result.now in
    let ss = c.as_slice-2.result.now in
    let split = function_split context c.args.size w ps ls ss c.new-context.ensures.numbers c.new-context.ensures.size (c.as_slice-first.ensures ∙ ap (λ (f : Function). list_items f.params) c.function-function.ensures) (c.as_slice.ensures ∙ ap (λ (f : Function). list_items f.locals) c.function-function.ensures) (c.as_slice-2.ensures ∙ ap (λ (f : Function). list_items f.body) c.function-function.ensures) in
    let first = locals_code context.size (scope_in context) (length ps) (map local_view ls) in
    joined [] c.emit_locals.new.output c.emit_body.new.output first (body_code context.size (scope_in context) (stmts_view ss)) (c.in_ok-emit_locals.ensures ∙ ap (λ l. l ++ flat first) c.new-output.ensures) c.in_ok-emit_body.ensures
    ∙ ap flat (sym split)
