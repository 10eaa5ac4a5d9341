use Rattle.std.proofs.Common.{Some, sym, ap, subst, ◌∙◌}
use Rattle.sem_words.specs.Lists.{text_bytes, list_items}
use Rattle.wasm_tree.specs.Views.{module_of, type_of, locals_in, body_of}
use Rattle.wasm_lang_exec.specs.Reductions.{top_of, below_top}
use Rattle.wasm_run_frames.specs.Views.{machine_of}
use Rattle.wasm_run_machine.specs.Functions.{bodies_of}
use Rattle.wasm_run_machine.specs.Asking.{Asks}
use Rattle.wasm_run_machine.proofs.Called.{viewed, call_asks, call_enters}
use Rattle.wasm_run_machine.proofs.calls.call.Goals as goal

pub returns-in_ok-flow-in-Import : goal.returns-in_ok-flow-in-Import
returns-in_ok-flow-in-Import c = λ n r are s.
    let m = module_of c.args.«module».now in
    let v = machine_of c.args.machine.now in
    let B = bodies_of c.args.functions.now in
    let u = record v { values = c.split_top.new.self.values; below = c.split_top.new.self.below } in
    let words = rw c.in-Some-2.is at c.in_ok-arguments.ensures.words in
    c.in_ok-flow-in-Import.ensures B m n r
    (subst (λ results. Asks B m u (text_bytes c.in-Import.name) c.in-Some-2.arguments.items results n r) (sym c.as_slice.ensures)
    (call_asks m c.args.functions.now are v c.args.function n r c.in-Some.function.now (type_of c.in-Some-get.kind.now) c.in-Import.name c.in-Some-2.arguments.items c.split_top.new.self.values c.split_top.new.self.below
    (sym c.in-Some.ensures) (viewed type_of (list_items c.args.«module».now.types) c.in-Some.function.now.kind c.in-Some-get.kind.now c.in-Some-get.ensures.value) c.in-Import.is
    (ap (λ k. top_of k v.values) (sym c.len.ensures) ∙ words.0) (words.1 ∙ ap (λ k. below_top k v.values) c.len.ensures) c.split_top.ensures.below s))

pub returns-in_ok-enter_function-in-Own : goal.returns-in_ok-enter_function-in-Own
returns-in_ok-enter_function-in-Own c = λ n r are s.
    let m = module_of c.args.«module».now in
    let v = machine_of c.args.machine.now in
    let words = rw c.in-Some-2.is at c.in_ok-arguments.ensures.words in
    call_enters m c.args.functions.now are v (machine_of c.enter_function.new.machine) c.args.function n r c.in-Some.function.now (type_of c.in-Some-get.kind.now) c.in-Own.field-0 c.in-Own.entry
    (body_of c.in-Some-get-2.body.now) (locals_in c.as_slice-in-Own.result.now) c.len-arity.result c.in-Some-2.arguments.items c.split_top.new.self.values c.split_top.new.self.below
    (ap locals_in c.as_slice-in-Own.ensures) c.len-arity.ensures
    (sym c.in-Some.ensures) (viewed type_of (list_items c.args.«module».now.types) c.in-Some.function.now.kind c.in-Some-get.kind.now c.in-Some-get.ensures.value) c.in-Own.is
    (viewed body_of (list_items c.args.«module».now.bodies) c.in-Own.entry c.in-Some-get-2.body.now c.in-Some-get-2.ensures.value)
    (ap (λ k. top_of k v.values) (sym c.len.ensures) ∙ words.0) (words.1 ∙ ap (λ k. below_top k v.values) c.len.ensures) c.split_top.ensures.below
    c.in_ok-enter_function-in-Own.ensures s
