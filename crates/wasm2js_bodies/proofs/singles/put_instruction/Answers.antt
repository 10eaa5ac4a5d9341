use Rattle.std.proofs.Common.{List, reverse, refl, ap, ◌∙◌}
use Rattle.wasm_lang.specs.declared.types.ValType.{ValType}
use Rattle.wasm_tree.specs.Views.{instr_of}
use Rattle.wasm2js_actions.specs.Scopes.{instruction_actions}
use Rattle.wasm2js_build.specs.Blocks.{statements_of}
use Rattle.wasm2js_build.specs.Growing.{State, run, waits_of, known_of, late_state, state_of}
use Rattle.wasm2js_operands.specs.Operands.{over}
use Rattle.wasm2js_operands.specs.Scopes.{context_in}
use Rattle.wasm2js_bodies.proofs.Lists.{all_above}
use Rattle.wasm2js_bodies.proofs.Plains.{late_after}
use Rattle.wasm2js_bodies.proofs.singles.put_instruction.Goals as goal

pub returns : goal.returns
returns c =
    let context = context_in c.args.walk.now.scope.now in
    let acts = λ (s : State) (ts : List ValType). instruction_actions c.args.walk.now.sizes.bytes context s.waits (instr_of c.args.instr.now) c.args.base ts in
    let made = λ (ts : List ValType). run (state_of c.late-straight.result) (acts (state_of c.late-straight.result) ts) in
    let all = over c.args.base c.args.types.now.items in
    c.into_late.ensures
    ∙ late_after c.instruction.new.straight (statements_of c.args.text.now.block) (waits_of c.args.text.now) (known_of c.args.text.now) (acts (late_state c.args.text.now) all)
    (c.in_ok-instruction.ensures context (record { locals = refl; globals = refl })
    ∙ ap (λ (ts : List ValType). made (reverse ts)) (all_above c.args.base c.deref.result.now)
    ∙ ap (λ (ts : List ValType). made (over c.args.base ts)) c.deref.ensures.value
    ∙ ap (λ (s : State). run s (acts s all)) c.late-straight.ensures)
