use Rattle.std.proofs.Common.{List, sym, ap, ◌∙◌}
use Rattle.std.proofs.lemmas.Result.{IfOk-weaker}
use Rattle.wasm_tree.specs.Views.{instr_of}
use Rattle.std.specs.Prelude.{reverse}
use Rattle.wasm2js_translation.specs.Words.{Action}
use Rattle.wasm2js_build.specs.Growing.{run, state_of}
use Rattle.wasm2js_actions.specs.Scopes.{least_context}
use Rattle.wasm2js_actions.proofs.Contexts.{same_instruction}
use Rattle.wasm2js_actions.proofs.plain.instruction.Goals as goal

pub returns : goal.returns
returns c = λ context suits.
    IfOk-weaker c.plain_instruction.result _ _ (λ _ h.
    h ∙ ap (λ (acts : List Action). run (state_of c.args.straight.now) acts)
    (sym (same_instruction c.args.scope.now.bytes context (least_context c.args.scope.now) (state_of c.args.straight.now).waits (instr_of c.args.instr.now) c.args.below (reverse c.args.stack.now) suits.locals suits.globals)))
    c.plain_instruction.ensures
