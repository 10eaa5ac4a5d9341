use Rattle.std.proofs.Common.{◌≡◌, ◌++◌, take, reverse, ap, ◌∙◌}
use Rattle.wasm_run_operands.specs.Stack.{Stack}
use Rattle.wasm_run_operands.proofs.StackLemmas.{values_leave, below_leave}
use Rattle.wasm_run_operands.proofs.operands.Operands.leave.Goals as goal

pub returns : goal.returns
returns c = λ vs bs e n.
    let f = c.self.inside.floor in
    let xs = c.self.inside.words.items in
    let below : reverse (take f xs) ≡ vs ++ bs = ap (λ (s : Stack). s.below) c.self.view_is ∙ e in
    (values_leave f c.args.floor xs vs bs below n ∙ ap (λ (s : Stack). s.values ++ vs) c.self.view_is, below_leave f c.args.floor xs vs bs below n)
