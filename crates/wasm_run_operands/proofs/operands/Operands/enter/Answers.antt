use Rattle.std.proofs.Common.{◌≡◌, ◌++◌, ℕ, length, take, reverse, ap, ◌∙◌, arith}
use Rattle.wasm_run_operands.specs.Stack.{Stack}
use Rattle.wasm_run_operands.proofs.StackLemmas.{below_enter}
use Rattle.wasm_run_operands.proofs.operands.Operands.enter.Goals as goal

pub returns-clause-below : goal.returns-clause-below
returns-clause-below c =
    let all : c.len-self-inside.result ≡ length c.self.inside.words.items = omega arith in
    ap (λ (n : ℕ). reverse (take n c.self.inside.words.items)) all
    ∙ (below_enter c.self.inside.floor c.self.inside.words.items ∙ ap (λ (s : Stack). s.values ++ s.below) c.self.view_is)
