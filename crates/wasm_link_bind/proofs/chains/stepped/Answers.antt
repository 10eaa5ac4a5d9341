use Rattle.std.proofs.Common.{sym, ap, ◌∙◌, length}
use Rattle.wasm_link_bind.specs.Chains.{at}
use Rattle.wasm_link_bind.proofs.Steps.{all_stepped, stepped_count, stepped_whole}
use Rattle.wasm_link_bind.proofs.chains.stepped.Goals as goal

pub returns : goal.returns
returns c =
    let next = c.args.next.now in
    let all = stepped_whole next c.loop-a.table.items c.loop-a.a c.loop-a-test.false c.loop-a.invariant in
    record { count = ap length (sym all) ∙ stepped_count 0 next; steps = λ a. ap (λ t. at t a) (sym all) ∙ all_stepped next a }
