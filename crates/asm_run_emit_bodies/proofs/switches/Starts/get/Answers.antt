use Rattle.std.proofs.Common.{◌≡◌, ◌≤◌, ℕ, List, length, ap, ◌∙◌, arith}
use Rattle.asm_run_code.specs.Bodies.{start_of}
use Rattle.asm_run_emit_bodies.proofs.Cases.{start_found, start_past}
use Rattle.asm_run_emit_bodies.proofs.switches.Starts.get.Goals as goal

pub returns-then-k-count : goal.returns-then-k-count
returns-then-k-count c =
    let addresses = c.self.inside.addresses in
    let counted = addresses.ok.0 in
    let count : c.len-count.result ≡ length addresses.items = omega (arith, c.len-count.ensures) in
    start_found addresses.items c.args.k c.len-count.result _ c.index.result.now count c.if-k-count.true c.index.ensures
    ∙ ap (λ (l : List ℕ). start_of l c.args.k) c.self.view_is

pub returns-else-k-count : goal.returns-else-k-count
returns-else-k-count c =
    let addresses = c.self.inside.addresses in
    let counted = addresses.ok.0 in
    let past : length addresses.items ≤ c.args.k = omega (arith, c.len-count.ensures) in
    start_past addresses.items c.args.k past ∙ ap (λ (l : List ℕ). start_of l c.args.k) c.self.view_is
