use Rattle.std.proofs.Common.{map, arith}
use Rattle.sem_words.specs.Lists.{list_items}
use Rattle.wasm_tree.specs.Views.{instr_of}
use Rattle.wasm_run_flat.proofs.Arrays.{jump_got, no_jump}
use Rattle.wasm_run_flat.proofs.body.Body.jump.Goals as goal

pub returns-then-at-len : goal.returns-then-at-len
returns-then-at-len c =
    let v = c.self.inside in
    jump_got v.jumps.items (map instr_of (list_items v.instrs)) c.args.self.now c.args.at c.self.invariant c.self.view_is c.index.result.now (omega (arith, v.jumps.ok.0, c.len.ensures)) c.index.ensures

pub returns-else-at-len : goal.returns-else-at-len
returns-else-at-len c =
    let v = c.self.inside in
    no_jump v.jumps.items (map instr_of (list_items v.instrs)) c.args.self.now c.args.at c.self.invariant c.self.view_is (omega (arith, v.jumps.ok.0, c.len.ensures))
