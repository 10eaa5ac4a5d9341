use Rattle.std.proofs.Common.{◌+◌, max, map, drop, sym, ap, ◌∙◌, arith}
use Rattle.wasm_lang.specs.Limits.{levels_from}
use Rattle.wasm_tree.specs.Views.{instr_of}
use Rattle.wasm_validate_bodies.specs.Counts.{depth_after}
use Rattle.wasm_validate_bodies.proofs.Bodies.{instrs_from}
use Rattle.wasm_validate_bodies.proofs.Levels.{levels_on, one_more_at_most}
use Rattle.wasm_validate_bodies.proofs.counts.levels_of.Goals as goal

pub loop-instr-preserved : goal.loop-instr-preserved
loop-instr-preserved c =
    let at = c.instr-item in
    let l = c.loop-instr in
    let rest = map instr_of (drop (l.instr-index + 1) c.args.code.now) in
    let on = instrs_from c.args.code.now l.instr-index at.result at.is c.loop-instr-test.true in
    record {
      rest = l.invariant.rest ∙ ap (λ is. max l.most (levels_from l.depth is)) on ∙ levels_on l.most l.depth (instr_of at.result) rest
          ∙ ap (λ n. max n (levels_from (depth_after l.depth (instr_of at.result)) rest)) (sym c.larger-most.ensures)
          ∙ ap (λ n. max c.larger-most.result (levels_from n rest)) (sym c.depth_after-depth.ensures);
      within = let h = one_more_at_most l.depth (instr_of at.result) in omega (arith, h, l.invariant.within, c.depth_after-depth.ensures);
    }
