use Rattle.std.proofs.Common.{◌≡◌, suc, ◌-◌, ◌<◌, List, ◌∷◌, length, drop, map, ap, ◌∙◌, arith}
use Rattle.std.specs.Prelude.{reverse}
use Rattle.wasm_tree.specs.Views.{instr_of}
use Rattle.wasm_run_flat.specs.declared.body.Jump.{Jump}
use Rattle.wasm_run_flat.specs.Jumps as places
use Rattle.wasm_run_flat.proofs.Arrays.{closings_from, jumps_more}
use Rattle.wasm_run_flat.proofs.body.jumps_of.Goals as goal

pub loop-at-preserved : goal.loop-at-preserved
loop-at-preserved c =
    let code = c.args.code.now in
    let l = c.loop-at in
    let before = l.at - 1 in
    let instr = c.index-code-at.result in
    let here : before < length code = omega arith in
    let next : suc before ≡ l.at = omega arith in
    let jump = places.first_jump (places.closings l.at (drop l.at (map instr_of code))) in
    let inner : c.innermost.result ≡ jump = c.innermost.ensures ∙ ap places.first_jump l.invariant.open_blocks in
    record {
      open_blocks = c.in_ok-close.ensures ∙ ap (places.closing before (instr_of instr)) l.invariant.open_blocks ∙ closings_from code before l.at instr here next c.index-code-at.is;
      jumps = c.in_ok-add.ensures ∙ ap (λ (j : Jump). j ∷ reverse l.jumps.items) inner ∙ ap (λ (js : List Jump). jump ∷ js) l.invariant.jumps
          ∙ jumps_more code before l.at instr here next c.index-code-at.is;
    }
