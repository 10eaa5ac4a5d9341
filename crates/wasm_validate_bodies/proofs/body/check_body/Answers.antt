use Rattle.std.proofs.Common.{◌+◌, max, drop, map, sym, ap, ◌∙◌, arith}
use Rattle.wasm_tree.specs.Views.{instr_of}
use Rattle.wasm_lang_valid.specs.Measures.{peak}
use Rattle.wasm_lang_valid.specs.State.{step}
use Rattle.wasm_validate_bodies.specs.Scopes.{outside}
use Rattle.wasm_validate_bodies.proofs.Bodies.{instr_at, instrs_from, peak_on, is_refusal}
use Rattle.wasm_validate_bodies.proofs.body.check_body.Goals as goal

pub returns-in-Err-check-clause-exactly : goal.returns-in-Err-check-clause-exactly
returns-in-Err-check-clause-exactly c =
    let base = outside c.args.scope.now in
    let code = map instr_of c.args.code.now in
    let at = c.index-code-i in
    let stands = instr_at c.args.code.now c.loop-i.i at.result at.is c.loop-i-test.true in
    rw c.refusal.ensures
    (is_refusal base code c.loop-i.i (step base c.loop-i.blocks (instr_of at.result)) _ (λ rule q. c.body_laws.ensures.refuses base code c.loop-i.i (instr_of at.result) c.loop-i.blocks rule c.requires stands c.loop-i.invariant.pass q) c.in-Err-check.ensures)

pub loop-i-preserved : goal.loop-i-preserved
loop-i-preserved c =
    let base = outside c.args.scope.now in
    let l = c.loop-i in
    let at = c.index-code-i in
    let rest = map instr_of (drop (l.i + 1) c.args.code.now) in
    record {
      pass = c.body_laws.ensures.goes_on base (map instr_of c.args.code.now) l.i (instr_of at.result) l.blocks c.check.new.blocks (instr_at c.args.code.now l.i at.result at.is c.loop-i-test.true) l.invariant.pass c.in-Ok-check.ensures;
      peak = l.invariant.peak ∙ ap (λ is. max l.most (peak base l.blocks is)) (instrs_from c.args.code.now l.i at.result at.is c.loop-i-test.true)
          ∙ peak_on base l.most l.blocks c.check.new.blocks (instr_of at.result) rest c.in-Ok-check.ensures
          ∙ ap (λ n. max (max l.most n) (peak base c.check.new.blocks rest)) (sym c.standing.ensures.value)
          ∙ ap (λ n. max n (peak base c.check.new.blocks rest)) (sym c.larger-most.ensures);
      fits = omega (arith, c.larger-most.ensures, c.standing.ensures.fits, l.invariant.fits);
    }
