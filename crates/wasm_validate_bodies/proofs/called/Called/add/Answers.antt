use Rattle.std.proofs.Common.{map, sym, subst}
use Rattle.wasm_tree.specs.Views.{type_of}
use Rattle.wasm_validate_bodies.specs.Calls.{IsCalled}
use Rattle.wasm_validate_bodies.proofs.Calls.{called_more}
use Rattle.wasm_validate_bodies.proofs.called.Called.add.Goals as goal

pub loop-instr-preserved : goal.loop-instr-preserved
loop-instr-preserved c =
    let types = map type_of c.args.types.now in
    let l = c.loop-instr in
    let at = c.instr-item in
    λ before is. subst (IsCalled c.note.new.self types) (sym (called_more types before c.args.code.now l.instr-index at.result at.is c.loop-instr-test.true)) (c.in_ok-note.ensures _ (l.invariant before is))
