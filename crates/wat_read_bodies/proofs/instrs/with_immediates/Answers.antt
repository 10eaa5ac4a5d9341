use Rattle.std.proofs.Common.{ap}
use Rattle.wasm_lang.specs.Instructions.{plain, load, store}
use Rattle.wat_lang.specs.Modules.{align_in, offset_in}
use Rattle.wat_grammar.specs.Views.{op_of}
use Rattle.wat_read_tokens.specs.Marks.{marks_of}
use Rattle.wat_read_bodies.proofs.instrs.with_immediates.Goals as goal

pub returns-in-Load : goal.returns-in-Load
returns-in-Load c =
    let parts = marks_of c.args.parts.now in
    rw c.align_in.ensures
    (rw c.offset_in.ensures
    (rw c.op-op.ensures
    (rw c.in-Load.is (ap (λ op. plain (load (op_of c.in-Load.access) (align_in op parts) (offset_in parts))) c.op-op.ensures))))

pub returns-in-Store : goal.returns-in-Store
returns-in-Store c =
    let parts = marks_of c.args.parts.now in
    rw c.align_in-in-Store.ensures
    (rw c.offset_in-in-Store.ensures
    (rw c.op-op-in-Store.ensures
    (rw c.in-Store.is (ap (λ op. plain (store (op_of c.in-Store.access) (align_in op parts) (offset_in parts))) c.op-op-in-Store.ensures))))
