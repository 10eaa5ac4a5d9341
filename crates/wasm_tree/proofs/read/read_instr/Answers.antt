use Rattle.std.proofs.Common.{◌≡◌, Some}
use Rattle.wasm_lang.specs.Opcodes.{bare_at}
use Rattle.wasm_tree.specs.Inputs.{input_of}
use Rattle.wasm_tree.specs.Views.{instr_of}
use Rattle.wasm_tree.proofs.Forms.{bare_reads}
use Rattle.wasm_tree.proofs.Following.{ok_continues}
use Rattle.wasm_tree.proofs.read.read_instr.Goals as goal

pub returns-in-Some-clause-value : goal.returns-in-Some-clause-value
returns-in-Some-clause-value c =
    let spelled : Some (instr_of c.in-Some.instr) ≡ bare_at c.in_ok-opcode.opcode = c.in-Some.ensures in
    bare_reads (input_of c.args.input) (input_of c.in_ok-opcode.rest) c.in_ok-opcode.opcode (instr_of c.in-Some.instr) c.in_ok-opcode.ensures.value spelled

pub returns-clause-follows : goal.returns-clause-follows
returns-clause-follows c = ok_continues c.read_immediates.result c.in_ok-opcode.rest c.args.input c.in_ok-opcode.ensures.follows c.read_immediates.ensures.follows
