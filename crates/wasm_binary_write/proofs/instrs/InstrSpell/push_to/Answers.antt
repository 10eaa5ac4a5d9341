use Rattle.std.proofs.Common.{◌≡◌, subst, OnOk}
use Rattle.wasm_tree.specs.Views.{instr_of}
use Rattle.wasm_binary_write.proofs.Opcodes.{with_opcode, without_opcode}
use Rattle.wasm_binary_write.proofs.instrs.InstrSpell.push_to.Goals as goal

pub returns-in_ok-push-in-Some : goal.returns-in_ok-push-in-Some
returns-in_ok-push-in-Some c =
    subst (λ whole. OnOk c.push_immediates.result (c.push_immediates.new.out.items ≡ whole))
    (with_opcode c.args.out.now.items _ c.in-Some.byte (instr_of c.args.self.now) c.in-Some.ensures c.in_ok-push-in-Some.ensures.items) c.push_immediates.ensures

pub returns-in-None : goal.returns-in-None
returns-in-None c = without_opcode c.args.out.now.items (instr_of c.args.self.now) c.in-None.ensures
