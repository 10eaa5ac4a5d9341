use Rattle.std.proofs.Common.{◌≡◌, ◌∙◌, ap, subst, map, take, OnOk, List}
use Rattle.std.specs.List.{flat_map}
use Rattle.wasm_lang.specs.Instructions.{Instruction}
use Rattle.wasm_tree.specs.Views.{instr_of}
use Rattle.wat_lang.specs.Printing.{folded_instruction}
use Rattle.wat_print.specs.Put.{written, put}
use Rattle.wat_print.proofs.Lists.{viewed_without_end}
use Rattle.wat_print.proofs.instructions.put_constant.Goals as goal

pub returns : goal.returns
returns c =
    subst (λ (code : List Instruction). OnOk c.put_folded.result (written c.put_folded.new.out ≡ put (written c.args.out.now) (flat_map folded_instruction code)))
    (ap (λ n. map instr_of (take n c.args.code.now)) c.saturating_sub-count.ensures ∙ viewed_without_end c.args.code.now) c.put_folded.ensures
