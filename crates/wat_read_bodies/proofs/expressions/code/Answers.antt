use Rattle.std.proofs.Common.{◌+◌, ◌<◌, ◌++◌, List, map, length, drop, sym, ap, ◌∙◌, arith}
use Rattle.std.proofs.lemmas.List.{take_rest}
use Rattle.wasm_lang.specs.Instructions.{Instruction}
use Rattle.wasm_tree.specs.Views.{instr_of}
use Rattle.wat_lang.specs.Names.{Names, names_at}
use Rattle.wat_lang.specs.Modules.{instructions_in, instruction_at}
use Rattle.wat_marks.specs.declared.marked.MarkedToken.{MarkedToken}
use Rattle.wat_marks.specs.Views.{marked_of}
use Rattle.wat_read_names.specs.Bound.{space_names}
use Rattle.wat_read_tokens.specs.Marks.{marks_of}
use Rattle.wat_read_tokens.proofs.Steps.{grows_at}
use Rattle.wat_read_bodies.proofs.Good.{rest_good}
use Rattle.wat_read_bodies.proofs.expressions.code.Goals as goal

pub push_instr-requires : goal.push_instr-requires
push_instr-requires c = rest_good (c.loop-n.n + 1) c.args.parts.now c.requires

pub loop-n-preserved : goal.loop-n-preserved
loop-n-preserved c =
    let scope = names_at (space_names c.args.spaces.now) c.args.locals.now in
    let read : Names → List MarkedToken → List Instruction = λ labels ts. instructions_in scope labels (marks_of ts) in
    let ts = c.args.parts.now in
    let n = c.loop-n.n in
    let within : n < length ts = omega arith in
    let t = c.index-parts-n.result in
    let m = marked_of t in
    let labels = c.loop-n.labels in
    grows_at (read labels) (read c.after.new.self) ts n t (map instr_of c.loop-n.list.items) _ (instruction_at (scope labels) (marks_of (drop (n + 1) ts)) m.mark) _ within c.index-parts-n.is
    (ap (λ ls. instruction_at (scope labels) (marks_of (drop (n + 1) ts)) m.mark ++ read ls (drop (n + 1) ts)) (sym c.in_ok-after.ensures))
    (c.in_ok-push_instr.ensures ∙ ap (λ xs. map instr_of c.loop-n.list.items ++ instruction_at (scope labels) (marks_of xs) m.mark) (take_rest ts (n + 1)))
    c.loop-n.invariant
