use Rattle.std.proofs.Common.{◌≡◌, ◌-◌, ◌<◌, OnOk, true, List, ◌∷◌, ◌++◌, length, map, take, drop, sym, ap, ◌∙◌, subst, arith}
use Rattle.wasm_lang.specs.Instructions.{Instruction}
use Rattle.wasm_tree.specs.Views as views
use Rattle.wat_lang.specs.Names as names
use Rattle.wat_lang.specs.Modules as spec
use Rattle.wat_grammar.specs.Views.{mark_of}
use Rattle.wat_laws_kept.specs.Groups.{no_instruction}
use Rattle.wat_laws_kept.proofs.Groups.{instruction_of_group}
use Rattle.wat_marks.specs.declared.marked.MarkedToken.{MarkedToken}
use Rattle.wat_marks.specs.Views.{marked_of}
use Rattle.wat_read_tokens.specs.Marks.{marks_of}
use Rattle.wat_read_tokens.proofs.Steps.{front}
use Rattle.std.proofs.lemmas.List.{take_all, length-drop}
use Rattle.wat_lang.specs.declared.parts.Space.{Space}
use Rattle.wat_read_names.specs.Bound.{space_names}
use Rattle.wat_read.proofs.functions.push_group.Goals as goal

pub returns-in-len1-up : goal.returns-in-len1-up
returns-in-len1-up c = λ alone.
    let group : List MarkedToken = c.args.group.now in
    let first = c.first-item.result in
    let some : 0 < length group = omega (arith, c.in-len1-up.len_at_least) in
    let whole : group ≡ first ∷ drop 1 group = front group 0 first some c.first-item.is in
    let behind : take (length group - 1) (drop 1 group) ≡ drop 1 group = take_all (length group - 1) (drop 1 group) (omega (arith, length-drop 1 group)) in
    let at : names.Names → Space → names.Names = names.names_at (space_names c.args.context.spaces.now) c.args.locals.now in
    let alone : no_instruction (marks_of (drop 1 group)) ≡ true = sym (ap (λ (ts : List MarkedToken). no_instruction (drop 1 (marks_of ts))) whole) ∙ alone in
    let code : spec.instruction_at (at c.args.labels.now) (marks_of (take (length group - 1) (drop 1 group))) (mark_of first.mark) ≡ spec.instructions_in at c.args.labels.now (marks_of group) =
    ap (λ (ts : List MarkedToken). spec.instruction_at (at c.args.labels.now) (marks_of ts) (mark_of first.mark)) behind
    ∙ sym (instruction_of_group at c.args.labels.now (marked_of first) (marks_of (drop 1 group)) alone)
    ∙ ap (λ (ts : List MarkedToken). spec.instructions_in at c.args.labels.now (marks_of ts)) (sym whole) in
    subst (λ (is : List Instruction). OnOk c.push_instr.result (map views.instr_of c.push_instr.new.list.items ≡ map views.instr_of c.args.code.now.items ++ is)) code c.push_instr.ensures
