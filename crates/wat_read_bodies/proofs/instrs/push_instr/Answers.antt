use Rattle.std.proofs.Common.{◌≡◌, ◌++◌, [], ◌∷◌, List, map, sym, ap, ◌∙◌, rules}
use Rattle.std.proofs.lemmas.List.{map_push}
use Rattle.wasm_lang.specs.Instructions.{Instruction}
use Rattle.wasm_tree.specs.Views.{instr_of}
use Rattle.wat_lang.specs.Grammar.{Marked}
use Rattle.wat_lang.specs.Names.{names_at}
use Rattle.wat_lang.specs.Modules.{with_immediates, instruction_at}
use Rattle.wat_grammar.specs.declared.parts.Mark.{Mark}
use Rattle.wat_grammar.specs.Views.{form_of, mark_of}
use Rattle.wat_read_names.specs.Bound.{space_names}
use Rattle.wat_read_tokens.specs.Marks.{marks_of}
use Rattle.wat_read_bodies.proofs.Good.{taken}
use Rattle.wat_read_bodies.proofs.instrs.push_instr.Goals as goal

pub with_immediates-requires : goal.with_immediates-requires
with_immediates-requires c = taken _ c.args.behind.now c.requires

pub returns-else-is_err : goal.returns-else-is_err
returns-else-is_err c =
    let old = c.args.list.now.items in
    let scope = names_at (space_names c.args.spaces.now) c.args.locals.now c.args.labels.now in
    let put : c.push.new.self.items ≡ old ++ c.in_ok-instr-in-Instruction.instr ∷ [] = search rules in
    let onto : Instruction → List Instruction = λ i. map instr_of old ++ i ∷ [] in
    ap (map instr_of) put ∙ map_push instr_of old c.in_ok-instr-in-Instruction.instr
    ∙ ap onto (c.in_ok-instr-in-Instruction.ensures ∙ ap (λ (ms : List Marked). with_immediates scope ms (form_of c.in-Instruction.form)) c.before_instruction.ensures.value)
    ∙ ap (λ (k : Mark). map instr_of old ++ instruction_at scope (marks_of c.args.behind.now) (mark_of k)) (sym c.in-Instruction.is)
