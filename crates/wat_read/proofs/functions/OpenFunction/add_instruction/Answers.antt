use Rattle.std.proofs.Common.{List, [], ◌∷◌, ◌++◌, refl, ap, ◌∙◌}
use Rattle.wat_marks.specs.declared.marked.MarkedToken.{MarkedToken}
use Rattle.wat_marks.specs.Views.{marked_of}
use Rattle.wat_read_tokens.specs.Marks.{marks_of}
use Rattle.wat_read_fields.specs.Contexts.{module_names, module_types}
use Rattle.wat_read.proofs.OpenFunctions.{still, instruction_more, pushed}
use Rattle.wat_read.proofs.functions.OpenFunction.add_instruction.Goals as goal

pub returns-clause-judged : goal.returns-clause-judged
returns-clause-judged c = λ f before whole h.
    let b = c.in_ok-begin_code.ensures in
    let w = c.in_ok-end_group.ensures.whole f before whole (still c.args.self.now c.begin_code.new.self h (b.function f h.done h.function) b.group) b.in_code in
    instruction_more (module_names c.args.context) (module_types c.args.context) c.end_group.new.self _ c.end_group.new.rows f (marked_of c.args.token.now) before whole w c.requires.instruction refl
    (pushed c.end_group.new.self.group.items c.push.new.self.items c.args.token.now c.in_ok-push.ensures.items
    ∙ ap (λ (ts : List MarkedToken). marks_of ts ++ marked_of c.args.token.now ∷ []) w.group) refl refl refl

pub returns-clause-in_code : goal.returns-clause-in_code
returns-clause-in_code c = c.in_ok-end_group.ensures.in_code ∙ c.in_ok-begin_code.ensures.in_code
