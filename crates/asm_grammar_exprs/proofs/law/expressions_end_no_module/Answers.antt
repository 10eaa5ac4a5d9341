use Rattle.asm_grammar_exprs.specs.Frames.{frames_list}
use Rattle.asm_grammar_exprs.proofs.Ending.{reading_ends}
use Rattle.asm_grammar_exprs.proofs.law.expressions_end_no_module.Goals as goal

pub returns : goal.returns
returns c = λ r k h. reading_ends r.level r.innermost (frames_list r.frames) k h
