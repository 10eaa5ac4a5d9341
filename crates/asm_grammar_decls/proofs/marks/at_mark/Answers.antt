use Rattle.std.proofs.Common.{◌∙◌, vec_len, arith}
use Rattle.asm_grammar_nodes.specs.Views.{lexeme_view}
use Rattle.asm_grammar_decls.specs.Variables.{params_of}
use Rattle.asm_grammar_decls.proofs.BegunMarks.{begun_is}
use Rattle.asm_grammar_decls.proofs.marks.at_mark.Goals as goal

pub returns : goal.returns
returns c = λ k.
    let left = c.args.marks.left in
    c.begun.ensures k
    ∙ begun_is left.items c.pop-next.new.self.items c.pop-next.result (vec_len left) (vec_len c.pop-next.new.self) (params_of c.args.marks.done) k (lexeme_view c.args.token.now) c.pop-next.ensures.items (omega (arith, left.ok.0)) c.pop-next.ensures.cases
