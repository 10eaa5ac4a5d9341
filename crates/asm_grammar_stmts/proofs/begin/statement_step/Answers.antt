use Rattle.std.proofs.Common.{◌∙◌, sym}
use Rattle.asm_grammar_nodes.specs.Views.{lexeme_view}
use Rattle.asm_grammar_stmts.specs.Frames.{frames_list}
use Rattle.asm_grammar_stmts.specs.Items.{items_view}
use Rattle.asm_grammar_stmts.proofs.Beginning.{begin_feed, ended_feed}
use Rattle.asm_grammar_stmts.proofs.StepLemmas.{ok_map}
use Rattle.asm_grammar_stmts.proofs.begin.statement_step.Goals as goal

pub returns-in-Some : goal.returns-in-Some
returns-in-Some c =
    let t = lexeme_view c.args.token.now in
    let body = items_view c.args.around.body in
    ok_map c.list_end_step.result (λ r is k. is k t ∙ sym (ended_feed (frames_list c.args.around.frames) body k t c.in-Some.end (sym c.list_end.ensures ∙ c.in-Some.is))) c.list_end_step.ensures

pub returns-in-None : goal.returns-in-None
returns-in-None c =
    let t = lexeme_view c.args.token.now in
    let body = items_view c.args.around.body in
    ok_map c.begin_step.result (λ r is k. is k ∙ sym (begin_feed (frames_list c.args.around.frames) body k t (sym c.list_end.ensures ∙ c.in-None.is))) c.begin_step.ensures
