use Rattle.std.proofs.Common.{◌∙◌, ap, sym}
use Rattle.asm_lang.specs.Trees.{if_only}
use Rattle.asm_lang.specs.Machine.{feed, arm_by}
use Rattle.asm_grammar_nodes.specs.Views.{class_view, lexeme_view}
use Rattle.asm_grammar_nodes.specs.Tall.{tall_view, stmt_tall_view}
use Rattle.asm_grammar_stmts.specs.Frames.{frames_list}
use Rattle.asm_grammar_stmts.specs.Items.{items_view}
use Rattle.asm_grammar_stmts.specs.Views.{enclosed_view, frames_view, in_body}
use Rattle.asm_grammar_stmts.proofs.StackLemmas.{popped_view}
use Rattle.asm_grammar_stmts.proofs.StepLemmas.{ok_map, arm_ended}
use Rattle.asm_grammar_stmts.proofs.finish.settle.Goals as goal

pub returns-in-Else : goal.returns-in-Else
returns-in-Else c =
    ok_map c.other_arm.result
    (λ r is k.
    let t = lexeme_view c.args.token.now in
    let condition = tall_view c.in-Arm.condition in
    let first = stmt_tall_view c.in-Arm.first in
    let bottom = in_body (items_view c.into_parts-body.result.0) k in
    let below = frames_view (frames_list c.pop.new.self) bottom in
    let last = feed (below (if_only c.in-Arm.at condition first)) t in
    is k t
    ∙ ap (λ d. arm_by (class_view d) c.in-Arm.at condition first below last) (sym c.in-Else.is)
    ∙ ap (λ x. feed (enclosed_view x below) t) (sym c.in-Arm.is)
    ∙ ap (λ s. feed s t)
    (c.in-Ok.ensures below
    ∙ popped_view (frames_list c.loop-frame.frames) (frames_list c.pop.new.self) c.in-Some.frame bottom (stmt_tall_view c.loop-frame.stmt) c.in-Some.ensures)
    ∙ c.loop-frame.invariant k)
    c.other_arm.ensures

pub loop-frame-preserved : goal.loop-frame-preserved
loop-frame-preserved c = λ k.
    let t = lexeme_view c.args.token.now in
    let condition = tall_view c.in-Arm.condition in
    let first = stmt_tall_view c.in-Arm.first in
    let bottom = in_body (items_view c.into_parts-body.result.0) k in
    let below = frames_view (frames_list c.pop.new.self) bottom in
    let last = feed (below (if_only c.in-Arm.at condition first)) t in
    ap (λ s. feed (below s) t) c.in-Ok-if_only.ensures
    ∙ sym (arm_ended c.args.token.now.class c.in-Arm.at condition first below last c.in_default-class.not-Else)
    ∙ ap (λ x. feed (enclosed_view x below) t) (sym c.in-Arm.is)
    ∙ ap (λ s. feed s t)
    (c.in-Ok.ensures below
    ∙ popped_view (frames_list c.loop-frame.frames) (frames_list c.pop.new.self) c.in-Some.frame bottom (stmt_tall_view c.loop-frame.stmt) c.in-Some.ensures)
    ∙ c.loop-frame.invariant k
