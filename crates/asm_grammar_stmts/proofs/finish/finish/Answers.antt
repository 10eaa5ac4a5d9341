use Rattle.std.proofs.Common.{◌∙◌, ap, sym}
use Rattle.asm_lang.specs.Machine.{goes}
use Rattle.asm_grammar_nodes.specs.Tall.{stmt_tall_view}
use Rattle.asm_grammar_stmts.specs.Frames.{frames_list}
use Rattle.asm_grammar_stmts.specs.Items.{items_view}
use Rattle.asm_grammar_stmts.specs.Views.{body_step_view, enclosed_view, frames_view, in_body}
use Rattle.asm_grammar_stmts.proofs.StackLemmas.{popped_view}
use Rattle.asm_grammar_stmts.proofs.StepLemmas.{ok_map}
use Rattle.asm_grammar_stmts.proofs.finish.finish.Goals as goal

pub returns-in-Item : goal.returns-in-Item
returns-in-Item c =
    ok_map c.enter.result
    (λ r is k t.
    let bottom = in_body (items_view c.into_parts-body.result.0) k in
    let below = frames_view (frames_list c.pop.new.self) bottom in
    is k t
    ∙ ap goes
    (ap (λ x. enclosed_view x below) (sym c.in-Item.is) ∙ c.in-Ok.ensures below
    ∙ popped_view (frames_list c.loop-frame.frames) (frames_list c.pop.new.self) c.in-Some.frame bottom (stmt_tall_view c.loop-frame.stmt) c.in-Some.ensures
    ∙ c.loop-frame.invariant k))
    c.enter.ensures

pub returns-in-Arm : goal.returns-in-Arm
returns-in-Arm c = λ k t.
    let bottom = in_body (items_view c.into_parts-body.result.0) k in
    let below = frames_view (frames_list c.pop.new.self) bottom in
    ap (λ r. body_step_view r k t) c.on.ensures
    ∙ ap goes
    (ap (λ x. enclosed_view x below) (sym c.in-Arm.is) ∙ c.in-Ok.ensures below
    ∙ popped_view (frames_list c.loop-frame.frames) (frames_list c.pop.new.self) c.in-Some.frame bottom (stmt_tall_view c.loop-frame.stmt) c.in-Some.ensures
    ∙ c.loop-frame.invariant k)

pub returns-in-Body : goal.returns-in-Body
returns-in-Body c = λ k t.
    let bottom = in_body (items_view c.into_parts-body.result.0) k in
    let below = frames_view (frames_list c.pop.new.self) bottom in
    ap (λ r. body_step_view r k t) c.on-in-Body.ensures
    ∙ ap goes
    (ap (λ x. enclosed_view x below) (sym c.in-Body.is) ∙ c.in-Ok.ensures below
    ∙ popped_view (frames_list c.loop-frame.frames) (frames_list c.pop.new.self) c.in-Some.frame bottom (stmt_tall_view c.loop-frame.stmt) c.in-Some.ensures
    ∙ c.loop-frame.invariant k)

pub loop-frame-preserved : goal.loop-frame-preserved
loop-frame-preserved c = λ k.
    let bottom = in_body (items_view c.into_parts-body.result.0) k in
    let below = frames_view (frames_list c.pop.new.self) bottom in
    ap (λ x. enclosed_view x below) (sym c.in-Stmt.is) ∙ c.in-Ok.ensures below
    ∙ popped_view (frames_list c.loop-frame.frames) (frames_list c.pop.new.self) c.in-Some.frame bottom (stmt_tall_view c.loop-frame.stmt) c.in-Some.ensures
    ∙ c.loop-frame.invariant k
