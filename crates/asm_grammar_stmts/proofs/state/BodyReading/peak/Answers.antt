use Rattle.asm_grammar_nodes.specs.Rises.{rise_view}
use Rattle.asm_grammar_nodes.specs.Tall.{tall_view, stmt_tall_view}
use Rattle.asm_grammar_stmts.specs.declared.state.State.TheVariants as states
use Rattle.asm_grammar_stmts.specs.Reach.{reach_view}
use Rattle.asm_grammar_stmts.specs.Views.{around_view, switch_view}
use Rattle.asm_grammar_stmts.proofs.RisingStates.{at_state, list_state, name_state, return_state, target_state, end_state, arm_state, expr_state, part_state, in_switch_state}
use Rattle.asm_grammar_stmts.proofs.state.BodyReading.peak.Goals as goal

pub returns-in-Statement : goal.returns-in-Statement
returns-in-Statement c = λ k.
    let r = c.args.self.now in
    at_state r states.Statement c.last.result.count k c.in-Statement.is (list_state r.around k c.last.result.count c.last.ensures)

pub returns-in-Name : goal.returns-in-Name
returns-in-Name c = λ k.
    let r = c.args.self.now in
    at_state r (states.Name c.in-Name.field-0) c.risen.result.count k c.in-Name.is
    (name_state r.around c.in-Name.field-0 k (reach_view c.reach-reach.result) c.leaf.result.count c.above.result.count c.risen.result.count c.reach-reach.ensures c.leaf.ensures c.above.ensures c.risen.ensures)

pub returns-in-Expression : goal.returns-in-Expression
returns-in-Expression c = λ k.
    let r = c.args.self.now in
    let e = c.in-Expression.expr in
    let p = c.in-Expression.purpose in
    at_state r (states.Expression e p) c.peak.result.count k c.in-Expression.is
    (expr_state r.around e p k (reach_view c.reach-reach.result) (rise_view c.rise.result) c.peak.result.count c.reach-reach.ensures c.rise.ensures c.peak.ensures)

pub returns-in-Return : goal.returns-in-Return
returns-in-Return c = λ k.
    let r = c.args.self.now in
    at_state r (states.Return c.in-Return.field-0) c.risen-in-Return.result.count k c.in-Return.is
    (return_state r.around c.in-Return.field-0 k (reach_view c.reach-reach.result) c.leaf-in-Return.result.count c.risen-in-Return.result.count c.reach-reach.ensures c.leaf-in-Return.ensures c.risen-in-Return.ensures)

pub returns-in-Target : goal.returns-in-Target
returns-in-Target c = λ k.
    let r = c.args.self.now in
    at_state r (states.Target c.in-Target.field-0 c.in-Target.field-1) c.risen-in-Target.result.count k c.in-Target.is
    (target_state r.around c.in-Target.field-0 c.in-Target.field-1 k (reach_view c.reach-reach.result) c.leaf-in-Target.result.count c.risen-in-Target.result.count c.reach-reach.ensures c.leaf-in-Target.ensures c.risen-in-Target.ensures)

pub returns-in-End : goal.returns-in-End
returns-in-End c = λ k.
    let r = c.args.self.now in
    let s = c.in-End.stmt in
    at_state r (states.End s) c.risen-in-End.result.count k c.in-End.is
    (end_state r.around (stmt_tall_view s) k (reach_view c.reach-reach.result) c.risen-in-End.result.count c.reach-reach.ensures c.risen-in-End.ensures)

pub returns-in-DoEnd : goal.returns-in-DoEnd
returns-in-DoEnd c = λ k.
    let r = c.args.self.now in
    let s = c.in-DoEnd.stmt in
    at_state r (states.DoEnd s) c.risen-in-DoEnd.result.count k c.in-DoEnd.is
    (end_state r.around (stmt_tall_view s) k (reach_view c.reach-reach.result) c.risen-in-DoEnd.result.count c.reach-reach.ensures c.risen-in-DoEnd.ensures)

pub returns-in-AfterArm : goal.returns-in-AfterArm
returns-in-AfterArm c = λ k.
    let r = c.args.self.now in
    let at = c.in-AfterArm.field-0 in
    let e = c.in-AfterArm.condition in
    let s = c.in-AfterArm.first in
    at_state r (states.AfterArm at e s) c.risen-in-AfterArm.result.count k c.in-AfterArm.is
    (arm_state r.around at (tall_view e) (stmt_tall_view s) k (reach_view c.reach-reach.result) (reach_view c.body.result) c.height.result.count c.risen-in-AfterArm.result.count
    c.reach-reach.ensures c.height.ensures c.body.ensures c.risen-in-AfterArm.ensures)

pub returns-in-AfterBody : goal.returns-in-AfterBody
returns-in-AfterBody c = λ k. at_state c.args.self.now (states.AfterBody c.in-AfterBody.field-0 c.in-AfterBody.body) c.as_body.result.count k c.in-AfterBody.is c.as_body.ensures

pub returns-in-Part : goal.returns-in-Part
returns-in-Part c = λ k.
    let r = c.args.self.now in
    let at = c.in-Part.field-0 in
    let p = c.in-Part.field-1 in
    at_state r (states.Part at p) c.none.result.count k c.in-Part.is (part_state at p (around_view r.around k) c.none.result.count c.none.ensures)

pub returns-in-InSwitch : goal.returns-in-InSwitch
returns-in-InSwitch c = λ k.
    let r = c.args.self.now in
    let p = c.in-InSwitch.field-0 in
    let w = c.in-InSwitch.field-1 in
    at_state r (states.InSwitch p w) c.none-in-InSwitch.result.count k c.in-InSwitch.is (in_switch_state p (switch_view w (around_view r.around k)) c.none-in-InSwitch.result.count c.none-in-InSwitch.ensures)
