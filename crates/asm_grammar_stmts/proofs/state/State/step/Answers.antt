use Rattle.asm_grammar_nodes.specs.Views.{lexeme_view}
use Rattle.asm_grammar_stmts.specs.declared.state.State.TheVariants as states
use Rattle.asm_grammar_stmts.proofs.Steps.{step_of}
use Rattle.asm_grammar_stmts.proofs.state.State.step.Goals as goal

pub returns-in-Statement : goal.returns-in-Statement
returns-in-Statement c = step_of c.statement_step.result c.args.around c.args.self states.Statement (lexeme_view c.args.token.now) c.in-Statement.is c.statement_step.ensures

pub returns-in-Name : goal.returns-in-Name
returns-in-Name c = step_of c.name_step.result c.args.around c.args.self (states.Name c.in-Name.name) (lexeme_view c.args.token.now) c.in-Name.is c.name_step.ensures

pub returns-in-Expression : goal.returns-in-Expression
returns-in-Expression c = step_of c.expression_step.result c.args.around c.args.self (states.Expression c.in-Expression.reading c.in-Expression.purpose) (lexeme_view c.args.token.now) c.in-Expression.is c.expression_step.ensures

pub returns-in-Condition : goal.returns-in-Condition
returns-in-Condition c = step_of c.condition_step.result c.args.around c.args.self (states.Condition c.in-Condition.condition) (lexeme_view c.args.token.now) c.in-Condition.is c.condition_step.ensures

pub returns-in-ForParen : goal.returns-in-ForParen
returns-in-ForParen c = step_of c.for_step.result c.args.around c.args.self (states.ForParen c.in-ForParen.at) (lexeme_view c.args.token.now) c.in-ForParen.is c.for_step.ensures

pub returns-in-Part : goal.returns-in-Part
returns-in-Part c = step_of c.part_step.result c.args.around c.args.self (states.Part c.in-Part.at c.in-Part.part) (lexeme_view c.args.token.now) c.in-Part.is c.part_step.ensures

pub returns-in-Return : goal.returns-in-Return
returns-in-Return c = step_of c.return_step.result c.args.around c.args.self (states.Return c.in-Return.at) (lexeme_view c.args.token.now) c.in-Return.is c.return_step.ensures

pub returns-in-Target : goal.returns-in-Target
returns-in-Target c = step_of c.target_step.result c.args.around c.args.self (states.Target c.in-Target.jump c.in-Target.at) (lexeme_view c.args.token.now) c.in-Target.is c.target_step.ensures

pub returns-in-End : goal.returns-in-End
returns-in-End c = step_of c.end_step.result c.args.around c.args.self (states.End c.in-End.stmt) (lexeme_view c.args.token.now) c.in-End.is c.end_step.ensures

pub returns-in-DoEnd : goal.returns-in-DoEnd
returns-in-DoEnd c = step_of c.do_end_step.result c.args.around c.args.self (states.DoEnd c.in-DoEnd.stmt) (lexeme_view c.args.token.now) c.in-DoEnd.is c.do_end_step.ensures

pub returns-in-AfterArm : goal.returns-in-AfterArm
returns-in-AfterArm c = step_of c.arm_step.result c.args.around c.args.self (states.AfterArm c.in-AfterArm.at c.in-AfterArm.condition c.in-AfterArm.first) (lexeme_view c.args.token.now) c.in-AfterArm.is c.arm_step.ensures

pub returns-in-AfterBody : goal.returns-in-AfterBody
returns-in-AfterBody c = step_of c.after_body_step.result c.args.around c.args.self (states.AfterBody c.in-AfterBody.at c.in-AfterBody.body) (lexeme_view c.args.token.now) c.in-AfterBody.is c.after_body_step.ensures

pub returns-in-SwitchBrace : goal.returns-in-SwitchBrace
returns-in-SwitchBrace c = step_of c.subject_step.result c.args.around c.args.self (states.SwitchBrace c.in-SwitchBrace.at c.in-SwitchBrace.subject) (lexeme_view c.args.token.now) c.in-SwitchBrace.is c.subject_step.ensures

pub returns-in-InSwitch : goal.returns-in-InSwitch
returns-in-InSwitch c = step_of c.step.result c.args.around c.args.self (states.InSwitch c.in-InSwitch.part c.in-InSwitch.switch) (lexeme_view c.args.token.now) c.in-InSwitch.is c.step.ensures
