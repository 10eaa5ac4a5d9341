use Rattle.asm_lang_valid.specs.Typing.{type_of, call_fits, typed}
use Rattle.asm_lang_valid.specs.Typed.{function_typed, module_typed}
use Rattle.asm_lang_valid.specs.TypeRows.{expr_rows, call_rows, stmt_rows, function_rows, type_rows}
use Rattle.std.proofs.Common.{is_some}
use Rattle.asm_lang_valid.proofs.Agree.{iff, expr_agrees, call_agrees, stmt_agrees, function_agrees, module_agrees}
use Rattle.asm_lang_valid.proofs.laws.type_laws.Goals as goal

pub returns-clause-expressions : goal.returns-clause-expressions
returns-clause-expressions c = λ s at e. iff (expr_rows s at e) (is_some (type_of s e)) (expr_agrees s at e)

pub returns-clause-calls : goal.returns-clause-calls
returns-clause-calls c = λ s result at e h. iff (call_rows s result at e) (call_fits s result e) (call_agrees s result at e h)

pub returns-clause-statements : goal.returns-clause-statements
returns-clause-statements c = λ s a at r. iff (stmt_rows s a at r) (typed s a r) (stmt_agrees s r a at)

pub returns-clause-functions : goal.returns-clause-functions
returns-clause-functions c = λ m at f. iff (function_rows m at f) (function_typed m f) (function_agrees m at f)

pub returns-clause-modules : goal.returns-clause-modules
returns-clause-modules c = λ m. iff (type_rows m) (module_typed m) (module_agrees m)
