-- What a call by a name calls, by what the name means.
use Rattle.std.specs.Prelude.{ℕ, List}
use Rattle.asm_lang.specs.Modules.{Module}
use Rattle.asm_lang_valid.specs.Scope.{Meaning, a_foreign, a_builtin, a_function}
use Rattle.asm_lang_valid.specs.Refusal.{function_number}
use Rattle.asm_run_code.specs.Names.{member_number}
use Rattle.asm_run_names.specs.declared.callee.Callee.{Callee}
use Rattle.asm_run_names.specs.declared.callee.Callee.TheVariants.{Own, Foreign, Builtin, Nothing}

abbrev pub callee_of : Module → List ℕ → Meaning → Callee
callee_of m n (a_function f) = Own (function_number m.functions n)
callee_of m n (a_foreign p) = Foreign (member_number m.globals p)
callee_of m n (a_builtin b) = Builtin b
callee_of m n _ = Nothing
