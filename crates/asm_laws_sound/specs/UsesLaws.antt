-- What is typed uses names rightly: none of the rows of names that are used is met in it (asm.js draft of 18 August 2014, section 6).
use Rattle.std.specs.Prelude.{◌≡◌, ℕ, true, [], is_some}
use Rattle.std.specs.List.{AllByRecursion}
use Rattle.asm_lang.specs.Modules.{Expr, Stmt, Function, Module}
use Rattle.asm_lang_valid.specs.Typing.{Scope, Around, type_of, effect_fits, typed}
use Rattle.asm_lang_valid.specs.Typed.{scope_of, functions_typed}
use Rattle.asm_lang_valid.specs.NameRows.{expr_names, stmt_names, stmts_names}

-- an expression that has a type
abbrev pub ExpressionsUseNames : Type 0
ExpressionsUseNames = (c : Scope) (e : Expr) (at : ℕ) → is_some (type_of c e) ≡ true → expr_names c at e ≡ []

-- an expression whose value isn't used, or a call without a result
abbrev pub EffectsUseNames : Type 0
EffectsUseNames = (c : Scope) (e : Expr) (at : ℕ) → effect_fits c e ≡ true → expr_names c at e ≡ []

abbrev pub StatementsUseNames : Type 0
StatementsUseNames = (c : Scope) (a : Around) (s : Stmt) (at : ℕ) → typed c a s ≡ true → stmt_names c at s ≡ []

-- the body of each function of a typed module
abbrev pub BodyUsesNames : Module → Function → Type 0
BodyUsesNames m f = (at : ℕ) → stmts_names (scope_of m f) at f.body ≡ []

abbrev pub FunctionsUseNames : Type 0
FunctionsUseNames = (m : Module) → functions_typed m m.functions ≡ true → AllByRecursion (BodyUsesNames m) m.functions
