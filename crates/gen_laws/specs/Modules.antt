-- The module that the text of so many functions says.
use Rattle.std.specs.Prelude.{ℕ, zero, suc, ◌-◌, false, List, [], ◌∷◌, Some, pos, codes}
use Rattle.sem_words.specs.declared.js_value.JsOp.TheVariants.{Or}
use Rattle.asm_lang.specs.Trees.{view}
use Rattle.asm_lang.specs.Modules.{Expr, lit, var, call, assign, store, binary, chain, exprs, no_exprs, links, no_links, plain, returns, Stmts, stmts, no_stmts, Variable, Function, one, Module}
use Rattle.gen_lang.specs.Recipe.{name_of}

abbrev pub x_name : List ℕ
x_name = codes "x"

abbrev pub heap_name : List ℕ
heap_name = codes "H"

abbrev pub int_of : Expr → Expr
int_of e = binary Or e (lit (pos 0))

-- `return x|0;`
abbrev pub ending : Stmts
ending = stmts (returns (Some (int_of (var x_name)))) no_stmts

-- `(f(x)|0)+n|0`
abbrev pub sum_of : List ℕ → ℕ → Expr
sum_of f n = int_of (chain (int_of (call f (exprs (var x_name) no_exprs))) (links false (lit (pos n)) no_links))

-- `x=(f(x)|0)+n|0;H[n]=x;return x|0;`
abbrev pub calling : List ℕ → ℕ → Stmts
calling f n = stmts (plain (assign x_name (sum_of f n))) (stmts (plain (store heap_name (lit (pos n)) (var x_name))) ending)

abbrev pub body_at : ℕ → Stmts
body_at zero = ending
body_at (suc i) = calling (name_of i) (suc i)

abbrev pub function_at : ℕ → Function
function_at i = record { name = name_of i; params = record { name = x_name; double = false } ∷ []; locals = []; body = body_at i }

abbrev pub functions_from : ℕ → ℕ → List Function
functions_from i zero = []
functions_from i (suc n) = function_at i ∷ functions_from (suc i) n

abbrev pub the_view : Variable
the_view = record { name = heap_name; init = view (codes "stdlib") (codes "Int32Array") (codes "heap") }

abbrev pub recipe_module : ℕ → Module
recipe_module n = record {
  name = Some (codes "gen");
  params = codes "stdlib" ∷ codes "foreign" ∷ codes "heap" ∷ [];
  globals = the_view ∷ [];
  functions = functions_from 0 n;
  tables = [];
  exports = one (name_of (n - 1));
}
