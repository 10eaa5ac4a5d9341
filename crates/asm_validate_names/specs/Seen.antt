-- The names that were seen, and what a pass over declarations finds.
use Rattle.std.specs.Prelude.{ℕ, ◌+◌, List, [], ◌++◌, length, Bool, not, map}
use Rattle.asm_lang.specs.Modules.{Function, Module}
use Rattle.std.specs.Borrow.{Bor}
use Rattle.indexmap.specs.IndexSet.{IndexSet}
use Rattle.asm_lang_valid.specs.declared.rule.Met.{Met}
use Rattle.asm_lang_valid.specs.declared.rule.Rule.TheVariants.{NameTaken, ForbiddenName}
use Rattle.asm_lang_valid.specs.Rows.{need, stmts_count}
use Rattle.asm_lang_valid.specs.Typed.{scope_of}
use Rattle.asm_lang_valid.specs.NameRows.{params_names, locals_names, stmts_names, param_texts}

-- in the order in which they came
abbrev pub names : {S : Type 0} → IndexSet (Bor (List ℕ)) S → List (List ℕ)
names s = map (λ k. k.now) s.keys

-- the rows of a function without its own name, of whose parameters the first is node `at`
abbrev pub inner_rows : Module → Function → ℕ → List Met
inner_rows m f at =
    params_names [] f.params at ++ (locals_names (param_texts f.params) f.locals (at + length f.params) ++ stmts_names (scope_of m f) (at + length f.params + length f.locals) f.body)

abbrev pub inner_count : Function → ℕ
inner_count f = length f.params + (length f.locals + stmts_count f.body)

-- .. of its parameters and locals, and of its statements
abbrev pub own_rows : Function → ℕ → List Met
own_rows f at = params_names [] f.params at ++ locals_names (param_texts f.params) f.locals (at + length f.params)

abbrev pub own_count : Function → ℕ
own_count f = length f.params + length f.locals

-- the first statement is node `at`
abbrev pub body_rows : Module → Function → ℕ → List Met
body_rows m f at = stmts_names (scope_of m f) at f.body

abbrev pub texts_of : List Function → List (List ℕ)
texts_of fs = map (λ (f : Function). f.name) fs

-- the rows of a name that is new or not, and forbidden or not
abbrev pub declared_rows : Bool → Bool → ℕ → List Met
declared_rows is_new forbidden at = need is_new NameTaken at ++ need (not forbidden) ForbiddenName at
