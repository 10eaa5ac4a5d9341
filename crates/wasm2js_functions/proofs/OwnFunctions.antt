-- A function that the module defines.
use Rattle.std.proofs.Common.{◌≡◌, ℕ, List, [], ◌∷◌, ◌++◌, Option, Some, None, length, drop, refl, sym, ap, ◌∙◌, append-nil}
use Rattle.std.proofs.Math.Seq.{drop-append_seam}
use Rattle.std.specs.Prelude.{slice_get}
use Rattle.wasm_lang.specs.declared.types.ValType.{ValType}
use Rattle.wasm_lang.specs.Modules.{FunctionType, FunctionBody, WasmModule}
use Rattle.wasm_lang_valid.specs.ModuleRules.{function_types, global_types, has_table, has_memory}
use Rattle.wasm_lang_valid.specs.Profile.{memory_bytes}
use Rattle.wasm_lang_valid.specs.Typing.{Context, result_of}
use Rattle.wasm_lang_exec.specs.Code.{Trees, tree_of}
use Rattle.wasm_lang_exec.specs.Reductions.{own_callee}
use Rattle.asm_lang.specs.Modules as text
use Rattle.wasm2js_translation.specs.Names.{numbered, function}
use Rattle.wasm2js_translation.specs.Bodies.{body_stmts}
use Rattle.wasm2js_translation.specs.Helpers.{function_of}
use Rattle.wasm2js_translation.specs.Rooms.{body_room, declared_names}
use Rattle.wasm2js_translation.specs.Tables.{cell_count}
use Rattle.wasm2js_translation.specs.Modules.{param_names, context_of, own_function, function_for}
use Rattle.wasm2js_functions.specs.Listing.{own_at}

-- a context with these parts
pub same_context : (m : WasmModule) (t : FunctionType) (more : List ValType) (c : Context)
    → c.types ≡ m.types → c.functions ≡ function_types m → c.table ≡ has_table m → c.memory ≡ has_memory m → c.globals ≡ global_types m
    → c.locals ≡ t.params ++ more → c.labels ≡ [] → c.returns ≡ result_of t → c ≡ context_of m t more
same_context m t more c types functions table memory globals locals labels returns =
    ap (λ x. record c { types = x }) types
    ∙ ap (λ x. record c { types = m.types; functions = x }) functions
    ∙ ap (λ x. record c { types = m.types; functions = function_types m; table = x }) table
    ∙ ap (λ x. record c { types = m.types; functions = function_types m; table = has_table m; memory = x }) memory
    ∙ ap (λ x. record c { types = m.types; functions = function_types m; table = has_table m; memory = has_memory m; globals = x }) globals
    ∙ ap (λ x. record c { types = m.types; functions = function_types m; table = has_table m; memory = has_memory m; globals = global_types m; locals = x }) locals
    ∙ ap (λ x. record c { types = m.types; functions = function_types m; table = has_table m; memory = has_memory m; globals = global_types m; locals = t.params ++ more; labels = x }) labels
    ∙ ap (λ x. record { types = m.types; functions = function_types m; table = has_table m; memory = has_memory m; globals = global_types m; locals = t.params ++ more; labels = []; returns = x }) returns

pub own_is : (m : WasmModule) (k bytes cells : ℕ) (t : FunctionType) (more params : List ValType) (c : Context) (tree : Trees) (f : text.Function)
    → params ≡ t.params → c ≡ context_of m t more → bytes ≡ memory_bytes m → cells ≡ cell_count m
    → f ≡ function_of (numbered function k) (param_names 0 params) (declared_names (body_room c tree) (length params) (drop (length params) c.locals)) (body_stmts bytes cells c tree)
    → f ≡ own_function m k t more tree
own_is m k bytes cells t more params c tree f ps context b s made =
    let d = context_of m t more in
    made
    ∙ ap (λ qs. function_of (numbered function k) (param_names 0 qs) (declared_names (body_room c tree) (length qs) (drop (length qs) c.locals)) (body_stmts bytes cells c tree)) ps
    ∙ ap (λ e. function_of (numbered function k) (param_names 0 t.params) (declared_names (body_room e tree) (length t.params) (drop (length t.params) e.locals)) (body_stmts bytes cells e tree)) context
    ∙ ap (λ ls. function_of (numbered function k) (param_names 0 t.params) (declared_names (body_room d tree) (length t.params) ls) (body_stmts bytes cells d tree)) (drop-append_seam t.params more)
    ∙ ap (λ n. function_of (numbered function k) (param_names 0 t.params) (declared_names (body_room d tree) (length t.params) more) (body_stmts n cells d tree)) b
    ∙ ap (λ n. function_of (numbered function k) (param_names 0 t.params) (declared_names (body_room d tree) (length t.params) more) (body_stmts (memory_bytes m) n d tree)) s

module _ (m : WasmModule) (k place : ℕ) (old : List text.Function) where
  no_type : (b : FunctionBody) (o : Option Trees) → function_for m k (own_callee None b o) ≡ []
  no_type b None = refl
  no_type b (Some tree) = refl

  no_body : (o : Option ℕ) → own_at m k o None ≡ []
  no_body None = refl
  no_body (Some t) = refl

  pub no_body_there : slice_get m.bodies place ≡ None → old ≡ old ++ own_at m k (slice_get m.functions place) (slice_get m.bodies place)
  no_body_there none =
      sym (ap (λ o. old ++ own_at m k (slice_get m.functions place) o) none ∙ ap (λ l. old ++ l) (no_body (slice_get m.functions place)) ∙ append-nil old)

  both_there : (t : ℕ) (b : FunctionBody) → slice_get m.functions place ≡ Some t → slice_get m.bodies place ≡ Some b
      → own_at m k (slice_get m.functions place) (slice_get m.bodies place) ≡ function_for m k (own_callee (slice_get m.types t) b (tree_of b.code))
  both_there t b number body = ap (λ o. own_at m k o (slice_get m.bodies place)) number ∙ ap (own_at m k (Some t)) body

  pub no_type_there : (t : ℕ) (b : FunctionBody) → slice_get m.functions place ≡ Some t → slice_get m.bodies place ≡ Some b → slice_get m.types t ≡ None
      → old ≡ old ++ own_at m k (slice_get m.functions place) (slice_get m.bodies place)
  no_type_there t b number body none =
      sym (ap (λ l. old ++ l) (both_there t b number body ∙ ap (λ o. function_for m k (own_callee o b (tree_of b.code))) none ∙ no_type b (tree_of b.code)) ∙ append-nil old)

  pub own_there : (new : List text.Function) (t : ℕ) (b : FunctionBody) (type : FunctionType) (tree : Trees) (f : text.Function)
      → slice_get m.functions place ≡ Some t → slice_get m.bodies place ≡ Some b → slice_get m.types t ≡ Some type → tree_of b.code ≡ Some tree
      → f ≡ own_function m k type b.locals tree → new ≡ old ++ f ∷ []
      → new ≡ old ++ own_at m k (slice_get m.functions place) (slice_get m.bodies place)
  own_there new t b type tree f number body there code made more =
      more
      ∙ ap (λ g. old ++ g ∷ []) made
      ∙ ap (λ l. old ++ l) (sym (both_there t b number body ∙ ap (λ o. function_for m k (own_callee o b (tree_of b.code))) there ∙ ap (λ o. function_for m k (own_callee (Some type) b o)) code))
