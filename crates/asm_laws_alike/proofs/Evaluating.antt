-- Code of the same form runs alike.
use Rattle.std.proofs.Common.{ℕ, zero, suc, false, List, [], ◌∷◌, Option, refl}
use Rattle.std.specs.Prelude.{option_and_then, slice_get, pos}
use Rattle.std.specs.List.{AllZip}
use Rattle.sem_words.specs.declared.js_value.JsValue.{JsValue}
use Rattle.sem_words.specs.declared.js_value.JsValue.TheVariants.{Whole}
use Rattle.sem_words.specs.JsValues.{truthy_of}
use Rattle.sem_words.specs.JsOperators.{js_binary_of, js_unary_of}
use Rattle.asm_lang.specs.Modules.{Expr, Exprs, Links, Function, Table, Module}
use Rattle.asm_lang_valid.specs.Scope.{Meaning, nothing, an_int, an_outside, a_foreign, a_builtin, a_view, a_table, a_parameter, module_meaning}
use Rattle.asm_lang_valid.specs.Typing.{Scope, named}
use Rattle.asm_lang_exec.specs.Runs.{defined}
use Rattle.asm_lang_exec.specs.Values.{read_element, write_element, Calls, call_named, function_of, entry_of}
use Rattle.asm_lang_exec.specs.Meaning.{eval, eval_all, eval_links, eval_last, link_operator}
use Rattle.asm_short_lang.specs.Renaming.{local_names}
use Rattle.asm_laws_alike.specs.Places.{valued_names}
use Rattle.asm_laws_alike.specs.Code.{Pair, ArePaired, SameOption, neither, both, SameMember, SameMeaning, same_nothing, same_int, same_outside, same_foreign, same_builtin, same_view, same_function, same_table, same_parameter, SameExpr, same_lit, same_decimal, same_var, same_index, same_call, same_table_call, same_assign, same_store, same_unary, same_binary, same_chain, same_cond, same_comma, SameExprs, same_no_exprs, same_exprs, SameLinks, same_no_links, same_links}
use Rattle.asm_laws_alike.proofs.Runs.{Sides, Same, Equal, same_then, same_value_then, same_gives, same_wrong, same_defined, same_if, same_read, same_write, same_read_element, same_write_element, same_import, both_go, both_wrong}

-- the names of the variables of two functions
abbrev pub sides_of : Scope → Scope → Sides
sides_of c c' = record { locals = local_names c.within; locals' = local_names c'.within; globals = valued_names c.home.globals; globals' = valued_names c'.home.globals }

-- calls of paired functions, from wherever they are made
abbrev pub SameCalls : List Pair → Calls → Calls → List (List ℕ) → List (List ℕ) → Type 0
SameCalls pairs calls calls' g g' =
    (f f' : Function) → ArePaired pairs f f' → (l l' : List (List ℕ)) (vs : List JsValue) → Same (record { locals = l; locals' = l'; globals = g; globals' = g' }) Equal (calls f vs) (calls' f' vs)

-- ---- operations that see a meaning

same_element : (pairs : List Pair) (m m' : Module) (s : Sides) (μ μ' : Meaning) (x : JsValue) → SameMeaning pairs m m' μ μ' → Same s Equal (read_element μ x) (read_element μ' x)
same_element pairs m m' s μ μ' x same_nothing = same_read_element nothing x
same_element pairs m m' s μ μ' x same_int = same_read_element an_int x
same_element pairs m m' s μ μ' x same_outside = same_read_element an_outside x
same_element pairs m m' s μ μ' x (same_foreign p) = same_read_element (a_foreign p) x
same_element pairs m m' s μ μ' x (same_builtin b) = same_read_element (a_builtin b) x
same_element pairs m m' s μ μ' x (same_view e) = same_read_element (a_view e) x
same_element pairs m m' s μ μ' x (same_function h) = same_wrong
same_element pairs m m' s μ μ' x (same_table h) = same_wrong
same_element pairs m m' s μ μ' x same_parameter = same_read_element a_parameter x

same_stored : (pairs : List Pair) (m m' : Module) (s : Sides) (μ μ' : Meaning) (x v : JsValue) → SameMeaning pairs m m' μ μ' → Same s Equal (write_element μ x v) (write_element μ' x v)
same_stored pairs m m' s μ μ' x v same_nothing = same_write_element nothing x v
same_stored pairs m m' s μ μ' x v same_int = same_write_element an_int x v
same_stored pairs m m' s μ μ' x v same_outside = same_write_element an_outside x v
same_stored pairs m m' s μ μ' x v (same_foreign p) = same_write_element (a_foreign p) x v
same_stored pairs m m' s μ μ' x v (same_builtin b) = same_write_element (a_builtin b) x v
same_stored pairs m m' s μ μ' x v (same_view e) = same_write_element (a_view e) x v
same_stored pairs m m' s μ μ' x v (same_function h) = same_wrong
same_stored pairs m m' s μ μ' x v (same_table h) = same_wrong
same_stored pairs m m' s μ μ' x v same_parameter = same_write_element a_parameter x v

same_callee : (pairs : List Pair) (m m' : Module) (s : Sides) (calls calls' : Calls) → SameCalls pairs calls calls' s.globals s.globals' → (μ μ' : Meaning) (vs : List JsValue) → SameMeaning pairs m m' μ μ'
    → Same s Equal (call_named calls μ vs) (call_named calls' μ' vs)
same_callee pairs m m' s calls calls' same μ μ' vs same_nothing = same_wrong
same_callee pairs m m' s calls calls' same μ μ' vs same_int = same_wrong
same_callee pairs m m' s calls calls' same μ μ' vs same_outside = same_wrong
same_callee pairs m m' s calls calls' same μ μ' vs (same_foreign p) = same_import p vs
same_callee pairs m m' s calls calls' same μ μ' vs (same_builtin b) = same_defined _
same_callee pairs m m' s calls calls' same μ μ' vs (same_view e) = same_wrong
same_callee pairs m m' s calls calls' same μ μ' vs (same_function h) = same _ _ h s.locals s.locals' vs
same_callee pairs m m' s calls calls' same μ μ' vs (same_table h) = same_wrong
same_callee pairs m m' s calls calls' same μ μ' vs same_parameter = same_wrong

-- ---- members of tables

pub same_option : (pairs : List Pair) (s : Sides) (o o' : Option Function) → SameOption pairs o o' → Same s (ArePaired pairs) (defined o) (defined o')
same_option pairs s o o' neither = record { runs = λ p p' i. both_wrong }
same_option pairs s o o' (both h) = record { runs = λ p p' i. both_go h i }

module _ (pairs : List Pair) (m m' : Module) where
  abbrev member_of : Module → Option (List ℕ) → Option Function
  member_of m o = option_and_then (λ n. function_of (module_meaning m n)) o

  same_at : (ns ns' : List (List ℕ)) → AllZip (SameMember pairs m m') ns ns' → (i : ℕ) → SameOption pairs (member_of m (slice_get ns i)) (member_of m' (slice_get ns' i))
  same_at [] [] h i = neither
  same_at [] (n ∷ ns) h i = absurd h
  same_at (n ∷ ns) [] h i = absurd h
  same_at (n ∷ ns) (n' ∷ ns') h zero = h.0
  same_at (n ∷ ns) (n' ∷ ns') h (suc i) = same_at ns ns' h.1 i

  same_member : (t t' : Table) → AllZip (SameMember pairs m m') t.members t'.members → (x : JsValue) → SameOption pairs (entry_of m (a_table t) x) (entry_of m' (a_table t') x)
  same_member t t' h (Whole (pos i)) = same_at t.members t'.members h i
  same_member t t' h _ = neither

  same_entry : (μ μ' : Meaning) (x : JsValue) → SameMeaning pairs m m' μ μ' → SameOption pairs (entry_of m μ x) (entry_of m' μ' x)
  same_entry μ μ' x same_nothing = neither
  same_entry μ μ' x same_int = neither
  same_entry μ μ' x same_outside = neither
  same_entry μ μ' x (same_foreign p) = neither
  same_entry μ μ' x (same_builtin b) = neither
  same_entry μ μ' x (same_view e) = neither
  same_entry μ μ' x (same_function h) = neither
  same_entry μ μ' x (same_table {t = t} {t' = t'} h) = same_member t t' h x
  same_entry μ μ' x same_parameter = neither

-- ---- expressions

module _ (pairs : List Pair) (c c' : Scope) (calls calls' : Calls) (same : SameCalls pairs calls calls' (valued_names c.home.globals) (valued_names c'.home.globals)) where
  mutual
    pub eval_same : {e e' : Expr} → SameExpr pairs c c' e e' → Same (sides_of c c') Equal (eval false calls c e) (eval false calls' c' e')
    eval_same (same_lit z) = same_gives refl
    eval_same (same_decimal bs) = same_wrong
    eval_same (same_var {n = n} {n' = n'} h) = same_read n n' h.local h.global
    eval_same (same_index {n = n} {n' = n'} h i) = same_value_then (eval_same i) (λ x. same_element pairs c.home c'.home (sides_of c c') (named c n) (named c' n') x h.meaning)
    eval_same (same_call {n = n} {n' = n'} h es) = same_value_then (all_same es) (λ vs. same_callee pairs c.home c'.home (sides_of c c') calls calls' same (named c n) (named c' n') vs h.meaning)
    eval_same (same_table_call {n = n} {n' = n'} h i es) =
        same_value_then (eval_same i) (λ x. same_value_then (all_same es) (λ vs. same_then (same_option pairs (sides_of c c') _ _ (same_entry pairs c.home c'.home (named c n) (named c' n') x h.meaning)) (λ f f' k. same f f' k (local_names c.within) (local_names c'.within) vs)))
    eval_same (same_assign {n = n} {n' = n'} h e) = same_value_then (eval_same e) (λ v. same_write n n' v h.local h.global)
    eval_same (same_store {n = n} {n' = n'} h i e) = same_value_then (eval_same i) (λ x. same_value_then (eval_same e) (λ v. same_stored pairs c.home c'.home (sides_of c c') (named c n) (named c' n') x v h.meaning))
    eval_same (same_unary op e) = same_value_then (eval_same e) (λ v. same_defined (js_unary_of op v))
    eval_same (same_binary op l r) = same_value_then (eval_same l) (λ v. same_value_then (eval_same r) (λ w. same_defined (js_binary_of op v w)))
    eval_same (same_chain e ls) = same_value_then (eval_same e) (λ v. links_same ls v)
    eval_same (same_cond e a b) = same_value_then (eval_same e) (λ v. same_if (truthy_of v) (eval_same a) (eval_same b))
    eval_same (same_comma es) = last_same es

    all_same : {es es' : Exprs} → SameExprs pairs c c' es es' → Same (sides_of c c') Equal (eval_all false calls c es) (eval_all false calls' c' es')
    all_same same_no_exprs = same_gives refl
    all_same (same_exprs e es) = same_value_then (eval_same e) (λ v. same_value_then (all_same es) (λ vs. same_gives refl))

    links_same : {ls ls' : Links} → SameLinks pairs c c' ls ls' → (v : JsValue) → Same (sides_of c c') Equal (eval_links false calls c ls v) (eval_links false calls' c' ls' v)
    links_same same_no_links v = same_gives refl
    links_same (same_links minus e ls) v = same_value_then (eval_same e) (λ w. same_value_then (same_defined (js_binary_of (link_operator minus) v w)) (λ x. links_same ls x))

    last_same : {es es' : Exprs} → SameExprs pairs c c' es es' → Same (sides_of c c') Equal (eval_last false calls c es) (eval_last false calls' c' es')
    last_same same_no_exprs = same_wrong
    last_same (same_exprs e same_no_exprs) = eval_same e
    last_same (same_exprs e (same_exprs x es)) = same_value_then (eval_same e) (λ v. last_same (same_exprs x es))
