-- Code of the same form has the same types, where paired functions have the same signatures.
use Rattle.std.proofs.Common.{◌≡◌, ℕ, suc, pos, negsuc, Bool, true, false, not, ◌&&◌, ◌||◌, List, [], ◌∷◌, length, Option, Some, option_and_then, option_map, is_some, refl, sym, ap, ap₂, ◌∙◌}
use Rattle.std.specs.List.{AllZip}
use Rattle.sem_words.specs.declared.js_value.JsOp.{JsOp}
use Rattle.sem_words.specs.declared.js_value.JsOp.TheVariants.{Mul, Or, And, Sar}
use Rattle.asm_types.specs.declared.value_type.ValueType.{ValueType}
use Rattle.asm_types.specs.declared.value_type.ValueType.TheVariants.{Int, Intish, Extern}
use Rattle.asm_types.specs.Rows.{row, unary_row_of}
use Rattle.asm_lang.specs.Modules.{Expr, binary, Exprs, Links, Function, Module}
use Rattle.asm_lang_valid.specs.Scope.{shift_of, Meaning, nothing, an_int, an_outside, a_foreign, a_builtin, a_view, a_function, a_table, a_parameter, module_meaning, Signature, signature_of, function_signature, first_member}
use Rattle.asm_lang_valid.specs.Typing.{Scope, named, is_literal, is_factor, links_length, typed_below, is_int, index_form, index_fits, operated, masked, exprs_length, is_builtin, is_call, matches, or_zero, builtin_call, callee_fits, table_fits, mask_fits, type_of, all_below, links_fit, call_fits, last_type, effect_fits, condition_fits, part_fits}
use Rattle.asm_lang_exec.specs.Values.{function_of}
use Rattle.asm_laws_alike.specs.Code.{Pair, ArePaired, SameOption, neither, both, SameMember, SameMeaning, same_nothing, same_int, same_outside, same_foreign, same_builtin, same_view, same_function, same_table, same_parameter, SameName, SameExpr, same_lit, same_decimal, same_var, same_index, same_call, same_table_call, same_assign, same_store, same_unary, same_binary, same_chain, same_cond, same_comma, SameExprs, same_no_exprs, same_exprs, SameLinks, same_no_links, same_links, SamePart, no_part, a_part}

-- ---- the shape of an expression

module _ (pairs : List Pair) (c c' : Scope) where
  literal_same : (n : ℕ) {e e' : Expr} → SameExpr pairs c c' e e' → is_literal n e' ≡ is_literal n e
  literal_same n (same_lit z) = refl
  literal_same n (same_decimal bs) = refl
  literal_same n (same_var h) = refl
  literal_same n (same_index h i) = refl
  literal_same n (same_call h es) = refl
  literal_same n (same_table_call h i es) = refl
  literal_same n (same_assign h e) = refl
  literal_same n (same_store h i e) = refl
  literal_same n (same_unary op e) = refl
  literal_same n (same_binary op l r) = refl
  literal_same n (same_chain e ls) = refl
  literal_same n (same_cond e a b) = refl
  literal_same n (same_comma es) = refl

  factor_same : {e e' : Expr} → SameExpr pairs c c' e e' → is_factor e' ≡ is_factor e
  factor_same (same_lit z) = refl
  factor_same (same_decimal bs) = refl
  factor_same (same_var h) = refl
  factor_same (same_index h i) = refl
  factor_same (same_call h es) = refl
  factor_same (same_table_call h i es) = refl
  factor_same (same_assign h e) = refl
  factor_same (same_store h i e) = refl
  factor_same (same_unary op e) = refl
  factor_same (same_binary op l r) = refl
  factor_same (same_chain e ls) = refl
  factor_same (same_cond e a b) = refl
  factor_same (same_comma es) = refl

  shifted_same : (k : ℕ) (op : JsOp) (t : Option ValueType) (l l' r r' : Expr) → is_literal k r' ≡ is_literal k r → index_form k (binary op l' r') t ≡ index_form k (binary op l r) t
  shifted_same k Sar t l l' r r' h = h
  shifted_same k _ t l l' r r' h = refl

  form_same : (k : ℕ) (t : Option ValueType) {e e' : Expr} → SameExpr pairs c c' e e' → index_form k e' t ≡ index_form k e t
  form_same k t (same_lit z) = refl
  form_same k t (same_decimal bs) = refl
  form_same k t (same_var h) = refl
  form_same k t (same_index h i) = refl
  form_same k t (same_call h es) = refl
  form_same k t (same_table_call h i es) = refl
  form_same k t (same_assign h e) = refl
  form_same k t (same_store h i e) = refl
  form_same k t (same_unary op e) = refl
  form_same k t (same_binary op {l = l} {l' = l'} {r = r} {r' = r'} x y) = shifted_same k op t l l' r r' (literal_same k y)
  form_same k t (same_chain e ls) = refl
  form_same k t (same_cond e a b) = refl
  form_same k t (same_comma es) = refl

  pub zero_same : (op : JsOp) {r r' : Expr} → SameExpr pairs c c' r r' → or_zero op r' ≡ or_zero op r
  zero_same op {r = r} {r' = r'} h = by op (literal_same 0 h)
    where
      by : (op : JsOp) → is_literal 0 r' ≡ is_literal 0 r → or_zero op r' ≡ or_zero op r
      by Or e = e
      by _ e = refl

  operated_same : (op : JsOp) {l l' r r' : Expr} (a b : Option ValueType) → SameExpr pairs c c' l l' → SameExpr pairs c c' r r' → operated op l' r' a b ≡ operated op l r a b
  operated_same op {l = l} {l' = l'} {r = r} {r' = r'} a b h k = by op (factor_same h) (factor_same k)
    where
      by : (op : JsOp) → is_factor l' ≡ is_factor l → is_factor r' ≡ is_factor r → operated op l' r' a b ≡ operated op l r a b
      by Mul e f = ap₂ (λ x y. row (typed_below Int a && typed_below Int b && (x || y)) Intish) e f
      by _ e f = refl

  mask_right : (n : ℕ) (l l' : Expr) {r r' : Expr} → SameExpr pairs c c' r r' → masked n (binary And l' r') ≡ masked n (binary And l r)
  mask_right n l l' (same_lit (pos k)) = refl
  mask_right n l l' (same_lit (negsuc k)) = refl
  mask_right n l l' (same_decimal bs) = refl
  mask_right n l l' (same_var h) = refl
  mask_right n l l' (same_index h i) = refl
  mask_right n l l' (same_call h es) = refl
  mask_right n l l' (same_table_call h i es) = refl
  mask_right n l l' (same_assign h e) = refl
  mask_right n l l' (same_store h i e) = refl
  mask_right n l l' (same_unary op e) = refl
  mask_right n l l' (same_binary op x y) = refl
  mask_right n l l' (same_chain e ls) = refl
  mask_right n l l' (same_cond e a b) = refl
  mask_right n l l' (same_comma es) = refl

  mask_of : (n : ℕ) (op : JsOp) (l l' : Expr) {r r' : Expr} → SameExpr pairs c c' r r' → masked n (binary op l' r') ≡ masked n (binary op l r)
  mask_of n op l l' {r = r} {r' = r'} h = by op (mask_right n l l' h)
    where
      by : (op : JsOp) → masked n (binary And l' r') ≡ masked n (binary And l r) → masked n (binary op l' r') ≡ masked n (binary op l r)
      by And e = e
      by _ e = refl

  masked_same : (n : ℕ) {e e' : Expr} → SameExpr pairs c c' e e' → masked n e' ≡ masked n e
  masked_same n (same_lit z) = refl
  masked_same n (same_decimal bs) = refl
  masked_same n (same_var h) = refl
  masked_same n (same_index h i) = refl
  masked_same n (same_call h es) = refl
  masked_same n (same_table_call h i es) = refl
  masked_same n (same_assign h e) = refl
  masked_same n (same_store h i e) = refl
  masked_same n (same_unary op e) = refl
  masked_same n (same_binary op {l = l} {l' = l'} x y) = mask_of n op l l' y
  masked_same n (same_chain e ls) = refl
  masked_same n (same_cond e a b) = refl
  masked_same n (same_comma es) = refl

  pub many_same : {es es' : Exprs} → SameExprs pairs c c' es es' → exprs_length es' ≡ exprs_length es
  many_same same_no_exprs = refl
  many_same (same_exprs e es) = ap suc (many_same es)

  links_many : {ls ls' : Links} → SameLinks pairs c c' ls ls' → links_length ls' ≡ links_length ls
  links_many same_no_links = refl
  links_many (same_links minus e ls) = ap suc (links_many ls)

-- ---- what depends on a meaning

module _ (pairs : List Pair) (m m' : Module) where
  int_same : {x x' : Meaning} → SameMeaning pairs m m' x x' → is_int x' ≡ is_int x
  int_same same_nothing = refl
  int_same same_int = refl
  int_same same_outside = refl
  int_same (same_foreign p) = refl
  int_same (same_builtin b) = refl
  int_same (same_view e) = refl
  int_same (same_function h) = refl
  int_same (same_table h) = refl
  int_same same_parameter = refl

  builtin_same : {x x' : Meaning} → SameMeaning pairs m m' x x' → is_builtin x' ≡ is_builtin x
  builtin_same same_nothing = refl
  builtin_same same_int = refl
  builtin_same same_outside = refl
  builtin_same (same_foreign p) = refl
  builtin_same (same_builtin b) = refl
  builtin_same (same_view e) = refl
  builtin_same (same_function h) = refl
  builtin_same (same_table h) = refl
  builtin_same same_parameter = refl

  builtin_typed : (n : ℕ) (ints : Bool) {x x' : Meaning} → SameMeaning pairs m m' x x' → builtin_call x' n ints ≡ builtin_call x n ints
  builtin_typed n ints same_nothing = refl
  builtin_typed n ints same_int = refl
  builtin_typed n ints same_outside = refl
  builtin_typed n ints (same_foreign p) = refl
  builtin_typed n ints (same_builtin b) = refl
  builtin_typed n ints (same_view e) = refl
  builtin_typed n ints (same_function h) = refl
  builtin_typed n ints (same_table h) = refl
  builtin_typed n ints same_parameter = refl

  index_same : (i i' : Expr) (t : Option ValueType) → ((k : ℕ) → index_form k i' t ≡ index_form k i t) → {x x' : Meaning} → SameMeaning pairs m m' x x' → index_fits x' i' t ≡ index_fits x i t
  index_same i i' t h same_nothing = refl
  index_same i i' t h same_int = refl
  index_same i i' t h same_outside = refl
  index_same i i' t h (same_foreign p) = refl
  index_same i i' t h (same_builtin b) = refl
  index_same i i' t h (same_view e) = ap (λ b. is_some t && b) (h (shift_of e))
  index_same i i' t h (same_function k) = refl
  index_same i i' t h (same_table k) = refl
  index_same i i' t h same_parameter = refl

  members_many : (ns ns' : List (List ℕ)) → AllZip (SameMember pairs m m') ns ns' → length ns' ≡ length ns
  members_many [] [] h = refl
  members_many [] (n ∷ ns) h = absurd h
  members_many (n ∷ ns) [] h = absurd h
  members_many (n ∷ ns) (n' ∷ ns') h = ap suc (members_many ns ns' h.1)

  mask_same : (i i' : Expr) → ((n : ℕ) → masked n i' ≡ masked n i) → {x x' : Meaning} → SameMeaning pairs m m' x x' → mask_fits x' i' ≡ mask_fits x i
  mask_same i i' h same_nothing = refl
  mask_same i i' h same_int = refl
  mask_same i i' h same_outside = refl
  mask_same i i' h (same_foreign p) = refl
  mask_same i i' h (same_builtin b) = refl
  mask_same i i' h (same_view e) = refl
  mask_same i i' h (same_function k) = refl
  mask_same i i' h (same_table {t = t} {t' = t'} k) = ap (λ n. masked n i') (members_many t.members t'.members k) ∙ h (length t.members)
  mask_same i i' h same_parameter = refl

  module _ (sig : (f f' : Function) → ArePaired pairs f f' → signature_of f' ≡ signature_of f) where
    callee_same : (result : Bool) (n : ℕ) (ints externs : Bool) {x x' : Meaning} → SameMeaning pairs m m' x x' → callee_fits x' result n ints externs ≡ callee_fits x result n ints externs
    callee_same result n ints externs same_nothing = refl
    callee_same result n ints externs same_int = refl
    callee_same result n ints externs same_outside = refl
    callee_same result n ints externs (same_foreign p) = refl
    callee_same result n ints externs (same_builtin b) = refl
    callee_same result n ints externs (same_view e) = refl
    callee_same result n ints externs (same_function h) = ap (λ s. matches (Some s) n result && ints) (sig _ _ h)
    callee_same result n ints externs (same_table h) = refl
    callee_same result n ints externs same_parameter = refl

    signature_by : (x : Meaning) → function_signature x ≡ option_map signature_of (function_of x)
    signature_by nothing = refl
    signature_by an_int = refl
    signature_by an_outside = refl
    signature_by (a_foreign p) = refl
    signature_by (a_builtin b) = refl
    signature_by (a_view e) = refl
    signature_by (a_function f) = refl
    signature_by (a_table t) = refl
    signature_by a_parameter = refl

    option_signature : (o o' : Option Function) → SameOption pairs o o' → option_map signature_of o' ≡ option_map signature_of o
    option_signature o o' neither = refl
    option_signature o o' (both h) = ap (λ (s : Signature). Some s) (sig _ _ h)

    pub member_signature : (n n' : List ℕ) → SameMember pairs m m' n n' → function_signature (module_meaning m' n') ≡ function_signature (module_meaning m n)
    member_signature n n' h = signature_by (module_meaning m' n') ∙ (option_signature (function_of (module_meaning m n)) (function_of (module_meaning m' n')) h ∙ sym (signature_by (module_meaning m n)))

    first_same : (ns ns' : List (List ℕ)) → AllZip (SameMember pairs m m') ns ns' → first_member m' ns' ≡ first_member m ns
    first_same [] [] h = refl
    first_same [] (n ∷ ns) h = absurd h
    first_same (n ∷ ns) [] h = absurd h
    first_same (n ∷ ns) (n' ∷ ns') h = member_signature n n' h.0

    table_same_fits : (result : Bool) (n : ℕ) (ints : Bool) {x x' : Meaning} → SameMeaning pairs m m' x x' → table_fits m' x' result n ints ≡ table_fits m x result n ints
    table_same_fits result n ints same_nothing = refl
    table_same_fits result n ints same_int = refl
    table_same_fits result n ints same_outside = refl
    table_same_fits result n ints (same_foreign p) = refl
    table_same_fits result n ints (same_builtin b) = refl
    table_same_fits result n ints (same_view e) = refl
    table_same_fits result n ints (same_function h) = refl
    table_same_fits result n ints (same_table {t = t} {t' = t'} h) = ap (λ o. matches o n result && ints) (first_same t.members t'.members h)
    table_same_fits result n ints same_parameter = refl

-- ---- types

module _ (pairs : List Pair) (c c' : Scope) (sig : (f f' : Function) → ArePaired pairs f f' → signature_of f' ≡ signature_of f) where
  pub call_same : {e e' : Expr} → SameExpr pairs c c' e e' → is_call c' e' ≡ is_call c e
  call_same (same_lit z) = refl
  call_same (same_decimal bs) = refl
  call_same (same_var h) = refl
  call_same (same_index h i) = refl
  call_same (same_call h es) = ap not (builtin_same pairs c.home c'.home h.meaning)
  call_same (same_table_call h i es) = refl
  call_same (same_assign h e) = refl
  call_same (same_store h i e) = refl
  call_same (same_unary op e) = refl
  call_same (same_binary op l r) = refl
  call_same (same_chain e ls) = refl
  call_same (same_cond e a b) = refl
  call_same (same_comma es) = refl

  index_as : {n n' : List ℕ} {i i' : Expr} → SameName pairs c c' n n' → SameExpr pairs c c' i i' → type_of c' i' ≡ type_of c i → index_fits (named c' n') i' (type_of c' i') ≡ index_fits (named c n) i (type_of c i)
  index_as {n = n} {n' = n'} {i = i} {i' = i'} h k e = ap (index_fits (named c' n') i') e ∙ index_same pairs c.home c'.home i i' (type_of c i) (λ s. form_same pairs c c' s (type_of c i) k) h.meaning

  mutual
    pub type_same : {e e' : Expr} → SameExpr pairs c c' e e' → type_of c' e' ≡ type_of c e
    type_same (same_lit z) = refl
    type_same (same_decimal bs) = refl
    type_same (same_var h) = ap (λ b. row b Int) (int_same pairs c.home c'.home h.meaning)
    type_same (same_index h i) = ap (λ b. row b Intish) (index_as h i (type_same i))
    type_same (same_call {n = n} {n' = n'} {es = es} {es' = es'} h k) =
        ap₂ (λ x y. builtin_call (named c' n') x y) (many_same pairs c c' k) (below_same Int k) ∙ builtin_typed pairs c.home c'.home (exprs_length es) (all_below c Int es) h.meaning
    type_same (same_table_call h i es) = refl
    type_same (same_assign h e) = let t = type_same e in let i = int_same pairs c.home c'.home h.meaning in rw (t, i) refl
    type_same (same_store h i e) = let t = type_same e in let x = index_as h i (type_same i) in rw (x, t) refl
    type_same (same_unary op e) = ap (λ o. option_and_then (λ t. unary_row_of op t) o) (type_same e)
    type_same (same_binary op {l = l} {l' = l'} {r = r} {r' = r'} x y) =
        let a = call_same x in
        let b = zero_same pairs c c' op y in
        let d = fits_same true x in
        let e : operated op l' r' (type_of c' l') (type_of c' r') ≡ operated op l r (type_of c l) (type_of c r) = ap₂ (λ s t. operated op l' r' s t) (type_same x) (type_same y) ∙ operated_same pairs c c' op (type_of c l) (type_of c r) x y in
        rw (a, b, d, e) refl
    type_same (same_chain e ls) = let t = type_same e in let l = links_same_fit ls in let n = links_many pairs c c' ls in rw (t, l, n) refl
    type_same (same_cond e a b) = let t = type_same e in let x = type_same a in let y = type_same b in rw (t, x, y) refl
    type_same (same_comma es) = last_same es

    below_same : (top : ValueType) {es es' : Exprs} → SameExprs pairs c c' es es' → all_below c' top es' ≡ all_below c top es
    below_same top same_no_exprs = refl
    below_same top (same_exprs e es) = ap₂ (λ t b. typed_below top t && b) (type_same e) (below_same top es)

    links_same_fit : {ls ls' : Links} → SameLinks pairs c c' ls ls' → links_fit c' ls' ≡ links_fit c ls
    links_same_fit same_no_links = refl
    links_same_fit (same_links minus e ls) = ap₂ (λ t b. typed_below Int t && b) (type_same e) (links_same_fit ls)

    pub fits_same : (result : Bool) {e e' : Expr} → SameExpr pairs c c' e e' → call_fits c' result e' ≡ call_fits c result e
    fits_same result (same_lit z) = refl
    fits_same result (same_decimal bs) = refl
    fits_same result (same_var h) = refl
    fits_same result (same_index h i) = refl
    fits_same result (same_call {n = n} {n' = n'} {es = es} h k) =
        let a = many_same pairs c c' k in
        let b = below_same Int k in
        let d = below_same Extern k in
        rw (a, b, d) (callee_same pairs c.home c'.home sig result (exprs_length es) (all_below c Int es) (all_below c Extern es) h.meaning)
    fits_same result (same_table_call {n = n} {n' = n'} {i = i} {i' = i'} {es = es} h k l) =
        let a = many_same pairs c c' l in
        let b = below_same Int l in
        let t = type_same k in
        rw (a, b, t) (ap₂ (λ x y. x && (is_some (type_of c i) && y)) (table_same_fits pairs c.home c'.home sig result (exprs_length es) (all_below c Int es) h.meaning) (mask_same pairs c.home c'.home i i' (λ n. masked_same pairs c c' n k) h.meaning))
    fits_same result (same_assign h e) = refl
    fits_same result (same_store h i e) = refl
    fits_same result (same_unary op e) = refl
    fits_same result (same_binary op l r) = refl
    fits_same result (same_chain e ls) = refl
    fits_same result (same_cond e a b) = refl
    fits_same result (same_comma es) = refl

    last_same : {es es' : Exprs} → SameExprs pairs c c' es es' → last_type c' es' ≡ last_type c es
    last_same same_no_exprs = refl
    last_same (same_exprs e same_no_exprs) = type_same e
    last_same (same_exprs e (same_exprs x es)) =
        let a = call_same e in
        let b = fits_same false e in
        let t = type_same e in
        let l = last_same (same_exprs x es) in
        rw (a, b, t, l) refl

  pub effect_same : {e e' : Expr} → SameExpr pairs c c' e e' → effect_fits c' e' ≡ effect_fits c e
  effect_same e = let a = call_same e in let b = fits_same false e in let t = type_same e in rw (a, b, t) refl

  pub condition_same : {o o' : Option Expr} → SamePart pairs c c' o o' → condition_fits c' o' ≡ condition_fits c o
  condition_same no_part = refl
  condition_same (a_part e) = ap (typed_below Int) (type_same e)

  pub part_same : {o o' : Option Expr} → SamePart pairs c c' o o' → part_fits c' o' ≡ part_fits c o
  part_same no_part = refl
  part_same (a_part e) = effect_same e
