-- Where names mean the same, expressions have the same types.
use Rattle.std.proofs.Common.{◌≡◌, ℕ, Bool, true, false, List, Option, Some, None, refl}
use Rattle.asm_types.specs.declared.value_type.ValueType.{ValueType}
use Rattle.asm_types.specs.declared.value_type.ValueType.TheVariants.{Int, Extern}
use Rattle.asm_lang.specs.Modules.{Expr, lit, decimal, var, index, call, table_call, assign, store, unary, binary, chain, cond, comma, Exprs, no_exprs, exprs, Links, no_links, links}
use Rattle.asm_lang_valid.specs.Scope.{Meaning, nothing, an_int, an_outside, a_foreign, a_builtin, a_view, a_function, a_table, a_parameter, first_member}
use Rattle.asm_lang_valid.specs.Typing.{Scope, named, is_call, table_fits, type_of, all_below, links_fit, call_fits, last_type, result_of, return_fits}

-- names mean the same in both, and the function has a result in both or in none
pub record IsAlike (c d : Scope) : Type 0 where
  pub names : (n : List ℕ) → named d n ≡ named c n
  pub members : (ns : List (List ℕ)) → first_member d.home ns ≡ first_member c.home ns
  pub result : result_of d ≡ result_of c

module _ (c d : Scope) (alike : IsAlike c d) where
  pub table_same : (x : Meaning) (result : Bool) (k : ℕ) (ints : Bool) → table_fits d.home x result k ints ≡ table_fits c.home x result k ints
  table_same (a_table t) result k ints = let e = alike.members t.members in rw e refl
  table_same nothing result k ints = refl
  table_same an_int result k ints = refl
  table_same an_outside result k ints = refl
  table_same (a_foreign p) result k ints = refl
  table_same (a_builtin b) result k ints = refl
  table_same (a_view v) result k ints = refl
  table_same (a_function f) result k ints = refl
  table_same a_parameter result k ints = refl

  pub call_same : (e : Expr) → is_call d e ≡ is_call c e
  call_same (call n es) = let e = alike.names n in rw e refl
  call_same (table_call n i es) = refl
  call_same (lit v) = refl
  call_same (decimal bs) = refl
  call_same (var n) = refl
  call_same (index n i) = refl
  call_same (assign n e) = refl
  call_same (store n i e) = refl
  call_same (unary op e) = refl
  call_same (binary op l r) = refl
  call_same (chain e ls) = refl
  call_same (cond e a b) = refl
  call_same (comma es) = refl

  mutual
    pub type_same : (e : Expr) → type_of d e ≡ type_of c e
    type_same (lit v) = refl
    type_same (decimal bs) = refl
    type_same (var n) = let x = alike.names n in rw x refl
    type_same (index n i) = let x = alike.names n in let a = type_same i in rw (x, a) refl
    type_same (call n es) = let x = alike.names n in let a = all_same Int es in rw (x, a) refl
    type_same (table_call n i es) = refl
    type_same (assign n e) = let x = alike.names n in let a = type_same e in rw (x, a) refl
    type_same (store n i e) = let x = alike.names n in let a = type_same i in let b = type_same e in rw (x, a, b) refl
    type_same (unary op e) = let a = type_same e in rw a refl
    type_same (binary op l r) = let x = call_same l in let a = type_same l in let b = type_same r in let f = fits_same true l in rw (x, a, b, f) refl
    type_same (chain e ls) = let a = type_same e in let b = links_same ls in rw (a, b) refl
    type_same (cond e a b) = let x = type_same e in let y = type_same a in let z = type_same b in rw (x, y, z) refl
    type_same (comma es) = last_same es

    pub all_same : (top : ValueType) (es : Exprs) → all_below d top es ≡ all_below c top es
    all_same top no_exprs = refl
    all_same top (exprs e es) = let a = type_same e in let b = all_same top es in rw (a, b) refl

    pub links_same : (ls : Links) → links_fit d ls ≡ links_fit c ls
    links_same no_links = refl
    links_same (links minus e ls) = let a = type_same e in let b = links_same ls in rw (a, b) refl

    pub fits_same : (result : Bool) (e : Expr) → call_fits d result e ≡ call_fits c result e
    fits_same result (call n es) = let x = alike.names n in let a = all_same Int es in let b = all_same Extern es in rw (x, a, b) refl
    fits_same result (table_call n i es) =
        let x = alike.names n in
        let a = all_same Int es in
        let b = type_same i in
        let t = table_same (named c n) result in
        rw (x, a, b) (rw t refl)
    fits_same result (lit v) = refl
    fits_same result (decimal bs) = refl
    fits_same result (var n) = refl
    fits_same result (index n i) = refl
    fits_same result (assign n e) = refl
    fits_same result (store n i e) = refl
    fits_same result (unary op e) = refl
    fits_same result (binary op l r) = refl
    fits_same result (chain e ls) = refl
    fits_same result (cond e a b) = refl
    fits_same result (comma es) = refl

    pub last_same : (es : Exprs) → last_type d es ≡ last_type c es
    last_same no_exprs = refl
    last_same (exprs e no_exprs) = type_same e
    last_same (exprs e (exprs x es)) = let p = call_same e in let f = fits_same false e in let a = type_same e in let b = last_same (exprs x es) in rw (p, f, a, b) refl

  pub returns_same : (o : Option Expr) → return_fits d o ≡ return_fits c o
  returns_same None = let r = alike.result in rw r refl
  returns_same (Some e) = let r = alike.result in let a = type_same e in rw (r, a) refl
