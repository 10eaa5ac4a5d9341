-- Terms over variables that are found, and statements of helpers.
use Rattle.std.proofs.Common.{◌≡◌, ℕ, ◌-◌, ◌^◌, false, List, [], ◌∷◌, None, refl, sym, ap, ◌∙◌, subst}
use Rattle.std.specs.Prelude.{map}
use Rattle.sem_words.specs.declared.js_value.JsValue.{JsValue}
use Rattle.sem_words.specs.declared.js_value.JsUnary.TheVariants.{BitNot}
use Rattle.sem_words.specs.JsValues.{to_uint32_of}
use Rattle.sem_words.specs.JsOperators.{js_binary_of, js_unary_of}
use Rattle.sem_words.specs.Words.{leading_zeros_of}
use Rattle.asm_types.proofs.Sound.{to_uint32_lt}
use Rattle.asm_lang.specs.Modules.{Expr, Stmt, unary, no_exprs, exprs}
use Rattle.asm_lang_valid.specs.declared.meaning.Builtin.TheVariants.{Clz32}
use Rattle.asm_lang_valid.specs.Scope.{a_builtin, a_view}
use Rattle.asm_lang_valid.specs.Typing.{Scope, named}
use Rattle.asm_lang_exec.specs.Runs as runs
use Rattle.asm_lang_exec.specs.Runs.{Place, Run, wrong, Part, after, and_then, defined}
use Rattle.asm_lang_exec.specs.Values.{Calls, call_named}
use Rattle.asm_lang_exec.specs.Meaning.{eval, eval_all, eval_links, link_operator, returned, unless_left, exec_all}
use Rattle.wasm2js_translation.specs.Names.{clz32, spelled}
use Rattle.wasm2js_translation.specs.Words.{called, Term, read, number, both, flip, sum, product, zeros, compare, choose, byte, whole, Summands, no_more, further, as_int, bit_operator, name_of, expr, summands, int_of, stmts_in, signed_number, byte_view}
use Rattle.wasm2js_translation.specs.Helpers.{gives}
use Rattle.wasm2js_laws_terms.specs.Sound.{byte_element}
use Rattle.wasm2js_laws_places.specs.Straight.{Words, value, summed, bits_of, added}
use Rattle.wasm2js_laws_actions.specs.Reads.{Reads}
use Rattle.wasm2js_laws_actions.proofs.Numbers.{bits_read, links_read, zeros_read, flipped}
use Rattle.wasm2js_laws_actions.proofs.Reading.{read_then, all_then, one_more}
use Rattle.wasm2js_laws_actions.proofs.Evaluated.{two, signed_read, byte_read}
use Rattle.wasm2js_laws_helpers.proofs.Called.{Returns}

zeros_called : (x : ℕ) (calls : Calls) (vs : List JsValue) (p : Place) → map to_uint32_of vs ≡ x ∷ [] → Reads (leading_zeros_of 32 x) p (call_named calls (a_builtin Clz32) vs p)
zeros_called x calls [] p h = tt
zeros_called x calls (v ∷ []) p h =
    let a : to_uint32_of v ≡ x = cc h in
    subst (λ n. Reads n p (call_named calls (a_builtin Clz32) (v ∷ []) p)) (ap (leading_zeros_of 32) a) (zeros_read v p)
zeros_called x calls (v ∷ w ∷ us) p h = tt

module _ (calls : Calls) (c : Scope) (words : Words) where
  abbrev ev : Expr → Part JsValue
  ev e = eval false calls c e

  module _ (p : Place) where
    -- each variable of a term is found with its word
    abbrev mutual
      pub Known : Term → Type 0
      Known (read n) = Reads (words n) p (runs.read (spelled n) p)
      Known (number z) = Unit {0}
      Known (both op l r) = Known l × Known r
      Known (flip t) = Known t
      Known (sum t ts) = Known t × AllKnown ts
      Known (product l r) = ⊥
      Known (zeros t) = (named c (name_of clz32) ≡ a_builtin Clz32) × Known t
      Known (compare signed r x y) = ⊥
      Known (choose t x y) = ⊥
      Known (byte signed at) = (named c (name_of (byte_view signed)) ≡ a_view (byte_element signed)) × Known at
      Known (whole at) = ⊥

      pub AllKnown : Summands → Type 0
      AllKnown no_more = Unit {0}
      AllKnown (further minus t ts) = Known t × AllKnown ts

    flip_read : (e : Expr) (x : ℕ) → Reads x p (ev e p) → Reads (2 ^ 32 - 1 - x) p (ev (unary BitNot e) p)
    flip_read e x h =
        read_then (Reads (2 ^ 32 - 1 - x) p) x p (ev e p) (λ v. defined (js_unary_of BitNot v)) tt h
        (λ v a. (refl, flipped (to_uint32_of v) (to_uint32_lt v) ∙ ap (λ n. 2 ^ 32 - 1 - n) a))

    leading_read : (a : Expr) (x : ℕ) → named c (name_of clz32) ≡ a_builtin Clz32 → Reads x p (ev a p) → Reads (leading_zeros_of 32 x) p (ev (called clz32 (exprs a no_exprs)) p)
    leading_read a x is h =
        all_then (Reads (leading_zeros_of 32 x) p) (x ∷ []) p (eval_all false calls c (exprs a no_exprs) p) (λ vs. call_named calls (named c (name_of clz32)) vs) tt
        (one_more x [] p (ev a p) (eval_all false calls c no_exprs) h (refl, refl))
        (λ vs e. subst (λ m. Reads (leading_zeros_of 32 x) p (call_named calls m vs p)) (sym is) (zeros_called x calls vs p e))

    as_int_read : (t : Term) (e : Expr) (x : ℕ) → Reads x p (ev e p) → Reads x p (ev (as_int t e) p)
    as_int_read (read n) e x h = h
    as_int_read (number z) e x h = h
    as_int_read (both op a b) e x h = h
    as_int_read (flip a) e x h = h
    as_int_read (sum a ts) e x h = signed_read calls c e x p h
    as_int_read (product a b) e x h = h
    as_int_read (zeros a) e x h = h
    as_int_read (compare signed r a b) e x h = h
    as_int_read (choose t a b) e x h = h
    as_int_read (byte signed at) e x h = signed_read calls c e x p h
    as_int_read (whole at) e x h = signed_read calls c e x p h

    mutual
      expr_read : (t : Term) → Known t → Reads (value t words p.heap) p (ev (expr t) p)
      expr_read (read n) k = k
      expr_read (number z) k = (refl, refl)
      expr_read (both op l r) k =
          two calls c (bits_of op) (bit_operator op) (bits_read op) (expr l) (expr r) _ _ p (expr_read l k.0) (expr_read r k.1)
      expr_read (flip t) k = flip_read (expr t) _ (expr_read t k)
      expr_read (sum t ts) k =
          read_then (Reads (value (sum t ts) words p.heap) p) (value t words p.heap) p (ev (int_of t) p) (λ v. eval_links false calls c (summands ts) v) tt
          (as_int_read t (expr t) _ (expr_read t k.0)) (λ v e. summands_read ts (value t words p.heap) v k.1 e)
      expr_read (product l r) k = absurd k
      expr_read (zeros t) k = leading_read (int_of t) _ k.0 (as_int_read t (expr t) _ (expr_read t k.1))
      expr_read (compare signed r x y) k = absurd k
      expr_read (choose t x y) k = absurd k
      expr_read (byte signed t) k = byte_read calls c signed (expr t) _ p k.0 (expr_read t k.1)
      expr_read (whole t) k = absurd k

      summands_read : (ts : Summands) (x : ℕ) (v : JsValue) → AllKnown ts → to_uint32_of v ≡ x → Reads (summed ts x words p.heap) p (eval_links false calls c (summands ts) v p)
      summands_read no_more x v k e = (refl, e)
      summands_read (further minus t ts) x v k e =
          read_then (Reads (summed (further minus t ts) x words p.heap) p) (value t words p.heap) p (ev (int_of t) p)
          (λ w. and_then (defined (js_binary_of (link_operator minus) v w)) (λ y. eval_links false calls c (summands ts) y)) tt
          (as_int_read t (expr t) _ (expr_read t k.0))
          (λ w f. read_then (Reads (summed (further minus t ts) x words p.heap) p) (added minus x (value t words p.heap)) p
          (defined (js_binary_of (link_operator minus) v w) p) (λ y. eval_links false calls c (summands ts) y) tt
          (subst (λ n. Reads n p (defined (js_binary_of (link_operator minus) v w) p)) (ap (λ n. added minus n (to_uint32_of w)) e ∙ ap (added minus x) f) (links_read minus v w p))
          (λ y g. summands_read ts (added minus x (value t words p.heap)) y k.1 g))

    pub int_read : (t : Term) → Known t → Reads (value t words p.heap) p (ev (int_of t) p)
    int_read t k = as_int_read t (expr t) _ (expr_read t k)

    -- `return t|0;`
    pub given : (turns : ℕ) (t : Term) (rest : List Stmt) → Known t → Returns (value t words p.heap) None p (exec_all false calls c turns (stmts_in (gives t ∷ rest)) p)
    given turns t rest k = returned_of (ev (signed_number (expr t)) p) (signed_read calls c (expr t) (value t words p.heap) p (expr_read t k))
      where
        returned_of : (r : Run JsValue) → Reads (value t words p.heap) p r
            → Returns (value t words p.heap) None p (after (after r (λ v. runs.gives (returned v))) (λ d. unless_left d (exec_all false calls c turns (stmts_in rest))))
        returned_of (runs.goes v q) h = (h.1, record { heap = ap (λ (q : Place). q.heap) h.0; units = ap (λ (q : Place). q.units) h.0; events = ap (λ (q : Place). q.events) h.0; replies = ap (λ (q : Place). q.replies) h.0; globals = ap (λ (q : Place). q.globals) h.0 })
        returned_of (runs.stops e q) h = absurd h
        returned_of (runs.spent q) h = absurd h
        returned_of wrong h = tt
