-- The value that a checked expression comes to is one of its type, and what is known of it beside.
use Rattle.std.proofs.Common.{◌≡◌, Bool, true, false, Option, Some, None, ℤ, refl, sym, ap, ◌∙◌, subst}
use Rattle.std.specs.Prelude.{if◌then◌else◌}
use Rattle.sem_words.specs.declared.js_value.JsValue.{JsValue}
use Rattle.sem_words.specs.declared.js_value.JsValue.TheVariants.{Whole}
use Rattle.sem_words.specs.declared.js_value.JsOp.{JsOp}
use Rattle.sem_words.specs.declared.js_value.JsOp.TheVariants.{And}
use Rattle.sem_words.specs.JsValues.{truthy_of}
use Rattle.sem_words.specs.JsOperators.{js_binary_of, js_unary_of}
use Rattle.asm_types.specs.declared.value_type.ValueType.{ValueType}
use Rattle.asm_types.specs.Values.{fits_of}
use Rattle.asm_lang.specs.Modules.{Expr, lit, decimal, var, index, call, table_call, assign, store, unary, binary, chain, cond, comma}
use Rattle.asm_lang_valid.specs.Typing.{Scope, named, type_of}
use Rattle.asm_lang_exec.specs.Runs.{Place, Run, goes, stops, spent, wrong, Part, after, and_then, read, write, gives, goes_wrong, defined}
use Rattle.asm_lang_exec.specs.Values.{Calls, read_element, write_element, call_named}
use Rattle.asm_lang_exec.specs.Meaning.{in_type, eval, eval_all, eval_links, eval_last}
use Rattle.asm_laws_sound.proofs.Expressions.{Masks, Valued}

record Checked (t : ValueType) (o : Run JsValue) (v : JsValue) (q : Place) : Type 0 where
  fits : fits_of t v ≡ true
  is : o ≡ goes v q

check : (t : ValueType) (o : Run JsValue) (v : JsValue) (q : Place) → after o (λ v. if in_type (Some t) v then gives v else goes_wrong) ≡ goes v q → Checked t o v q
check t (goes w r) v q h = by (in_type (Some t) w) refl h
  where
    by : (b : Bool) → in_type (Some t) w ≡ b → (if b then gives w else goes_wrong) r ≡ goes v q → Checked t (goes w r) v q
    by true e h = let f : w ≡ v = cc h in record { fits = subst (λ v. fits_of t v ≡ true) f e; is = h }
    by false e h = absurd (cc h)
check t (stops e r) v q h = absurd (cc h)
check t (spent r) v q h = absurd (cc h)
check t wrong v q h = absurd (cc h)

checked : (ty : Option ValueType) (t : ValueType) (o : Run JsValue) (v : JsValue) (q : Place) → ty ≡ Some t → after o (λ v. if in_type ty v then gives v else goes_wrong) ≡ goes v q → Checked t o v q
checked ty t o v q e h = check t o v q (ap (λ ty. after o (λ v. if in_type ty v then gives v else goes_wrong)) (sym e) ∙ h)

after_goes : {A B : Type 0} → (o : Run A) (go : A → Part B) (b : B) (q : Place) → after o go ≡ goes b q → (a : A) × (r : Place) × (o ≡ goes a r) × (go a r ≡ goes b q)
after_goes (goes a r) go b q h = (a, r, refl, h)
after_goes (stops e r) go b q h = absurd (cc h)
after_goes (spent r) go b q h = absurd (cc h)
after_goes wrong go b q h = absurd (cc h)

defined_goes : {A : Type 0} → (o : Option A) (p : Place) (a : A) (q : Place) → defined o p ≡ goes a q → o ≡ Some a
defined_goes None p a q h = absurd (cc h)
defined_goes (Some b) p a q h = ap Some (same b p a q h)
  where
    same : {A : Type 0} → (b : A) (p : Place) (a : A) (q : Place) → goes b p ≡ goes a q → b ≡ a
    same b p a q h = cc h

same_value : (z : ℤ) (b : Bool) (w : JsValue) (p q : Place) → (if b then gives (Whole z) else goes_wrong) p ≡ goes w q → w ≡ Whole z
same_value z true w p q h = cc h
same_value z false w p q h = absurd (cc h)

module _ (calls : Calls) (c : Scope) where
  abbrev does : Expr → Part JsValue
  does e = eval true calls c e

  pub literal_is : (z : ℤ) (w : JsValue) (p q : Place) → eval true calls c (lit z) p ≡ goes w q → w ≡ Whole z
  literal_is z w p q h = same_value z (in_type (type_of c (lit z)) (Whole z)) w p q h

  masks : (op : JsOp) (r : Expr) (o : Run JsValue) (v : JsValue) (q : Place) → after o (λ x. λ p. after (eval true calls c r p) (λ y. defined (js_binary_of op x y))) ≡ goes v q → Masks op r v
  masks And (lit z) o v q h =
      let a = after_goes o _ v q h in
      let b = after_goes (eval true calls c (lit z) a.1) (λ y. defined (js_binary_of And a.0 y)) v q a.3 in
      (a.0, subst (λ w. js_binary_of And a.0 w ≡ Some v) (literal_is z b.0 a.1 b.1 b.2) (defined_goes (js_binary_of And a.0 b.0) b.1 v q b.3))
  masks op r o v q h = tt

  pub valued : (e : Expr) (t : ValueType) (v : JsValue) (p q : Place) → type_of c e ≡ Some t → eval true calls c e p ≡ goes v q → Valued t e v
  valued (lit z) t v p q e h = ((checked (type_of c (lit z)) t (gives (Whole z) p) v q e h).fits, literal_is z v p q h)
  valued (decimal bs) t v p q e h = absurd (cc e)
  valued (var n) t v p q e h = ((checked (type_of c (var n)) t (read n p) v q e h).fits, tt)
  valued (index n i) t v p q e h = ((checked (type_of c (index n i)) t (and_then (does i) (λ x. read_element (named c n) x) p) v q e h).fits, tt)
  valued (call n es) t v p q e h = ((checked (type_of c (call n es)) t (and_then (eval_all true calls c es) (λ vs. call_named calls (named c n) vs) p) v q e h).fits, tt)
  valued (table_call n i es) t v p q e h = absurd (cc e)
  valued (assign n x) t v p q e h = ((checked (type_of c (assign n x)) t (and_then (does x) (λ v. write n v) p) v q e h).fits, tt)
  valued (store n i x) t v p q e h = ((checked (type_of c (store n i x)) t (and_then (does i) (λ y. and_then (does x) (λ v. write_element (named c n) y v)) p) v q e h).fits, tt)
  valued (unary op x) t v p q e h = ((checked (type_of c (unary op x)) t (and_then (does x) (λ v. defined (js_unary_of op v)) p) v q e h).fits, tt)
  valued (binary op l r) t v p q e h =
      let k = checked (type_of c (binary op l r)) t (and_then (does l) (λ v. and_then (does r) (λ w. defined (js_binary_of op v w))) p) v q e h in (k.fits, masks op r (eval true calls c l p) v q k.is)
  valued (chain x ls) t v p q e h = ((checked (type_of c (chain x ls)) t (and_then (does x) (λ v. eval_links true calls c ls v) p) v q e h).fits, tt)
  valued (cond x a b) t v p q e h = ((checked (type_of c (cond x a b)) t (and_then (does x) (λ v. if truthy_of v then does a else does b) p) v q e h).fits, tt)
  valued (comma es) t v p q e h = ((checked (type_of c (comma es)) t (eval_last true calls c es p) v q e h).fits, tt)
