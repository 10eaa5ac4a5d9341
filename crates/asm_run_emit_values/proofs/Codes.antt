-- The code of each form of expression, by the parts that an emitter makes.
use Rattle.std.proofs.Common.{◌≡◌, ℕ, suc, Bool, true, false, List, ◌∷◌, length, Option, Some, None, Result, OnOk, refl, sym, ap, subst}
use Rattle.std.specs.Prelude.{if◌then◌else◌, ◌||◌, ℤ}
use Rattle.sem_words.specs.declared.js_value.JsOp.{JsOp}
use Rattle.sem_words.specs.declared.js_value.JsUnary.{JsUnary}
use Rattle.sem_words.specs.Words.{word_of}
use Rattle.heap_lang.specs.declared.kind.ViewKind.{ViewKind}
use Rattle.asm_lang.specs.Modules.{Expr, lit, decimal, var, index, call, table_call, assign, store, unary, binary, chain, cond, comma, Exprs, Links}
use Rattle.asm_lang_valid.specs.declared.meaning.Builtin.TheVariants.{Imul, Clz32}
use Rattle.asm_lang_valid.specs.Scope.{Meaning, nothing, an_int, an_outside, a_foreign, a_builtin, a_view, a_function, a_table, a_parameter}
use Rattle.asm_lang_valid.specs.Typing.{Scope, named, or_zero, exprs_length}
use Rattle.asm2wasm_translation.specs.Values.{is_unsigned}
use Rattle.asm_run_code.specs.declared.op.Op.{Op}
use Rattle.asm_run_code.specs.declared.op.Op.TheVariants.{Number, ReadElement, Go, Unless, CallEntry}
use Rattle.asm_run_code.specs.declared.op.Operator.{Operator}
use Rattle.asm_run_code.specs.Operators.{operator_of}
use Rattle.asm_run_code.specs.Names.{local_slot, global_slot, view_kind, table_number, local, Seat, a_number, a_local, elsewhere, seat}
use Rattle.asm_run_code.specs.Values.{Before, into, copied, seated, combined, fetched, assigned, stored, prefixed, stays_by, stays, sum_slot, linked, chained, called, value, arguments, product, zeros, sums, last}
use Rattle.asm_run_names.specs.Callees.{callee_of}
use Rattle.asm_run_emit_values.specs.Pieces.{out_of_place, called_as, needed, is_elsewhere, applied, is_far, index_place, written, assigned_slot, assignment}

-- what the last call gave leads on to what is told
pub told : {E : Type 0} (r : Result (Unit {0}) E) (b x y : List Op) → x ≡ y → OnOk r (b ≡ x) → OnOk r (b ≡ y)
told r b x y e h = subst (λ z. OnOk r (b ≡ z)) e h

-- ---- operands

pub seated_is : (p : Option ℕ) (d : ℕ) (code : Before) (op : ℕ → Op) (o : List Op) → seated p d code op o ≡ out_of_place p code (op (into p d) ∷ o)
seated_is None d code op o = refl
seated_is (Some a) d code op o = refl

pub combined_is : (s : Seat) (p : Option ℕ) (op : Operator) (to d : ℕ) (first second : Before) (o : List Op) →
    combined s p op to d first second o ≡ out_of_place (stays_by s p) first (needed (is_elsewhere s) second (applied s op to (into (stays_by s p) d) d ∷ o))
combined_is (a_number n) None op to d first second o = refl
combined_is (a_number n) (Some a) op to d first second o = refl
combined_is (a_local y) None op to d first second o = refl
combined_is (a_local y) (Some a) op to d first second o = refl
combined_is elsewhere p op to d first second o = refl

pub linked_is : (s : Seat) (op : Operator) (to a d : ℕ) (code : Before) (o : List Op) → linked s op to a d code o ≡ needed (is_elsewhere s) code (applied s op to a d ∷ o)
linked_is (a_number n) op to a d code o = refl
linked_is (a_local y) op to a d code o = refl
linked_is elsewhere op to a d code o = refl

stored_is : (s : Seat) (p : Option ℕ) (kind : ViewKind) (w : Option ℕ) (d : ℕ) (first second : Before) (o : List Op) →
    stored s p kind w d first second o ≡ out_of_place (index_place s p) first (needed (is_far s) second (written s p kind w d o))
stored_is (a_number n) p kind w d first second o = refl
stored_is (a_local y) None kind w d first second o = refl
stored_is (a_local y) (Some a) kind w d first second o = refl
stored_is elsewhere p kind w d first second o = refl

assigned_is : (p : Option ℕ) (g : ℕ) (w : Option ℕ) (d : ℕ) (code : ℕ → Before) (o : List Op) → assigned p g w d code o ≡ code (assigned_slot p w d) (assignment p g w d o)
assigned_is (Some y) g w d code o = refl
assigned_is None g w d code o = refl

-- ---- forms

module _ (c : Scope) (w : Option ℕ) (d : ℕ) (o : List Op) where
  pub lit_form : (z : ℤ) → value c w d (lit z) o ≡ Number (into w d) (word_of 32 z) ∷ o
  unfolding value
  lit_form z = refl

  pub decimal_form : (bs : List ℕ) → value c w d (decimal bs) o ≡ o
  unfolding value
  decimal_form bs = refl

  pub var_form : (n : List ℕ) → value c w d (var n) o ≡ fetched (local_slot c n) (global_slot c n) (into w d) ∷ o
  unfolding value
  var_form n = refl

  pub index_form : (n : List ℕ) (i : Expr) → value c w d (index n i) o ≡ seated (local c i) d (λ more. value c (Some d) d i more) (λ a. ReadElement (view_kind (named c n)) (into w d) a) o
  unfolding value
  index_form n i = refl

  abbrev called_by : Meaning → List ℕ → Exprs → List Op
  called_by m n es = called c m n (exprs_length es) w d (λ more. arguments c d es more) (λ more. product c (into w d) d es more) (λ more. zeros c (into w d) d es more) o

  called_is : (m : Meaning) (n : List ℕ) (es : Exprs) → called_by m n es ≡ called_as c (callee_of c.home n m) es w d o
  called_is nothing n es = refl
  called_is an_int n es = refl
  called_is an_outside n es = refl
  called_is (a_foreign p) n es = refl
  called_is (a_builtin Imul) n es = refl
  called_is (a_builtin Clz32) n es = refl
  called_is (a_view v) n es = refl
  called_is (a_function f) n es = refl
  called_is (a_table t) n es = refl
  called_is a_parameter n es = refl

  pub call_form : (n : List ℕ) (es : Exprs) → value c w d (call n es) o ≡ called_as c (callee_of c.home n (named c n)) es w d o
  unfolding value
  call_form n es = called_is (named c n) n es

  pub table_call_form : (n : List ℕ) (i : Expr) (es : Exprs) → value c w d (table_call n i es) o ≡ value c (Some d) d i (arguments c (suc d) es (CallEntry (table_number c.home n) d (suc d) ∷ copied w (suc d) o))
  unfolding value
  table_call_form n i es = refl

  pub assign_form : (n : List ℕ) (e : Expr) → value c w d (assign n e) o ≡ value c (Some (assigned_slot (local_slot c n) w d)) d e (assignment (local_slot c n) (global_slot c n) w d o)
  unfolding value
  assign_form n e = assigned_is (local_slot c n) (global_slot c n) w d (λ to more. value c (Some to) d e more) o

  pub store_form : (n : List ℕ) (i e : Expr) → value c w d (store n i e) o ≡ out_of_place (index_place (seat c e) (local c i)) (λ more. value c (Some d) d i more) (needed (is_far (seat c e)) (λ more. value c (Some (suc d)) (suc d) e more) (written (seat c e) (local c i) (view_kind (named c n)) w d o))
  unfolding value
  store_form n i e = stored_is (seat c e) (local c i) (view_kind (named c n)) w d (λ more. value c (Some d) d i more) (λ more. value c (Some (suc d)) (suc d) e more) o

  pub unary_form : (op : JsUnary) (e : Expr) → value c w d (unary op e) o ≡ seated (local c e) d (λ more. value c (Some d) d e more) (λ a. prefixed op (into w d) a) o
  unfolding value
  unary_form op e = refl

  -- two operands, of which the second isn't that of `|0`
  abbrev pub both : Operator → (to : ℕ) → Expr → Expr → List Op
  both op to l r = combined (seat c r) (local c l) op to d (λ more. value c (Some d) d l more) (λ more. value c (Some (suc d)) (suc d) r more) o

  pub bare : (op : JsOp) (l r : Expr) → true ≡ or_zero op r → value c w d (binary op l r) o ≡ value c w d l o
  unfolding value
  bare op l r h = ap (λ (b : Bool). if b then value c w d l o else both (operator_of op (is_unsigned l || is_unsigned r)) (into w d) l r) (sym h)

  pub binary_form : (op : JsOp) (l r : Expr) → false ≡ or_zero op r → value c w d (binary op l r) o ≡ both (operator_of op (is_unsigned l || is_unsigned r)) (into w d) l r
  unfolding value
  binary_form op l r h = ap (λ (b : Bool). if b then value c w d l o else both (operator_of op (is_unsigned l || is_unsigned r)) (into w d) l r) (sym h)

  abbrev chain_by : Option ℕ → Expr → Links → List Op
  chain_by p e ls = chained p (sum_slot w d ls) d (λ to more. value c (Some to) d e more) (λ a more. sums c w a d ls more) o

  pub chain_stays : (e : Expr) (ls : Links) (a : ℕ) → Some a ≡ stays c (local c e) ls → value c w d (chain e ls) o ≡ sums c w a d ls o
  unfolding value
  chain_stays e ls a h = ap (λ p. chain_by p e ls) (sym h)

  pub chain_moves : (e : Expr) (ls : Links) → None ≡ stays c (local c e) ls → value c w d (chain e ls) o ≡ value c (Some (sum_slot w d ls)) d e (sums c w d d ls o)
  unfolding value
  chain_moves e ls h = ap (λ p. chain_by p e ls) (sym h)

  pub cond_form : (e a b : Expr) → value c w d (cond e a b) o ≡ seated (local c e) d (λ more. value c (Some d) d e more) (λ s. Unless s (length (value c w d b o))) (value c w d a (Go (length o) ∷ value c w d b o))
  unfolding value
  cond_form e a b = refl

  pub comma_form : (es : Exprs) → value c w d (comma es) o ≡ last c w d es o
  unfolding value
  comma_form es = refl
