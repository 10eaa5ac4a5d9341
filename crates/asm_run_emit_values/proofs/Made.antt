-- What an emitter made is the code of its form.
use Rattle.std.proofs.Common.{◌≡◌, ℕ, suc, ◌≤◌, Bool, true, false, List, ◌∷◌, length, get_or, Option, Some, None, Result, OnOk, sym, ap, ◌∙◌}
use Rattle.std.specs.Prelude.{◌||◌, slice_get}
use Rattle.sem_words.specs.declared.js_value.JsOp.{JsOp}
use Rattle.sem_words.specs.declared.js_value.JsUnary.{JsUnary}
use Rattle.heap_lang.specs.declared.kind.ViewKind.{ViewKind}
use Rattle.asm_lang.specs.Modules.{Expr, index, call, table_call, assign, store, unary, binary, chain, cond, Exprs, Links}
use Rattle.asm_tree.specs.declared.tree.Expr.{Expr as CodeExpr}
use Rattle.asm_tree.specs.Views.{expr_view, exprs_view}
use Rattle.asm_lang_valid.specs.Typing.{Scope, named, or_zero}
use Rattle.asm2wasm_translation.specs.Values.{is_unsigned}
use Rattle.asm_run_code.specs.declared.op.Op.{Op}
use Rattle.asm_run_code.specs.declared.op.Op.TheVariants.{Zeros, ReadElement, WriteElement, Go, CallEntry}
use Rattle.asm_run_code.specs.declared.op.Operator.{Operator}
use Rattle.asm_run_code.specs.declared.op.Operator.TheVariants.{Mul}
use Rattle.asm_run_code.specs.Operators.{operator_of}
use Rattle.asm_run_code.specs.Names.{local_slot, global_slot, view_kind, table_number, local, Seat, seat}
use Rattle.asm_run_code.specs.Values.{Before, into, copied, seated, combined, linked, prefixed, stays_by, stays, sum_slot, tested, value, arguments, product, zeros, sums}
use Rattle.asm_run_names.specs.declared.callee.Callee.{Callee}
use Rattle.asm_run_names.specs.Callees.{callee_of}
use Rattle.asm_run_emit_values.specs.Pieces.{out_of_place, called_as, needed, is_elsewhere, applied, is_far, index_place, value_slot, written, assigned_slot, assignment}
use Rattle.asm_run_emit_values.proofs.Codes.{told, seated_is, combined_is, linked_is, index_form, call_form, table_call_form, assign_form, store_form, unary_form, both, bare, binary_form, chain_stays, chain_moves, cond_form}
use Rattle.asm_run_emit_values.proofs.Parts.{product_form, zeros_form}

module _ {E : Type 0} (r : Result (Unit {0}) E) (b : List Op) where
  -- ---- an operand before an operation

  -- the slot of the operand is the one where it stands, or the first free one
  pub placed : (p q : Option ℕ) (a d : ℕ) (code : Before) (op : ℕ → Op) (o₁ o : List Op) → p ≡ q → a ≡ into p d → o₁ ≡ op a ∷ o → OnOk r (b ≡ out_of_place p code o₁) → OnOk r (b ≡ out_of_place q code (op (into q d) ∷ o))
  placed p q a d code op o₁ o hp ha ho h =
      told r b (out_of_place p code o₁) (out_of_place q code (op (into q d) ∷ o))
      (ap (out_of_place p code) ho ∙ ap (λ a. out_of_place p code (op a ∷ o)) ha ∙ ap (λ p. out_of_place p code (op (into p d) ∷ o)) hp)
      h

  -- ---- two operands

  pub combined_made : (s t : Seat) (q : Option ℕ) (op : Operator) (to d : ℕ) (first second : Before) (o : List Op) (p : Option ℕ) (a : ℕ) (n : Bool) (o₁ o₂ : List Op) →
      t ≡ s → p ≡ stays_by t q → a ≡ into p d → o₁ ≡ applied t op to a d ∷ o → n ≡ is_elsewhere t → o₂ ≡ needed n second o₁ → OnOk r (b ≡ out_of_place p first o₂) → OnOk r (b ≡ combined s q op to d first second o)
  combined_made s t q op to d first second o p a n o₁ o₂ hs hp ha h₁ hn h₂ h =
      told r b (out_of_place p first o₂) (combined s q op to d first second o)
      (ap (out_of_place p first)
      (h₂ ∙ ap (needed n second) h₁ ∙ ap (λ n. needed n second (applied t op to a d ∷ o)) hn ∙ ap (λ a. needed (is_elsewhere t) second (applied t op to a d ∷ o)) ha)
      ∙ ap (λ p. out_of_place p first (needed (is_elsewhere t) second (applied t op to (into p d) d ∷ o))) hp
      ∙ sym (combined_is t q op to d first second o) ∙ ap (λ s. combined s q op to d first second o) hs)
      h

  pub linked_made : (s t : Seat) (op f : Operator) (to a d : ℕ) (code : Before) (o : List Op) (n : Bool) (o₁ : List Op) →
      t ≡ s → f ≡ op → o₁ ≡ applied t f to a d ∷ o → n ≡ is_elsewhere t → OnOk r (b ≡ needed n code o₁) → OnOk r (b ≡ linked s op to a d code o)
  linked_made s t op f to a d code o n o₁ hs hf h₁ hn h =
      told r b (needed n code o₁) (linked s op to a d code o)
      (ap (needed n code) h₁ ∙ ap (λ n. needed n code (applied t f to a d ∷ o)) hn ∙ sym (linked_is t f to a d code o)
      ∙ ap (λ s. linked s f to a d code o) hs ∙ ap (λ f. linked s f to a d code o) hf)
      h

  -- ---- forms

  module _ (c : Scope) (w : Option ℕ) (d : ℕ) (o : List Op) where
    pub single_made : (e : Expr) (op : ℕ → Op) (p : Option ℕ) (a : ℕ) (o₁ : List Op) → p ≡ local c e → a ≡ into p d → o₁ ≡ op a ∷ o →
        OnOk r (b ≡ out_of_place p (λ more. value c (Some d) d e more) o₁) → OnOk r (b ≡ seated (local c e) d (λ more. value c (Some d) d e more) op o)
    single_made e op p a o₁ hp ha ho h =
        told r b (out_of_place (local c e) (λ more. value c (Some d) d e more) (op (into (local c e) d) ∷ o)) (seated (local c e) d (λ more. value c (Some d) d e more) op o)
        (sym (seated_is (local c e) d (λ more. value c (Some d) d e more) op o))
        (placed p (local c e) a d (λ more. value c (Some d) d e more) op o₁ o hp ha ho h)

    pub index_made : (n : List ℕ) (i : Expr) (kind : ViewKind) (t : ℕ) → kind ≡ view_kind (named c n) → t ≡ into w d →
        OnOk r (b ≡ seated (local c i) d (λ more. value c (Some d) d i more) (λ a. ReadElement kind t a) o) → OnOk r (b ≡ value c w d (index n i) o)
    index_made n i kind t hk ht h =
        told r b (seated (local c i) d (λ more. value c (Some d) d i more) (λ a. ReadElement kind t a) o) (value c w d (index n i) o)
        (ap (λ k. seated (local c i) d (λ more. value c (Some d) d i more) (λ a. ReadElement k t a) o) hk
        ∙ ap (λ t. seated (local c i) d (λ more. value c (Some d) d i more) (λ a. ReadElement (view_kind (named c n)) t a) o) ht
        ∙ sym (index_form c w d o n i))
        h

    pub unary_made : (op : JsUnary) (e : Expr) (t : ℕ) → t ≡ into w d → OnOk r (b ≡ seated (local c e) d (λ more. value c (Some d) d e more) (λ a. prefixed op t a) o) → OnOk r (b ≡ value c w d (unary op e) o)
    unary_made op e t ht h =
        told r b (seated (local c e) d (λ more. value c (Some d) d e more) (λ a. prefixed op t a) o) (value c w d (unary op e) o)
        (ap (λ t. seated (local c e) d (λ more. value c (Some d) d e more) (λ a. prefixed op t a) o) ht ∙ sym (unary_form c w d o op e))
        h

    pub table_call_made : (n : List ℕ) (i : Expr) (es : Exprs) (e : ℕ) (o₁ o₂ : List Op) → e ≡ suc d → o₁ ≡ CallEntry (table_number c.home n) d (suc d) ∷ copied w (suc d) o → o₂ ≡ arguments c e es o₁ →
        OnOk r (b ≡ value c (Some d) d i o₂) → OnOk r (b ≡ value c w d (table_call n i es) o)
    table_call_made n i es e o₁ o₂ he h₁ h₂ h =
        told r b (value c (Some d) d i o₂) (value c w d (table_call n i es) o)
        (ap (value c (Some d) d i) (h₂ ∙ ap (arguments c e es) h₁ ∙ ap (λ e. arguments c e es (CallEntry (table_number c.home n) d (suc d) ∷ copied w (suc d) o)) he)
        ∙ sym (table_call_form c w d o n i es))
        h

    pub assign_made : (n : List ℕ) (e : Expr) (t : ℕ) (o₁ : List Op) → t ≡ assigned_slot (local_slot c n) w d → o₁ ≡ assignment (local_slot c n) (global_slot c n) w d o → OnOk r (b ≡ value c (Some t) d e o₁) → OnOk r (b ≡ value c w d (assign n e) o)
    assign_made n e t o₁ ht h₁ h =
        told r b (value c (Some t) d e o₁) (value c w d (assign n e) o)
        (ap (value c (Some t) d e) h₁ ∙ ap (λ t. value c (Some t) d e (assignment (local_slot c n) (global_slot c n) w d o)) ht ∙ sym (assign_form c w d o n e))
        h

    pub store_made : (n : List ℕ) (i e : Expr) (s : Seat) (p : Option ℕ) (far : Bool) (o₁ o₂ : List Op) → s ≡ seat c e → p ≡ index_place s (local c i) → o₁ ≡ written s (local c i) (view_kind (named c n)) w d o → far ≡ is_far s →
        o₂ ≡ needed far (λ more. value c (Some (suc d)) (suc d) e more) o₁ → OnOk r (b ≡ out_of_place p (λ more. value c (Some d) d i more) o₂) → OnOk r (b ≡ value c w d (store n i e) o)
    store_made n i e s p far o₁ o₂ hs hp h₁ hf h₂ h =
        let first : Before = λ more. value c (Some d) d i more in
        let second : Before = λ more. value c (Some (suc d)) (suc d) e more in
        told r b (out_of_place p first o₂) (value c w d (store n i e) o)
        (ap (out_of_place p first) (h₂ ∙ ap (needed far second) h₁ ∙ ap (λ k. needed k second (written s (local c i) (view_kind (named c n)) w d o)) hf)
        ∙ ap (λ p. out_of_place p first (needed (is_far s) second (written s (local c i) (view_kind (named c n)) w d o))) hp
        ∙ ap (λ s. out_of_place (index_place s (local c i)) first (needed (is_far s) second (written s (local c i) (view_kind (named c n)) w d o))) hs
        ∙ sym (store_form c w d o n i e))
        h

    pub stays_made : (e : Expr) (ls : Links) (a : ℕ) → Some a ≡ stays c (local c e) ls → OnOk r (b ≡ sums c w a d ls o) → OnOk r (b ≡ value c w d (chain e ls) o)
    stays_made e ls a hs h = told r b (sums c w a d ls o) (value c w d (chain e ls) o) (sym (chain_stays c w d o e ls a hs)) h

    pub moves_made : (e : Expr) (ls : Links) (t : ℕ) (o₁ : List Op) → None ≡ stays c (local c e) ls → o₁ ≡ sums c w d d ls o → t ≡ sum_slot w d ls → OnOk r (b ≡ value c (Some t) d e o₁) → OnOk r (b ≡ value c w d (chain e ls) o)
    moves_made e ls t o₁ hs h₁ ht h =
        told r b (value c (Some t) d e o₁) (value c w d (chain e ls) o)
        (ap (value c (Some t) d e) h₁ ∙ ap (λ t. value c (Some t) d e (sums c w d d ls o)) ht ∙ sym (chain_moves c w d o e ls hs)) h

    pub cond_made : (e x y : Expr) (past at : ℕ) (o₁ o₂ o₃ : List Op) → past ≡ length o → o₁ ≡ value c w d y o → at ≡ length o₁ → o₂ ≡ Go past ∷ o₁ → o₃ ≡ value c w d x o₂ →
        OnOk r (b ≡ tested (local c e) d (λ more. value c (Some d) d e more) at o₃) → OnOk r (b ≡ value c w d (cond e x y) o)
    cond_made e x y past at o₁ o₂ o₃ hp h₁ ha h₂ h₃ h =
        told r b (tested (local c e) d (λ more. value c (Some d) d e more) at o₃) (value c w d (cond e x y) o)
        (ap (tested (local c e) d (λ more. value c (Some d) d e more) at) (h₃ ∙ ap (value c w d x) (h₂ ∙ ap (λ p. Go p ∷ o₁) hp))
        ∙ ap (λ at. tested (local c e) d (λ more. value c (Some d) d e more) at (value c w d x (Go (length o) ∷ o₁))) ha
        ∙ ap (λ l. tested (local c e) d (λ more. value c (Some d) d e more) (length l) (value c w d x (Go (length o) ∷ l))) h₁
        ∙ sym (cond_form c w d o e x y))
        h

  -- ---- calls, products and zeros, and the operator `|0`

  module _ (c : Scope) (w : Option ℕ) (d : ℕ) (o : List Op) where
    pub as_form : (e x : Expr) → e ≡ x → OnOk r (b ≡ value c w d x o) → OnOk r (b ≡ value c w d e o)
    as_form e x is h = told r b (value c w d x o) (value c w d e o) (ap (λ (e : Expr). value c w d e o) (sym is)) h

    pub call_made : (n : List ℕ) (es : Exprs) → OnOk r (b ≡ called_as c (callee_of c.home n (named c n)) es w d o) → OnOk r (b ≡ value c w d (call n es) o)
    call_made n es h = told r b (called_as c (callee_of c.home n (named c n)) es w d o) (value c w d (call n es) o) (sym (call_form c w d o n es)) h

    pub call_of : (k x : Callee) (es : Exprs) → k ≡ x → OnOk r (b ≡ called_as c k es w d o) → OnOk r (b ≡ called_as c x es w d o)
    call_of k x es is h = told r b (called_as c k es w d o) (called_as c x es w d o) (ap (λ (k : Callee). called_as c k es w d o) is) h

    pub entered : (es : Exprs) (o₁ o₂ : List Op) → o₁ ≡ o₂ → OnOk r (b ≡ arguments c d es o₁) → OnOk r (b ≡ arguments c d es o₂)
    entered es o₁ o₂ is h = told r b (arguments c d es o₁) (arguments c d es o₂) (ap (arguments c d es) is) h

    pub bare_made : (op : JsOp) (l x : Expr) → true ≡ or_zero op x → OnOk r (b ≡ value c w d l o) → OnOk r (b ≡ value c w d (binary op l x) o)
    bare_made op l x hz h = told r b (value c w d l o) (value c w d (binary op l x) o) (sym (bare c w d o op l x hz)) h

    pub binary_made : (op : JsOp) (l x : Expr) (f : Operator) (t : ℕ) → false ≡ or_zero op x → f ≡ operator_of op (is_unsigned l || is_unsigned x) → t ≡ into w d → OnOk r (b ≡ both c w d o f t l x) → OnOk r (b ≡ value c w d (binary op l x) o)
    binary_made op l x f t hz hf ht h =
        told r b (both c w d o f t l x) (value c w d (binary op l x) o)
        (ap (λ f. both c w d o f t l x) hf ∙ ap (λ t. both c w d o (operator_of op (is_unsigned l || is_unsigned x)) t l x) ht ∙ sym (binary_form c w d o op l x hz))
        h

    pub product_made : (to : ℕ) (es : List CodeExpr) (l x : CodeExpr) → 2 ≤ length es → l ≡ get_or es 0 l → x ≡ get_or es 1 x → OnOk r (b ≡ both c w d o Mul to (expr_view l) (expr_view x)) → OnOk r (b ≡ product c to d (exprs_view es) o)
    product_made to es l x k hl hx h = told r b (both c w d o Mul to (expr_view l) (expr_view x)) (product c to d (exprs_view es) o) (sym (product_form c o to d es l x k hl hx)) h

    pub zeros_made : (to : ℕ) (es : List CodeExpr) (e : CodeExpr) → Some e ≡ slice_get es 0 →
        OnOk r (b ≡ seated (local c (expr_view e)) d (λ more. value c (Some d) d (expr_view e) more) (λ a. Zeros to a) o) → OnOk r (b ≡ zeros c to d (exprs_view es) o)
    zeros_made to es e is h =
        told r b (seated (local c (expr_view e)) d (λ more. value c (Some d) d (expr_view e) more) (λ a. Zeros to a) o) (zeros c to d (exprs_view es) o) (sym (zeros_form c o to d es e is)) h

-- ---- the write of a store

pub write_made : (s : Seat) (q : Option ℕ) (kind k : ViewKind) (w : Option ℕ) (d : ℕ) (o : List Op) (p : Option ℕ) (f a : ℕ) (o₁ : List Op) → k ≡ kind → p ≡ index_place s q → f ≡ value_slot s d → o₁ ≡ copied w f o → a ≡ into p d →
    WriteElement k a f ∷ o₁ ≡ written s q kind w d o
write_made s q kind k w d o p f a o₁ hk hp hf h₁ ha =
    ap (λ l. WriteElement k a f ∷ l) h₁ ∙ ap (λ k. WriteElement k a f ∷ copied w f o) hk ∙ ap (λ f. WriteElement kind a f ∷ copied w f o) hf
    ∙ ap (λ a. WriteElement kind a (value_slot s d) ∷ copied w (value_slot s d) o) (ha ∙ ap (λ p. into p d) hp)
