-- There is no row of types exactly where there is a type.
use Rattle.std.proofs.Common.{◌≡◌, ℕ, ◌+◌, Bool, true, false, not, ◌&&◌, ◌||◌, List, [], ◌∷◌, ◌++◌, Option, Some, None, option_and_then, is_some, refl, sym, ap, ◌∙◌}
use Rattle.std.proofs.lemmas.Bool.{and_parts}
use Rattle.std.specs.Prelude.{◌↔◌, length, IsTrue, ◌==◌, nat_le, if◌then◌else◌}
use Rattle.sem_words.specs.declared.js_value.JsOp.{JsOp}
use Rattle.sem_words.specs.declared.js_value.JsOp.TheVariants.{Mul}
use Rattle.asm_types.specs.declared.value_type.ValueType.{ValueType}
use Rattle.asm_types.specs.declared.value_type.ValueType.TheVariants.{Signed, Int, Intish, Extern}
use Rattle.asm_types.specs.Types.{is_below}
use Rattle.asm_types.specs.Rows.{row, unary_row_of}
use Rattle.asm_lang.specs.Modules.{Expr, lit, decimal, var, index, call, table_call, assign, store, unary, binary, chain, cond, comma, Exprs, no_exprs, exprs, Links, no_links, links, Stmt, block, plain, empty, if_only, if_else, returns, while_loop, do_while, for_loop, breaks, continues, labelled, switches, Stmts, no_stmts, stmts, Clauses, no_clauses, clauses, Variable, Function, Table, Module}
use Rattle.asm_lang_valid.specs.declared.rule.Rule.{Rule}
use Rattle.asm_lang_valid.specs.declared.rule.Rule.TheVariants.{LiteralRange, OutsideInteger, Operand, CallShape, TableSize, TableMask, ReturnKind, Label, SwitchCases}
use Rattle.asm_lang_valid.specs.Scope.{shift_of, Meaning, nothing, an_int, an_outside, a_foreign, a_builtin, a_view, a_function, a_table, a_parameter, signature_of, first_member}
use Rattle.asm_lang_valid.specs.Rows.{Met, need, first, expr_count, stmt_count, option_count, stmts_count, body_at, function_count, functions_at, tables_at}
use Rattle.asm_lang_valid.specs.Typing.{Scope, named, is_factor, most_operators, links_length, typed_below, is_int, index_form, index_fits, operated, exprs_length, is_call, or_zero, builtin_arguments, builtin_type, builtin_call, matches, callee_fits, table_fits, mask_fits, type_of, all_below, links_fit, call_fits, last_type, effect_fits, Around, in_a_loop, in_a_switch, under_labels, new_labels, break_fits, continue_fits, cases_fit, result_of, return_fits, condition_fits, part_fits, typed, all_typed, clauses_typed, at_top}
use Rattle.asm_lang_valid.specs.Typed.{scope_of, literal_fits, member_fits, globals_typed, locals_typed, function_typed, functions_typed, table_typed, tables_typed, module_typed}
use Rattle.asm_lang_valid.specs.TypeRows.{agrees, is_outside, element_rows, expr_rows, exprs_rows, links_rows, comma_rows, call_rows, effect_rows, part_rows, condition_rows, option_rows, stmt_rows, stmts_rows, clauses_rows, globals_rows, locals_rows, function_rows, functions_rows, tables_rows, type_rows}

abbrev pub is_nil : List Met → Bool
is_nil [] = true
is_nil (x ∷ xs) = false

nil_append : (xs ys : List Met) → is_nil (xs ++ ys) ≡ (is_nil xs && is_nil ys)
nil_append [] ys = refl
nil_append (x ∷ xs) ys = refl

-- these rows are none exactly where b holds
pub record AreNone (xs : List Met) (b : Bool) : Type 0 where
  pub same : is_nil xs ≡ b

joined : (xs ys : List Met) (a b : Bool) → is_nil xs ≡ a → is_nil ys ≡ b → is_nil (xs ++ ys) ≡ (a && b)
joined xs ys a b h k = nil_append xs ys ∙ ap (λ c. c && is_nil ys) h ∙ ap (λ c. a && c) k

joins : {xs ys : List Met} {a b : Bool} → AreNone xs a → AreNone ys b → AreNone (xs ++ ys) (a && b)
joins h k = record { same = joined _ _ _ _ h.same k.same }

agreed : {xs : List Met} {a b : Bool} → AreNone xs a → a ≡ b → AreNone xs b
agreed h e = record { same = h.same ∙ e }

nil_need : (b : Bool) (r : Rule) (at : ℕ) → is_nil (need b r at) ≡ b
nil_need true r at = refl
nil_need false r at = refl

needs : (b : Bool) (r : Rule) (at : ℕ) → AreNone (need b r at) b
needs b r at = record { same = nil_need b r at }

this : (xs : List Met) → AreNone xs (is_nil xs)
this xs = record { same = refl }

row_some : (b : Bool) (t : ValueType) → is_some (row b t) ≡ b
row_some true t = refl
row_some false t = refl

pair : (a b c : Bool) → (a && (b && c)) ≡ (a && b && c)
pair true b c = refl
pair false b c = refl

-- ---- expressions

var_fits : (b : Bool) (r : Rule) (at : ℕ) → is_nil (need b r at) ≡ is_some (row b Int)
var_fits true r at = refl
var_fits false r at = refl

element_fits : (m : Meaning) (i : Expr) (o : Option ValueType) (at : ℕ) → (is_some o && is_nil (element_rows m i o at)) ≡ index_fits m i o
element_fits (a_view v) i None at = refl
element_fits (a_view v) i (Some t) at = nil_need _ _ _
element_fits nothing i None at = refl
element_fits nothing i (Some t) at = refl
element_fits an_int i None at = refl
element_fits an_int i (Some t) at = refl
element_fits an_outside i None at = refl
element_fits an_outside i (Some t) at = refl
element_fits (a_foreign p) i None at = refl
element_fits (a_foreign p) i (Some t) at = refl
element_fits (a_builtin b) i None at = refl
element_fits (a_builtin b) i (Some t) at = refl
element_fits (a_function f) i None at = refl
element_fits (a_function f) i (Some t) at = refl
element_fits (a_table u) i None at = refl
element_fits (a_table u) i (Some t) at = refl
element_fits a_parameter i None at = refl
element_fits a_parameter i (Some t) at = refl

assign_fits : (b : Bool) (o : Option ValueType) → (is_some o && (b && agrees Int o)) ≡ is_some (if b && typed_below Int o then o else None)
assign_fits true None = refl
assign_fits false None = refl
assign_fits false (Some t) = refl
assign_fits true (Some t) = by (is_below t Int)
  where
    by : (b : Bool) → b ≡ is_some (if b then Some t else None)
    by true = refl
    by false = refl

-- a and f of the index and its row, o of the value
kept_fits : (a f : Bool) (o : Option ValueType) → (a && (is_some o && (agrees Intish o && f))) ≡ is_some (if (a && f) && typed_below Intish o then o else None)
kept_fits false f o = refl
kept_fits true true None = refl
kept_fits true false None = refl
kept_fits true f (Some t) = by f (is_below t Intish)
  where
    by : (f k : Bool) → (k && f) ≡ is_some (if f && k then Some t else None)
    by true true = refl
    by true false = refl
    by false true = refl
    by false false = refl

four_false : (a b c d : Bool) → (a && (b && (c && (d && false)))) ≡ false
four_false true true true true = refl
four_false true true true false = refl
four_false true true false d = refl
four_false true false c d = refl
four_false false b c d = refl

three_false : (a b c : Bool) → (a && (b && (c && false))) ≡ false
three_false true true true = refl
three_false true true false = refl
three_false true false c = refl
three_false false b c = refl

store_fits : (m : Meaning) (i : Expr) (k o : Option ValueType) (at : ℕ) → (is_some k && (is_some o && (not (is_outside m) && (agrees Intish o && is_nil (element_rows m i k at))))) ≡ is_some (if index_fits m i k && typed_below Intish o then o else None)
store_fits (a_view v) i k o at = rw nil_need (kept_fits (is_some k) (index_form (shift_of v) i k) o)
store_fits nothing i k o at = four_false (is_some k) (is_some o) true (agrees Intish o)
store_fits an_int i k o at = four_false (is_some k) (is_some o) true (agrees Intish o)
store_fits an_outside i k o at = four_false (is_some k) (is_some o) false (agrees Intish o)
store_fits (a_foreign p) i k o at = four_false (is_some k) (is_some o) true (agrees Intish o)
store_fits (a_builtin b) i k o at = four_false (is_some k) (is_some o) true (agrees Intish o)
store_fits (a_function f) i k o at = four_false (is_some k) (is_some o) true (agrees Intish o)
store_fits (a_table u) i k o at = four_false (is_some k) (is_some o) true (agrees Intish o)
store_fits a_parameter i k o at = four_false (is_some k) (is_some o) true (agrees Intish o)

-- of calls: h says that the arguments have types, i that they are ints, x that they may go out
implied : (h b c : Bool) → (h && b) ≡ b → (h && (b && c)) ≡ (b && c)
implied true b c k = refl
implied false true c k = cc
implied false false c k = refl

builtin_fits : (m : Meaning) (n : ℕ) (h i : Bool) → (h && i) ≡ i → (h && (not (is_outside m) && is_some (builtin_call m n i))) ≡ is_some (builtin_call m n i)
builtin_fits m n false false k = sym (none m)
  where
    none : (m : Meaning) → is_some (builtin_call m n false) ≡ false
    none (a_builtin b) = row_some ((n == builtin_arguments b) && false) (builtin_type b) ∙ by (n == builtin_arguments b)
      where
        by : (b : Bool) → (b && false) ≡ false
        by true = refl
        by false = refl
    none nothing = refl
    none an_int = refl
    none an_outside = refl
    none (a_foreign p) = refl
    none (a_view v) = refl
    none (a_function f) = refl
    none (a_table t) = refl
    none a_parameter = refl
builtin_fits m n false true k = cc
builtin_fits (a_builtin b) n true i k = refl
builtin_fits nothing n true i k = refl
builtin_fits an_int n true i k = refl
builtin_fits an_outside n true i k = refl
builtin_fits (a_foreign p) n true i k = refl
builtin_fits (a_view v) n true i k = refl
builtin_fits (a_function f) n true i k = refl
builtin_fits (a_table t) n true i k = refl
builtin_fits a_parameter n true i k = refl

callee_agrees : (m : Meaning) (result : Bool) (n : ℕ) (h i x : Bool) → (h && i) ≡ i → (h && x) ≡ x → (h && (not (is_outside m) && callee_fits m result n i x)) ≡ callee_fits m result n i x
callee_agrees (a_foreign p) result n h i x k l = l
callee_agrees m result n true i x k l = by m
  where
    by : (m : Meaning) → (not (is_outside m) && callee_fits m result n i x) ≡ callee_fits m result n i x
    by nothing = refl
    by an_int = refl
    by an_outside = refl
    by (a_foreign p) = refl
    by (a_builtin b) = refl
    by (a_view v) = refl
    by (a_function f) = refl
    by (a_table t) = refl
    by a_parameter = refl
callee_agrees m result n false true x k l = cc
callee_agrees m result n false i true k l = cc
callee_agrees m result n false false false k l = sym (by m)
  where
    falses : (b : Bool) → (b && false) ≡ false
    falses true = refl
    falses false = refl

    by : (m : Meaning) → callee_fits m result n false false ≡ false
    by nothing = refl
    by an_int = refl
    by an_outside = refl
    by (a_foreign p) = refl
    by (a_builtin b) = refl
    by (a_view v) = refl
    by (a_function f) = falses (matches (Some (signature_of f)) n result)
    by (a_table t) = refl
    by a_parameter = refl

-- k says that the index has a type
table_agrees : (home : Module) (m : Meaning) (result : Bool) (n : ℕ) (h i k mask : Bool) → (h && i) ≡ i → (k && (h && (not (is_outside m) && (table_fits home m result n i && mask)))) ≡ (table_fits home m result n i && (k && mask))
table_agrees home (a_table t) result n h i k mask is = by (matches (first_member home t.members) n result) h i k is
  where
    by : (s h i k : Bool) → (h && i) ≡ i → (k && (h && (true && ((s && i) && mask)))) ≡ ((s && i) && (k && mask))
    by true true i true is = refl
    by true true true false is = refl
    by true true false false is = refl
    by true false true k is = cc
    by true false false true is = refl
    by true false false false is = refl
    by false true i true is = refl
    by false true i false is = refl
    by false false i true is = refl
    by false false i false is = refl
table_agrees home nothing result n h i k mask is = three_false k h true
table_agrees home an_int result n h i k mask is = three_false k h true
table_agrees home an_outside result n h i k mask is = three_false k h false
table_agrees home (a_foreign p) result n h i k mask is = three_false k h true
table_agrees home (a_builtin b) result n h i k mask is = three_false k h true
table_agrees home (a_view v) result n h i k mask is = three_false k h true
table_agrees home (a_function f) result n h i k mask is = three_false k h true
table_agrees home a_parameter result n h i k mask is = three_false k h true

bound : {A : Type 0} (f : A → Option ValueType) (o : Option A) → (is_some o && is_some (option_and_then f o)) ≡ is_some (option_and_then f o)
bound f None = refl
bound f (Some t) = refl

operated_none : (op : JsOp) (l r : Expr) (b : Option ValueType) → is_some (operated op l r None b) ≡ false
operated_none Mul l r b = refl
operated_none op l r b = refl

falses : (b : Bool) → (b && false) ≡ false
falses true = refl
falses false = refl

operated_half : (op : JsOp) (l r : Expr) (s : ValueType) → is_some (operated op l r (Some s) None) ≡ false
operated_half Mul l r s = by (is_below s Int) (is_factor l || is_factor r)
  where
    by : (a b : Bool) → is_some (row (a && false && b) Intish) ≡ false
    by true b = refl
    by false b = refl
operated_half op l r s = refl

operated_fits : (op : JsOp) (l r : Expr) (a b : Option ValueType) → (is_some a && (is_some b && is_some (operated op l r a b))) ≡ is_some (operated op l r a b)
operated_fits op l r None b = sym (operated_none op l r b)
operated_fits op l r (Some s) None = sym (operated_half op l r s)
operated_fits op l r (Some s) (Some t) = refl

binary_at : (b : Bool) (xs ys : List Met) (f : Bool) (o : Option ValueType) → (b ≡ true → AreNone xs f) → AreNone ys (is_some o) → AreNone (if b then xs else ys) (is_some (if b then row f Signed else o))
binary_at true xs ys f o h k = agreed (h refl) (sym (row_some f Signed))
binary_at false xs ys f o h k = k

binary_fits : {xs ys : List Met} (b f : Bool) (o : Option ValueType) → (b ≡ true → AreNone xs f) → AreNone ys (is_some o) → AreNone (if b then xs else ys) (is_some (if b then row f Signed else o))
binary_fits b f o h k = binary_at b _ _ f o h k

chain_fits : (o : Option ValueType) (h l n : Bool) → (h && l) ≡ l → (is_some o && (h && ((typed_below Int o && l) && n))) ≡ is_some (row (typed_below Int o && l && n) Intish)
chain_fits None h l n k = refl
chain_fits (Some t) h l n k = by h l (is_below t Int) k ∙ sym (row_some (is_below t Int && l && n) Intish)
  where
    by : (h l b : Bool) → (h && l) ≡ l → (h && ((b && l) && n)) ≡ (b && l && n)
    by true l b k = refl
    by false true b k = cc
    by false false true k = refl
    by false false false k = refl

cond_fits : (o p q : Option ValueType) → (is_some o && (agrees Int o && (is_some p && (is_some q && (agrees Int p && agrees Int q))))) ≡ is_some (row (typed_below Int o && typed_below Int p && typed_below Int q) Int)
cond_fits None p q = refl
cond_fits (Some s) None q = by (is_below s Int) (typed_below Int q)
  where
    by : (b c : Bool) → (b && false) ≡ is_some (row (b && false && c) Int)
    by true c = refl
    by false c = refl
cond_fits (Some s) (Some t) None = by (is_below s Int) (is_below t Int)
  where
    by : (b c : Bool) → (b && false) ≡ is_some (row (b && c && false) Int)
    by true true = refl
    by true false = refl
    by false c = refl
cond_fits (Some s) (Some t) (Some u) = by (is_below s Int) (is_below t Int) (is_below u Int)
  where
    by : (b c d : Bool) → (b && (c && d)) ≡ is_some (row (b && c && d) Int)
    by true true true = refl
    by true true false = refl
    by true false d = refl
    by false c d = refl

either_at : (b : Bool) (xs ys : List Met) (f g : Bool) → (b ≡ true → AreNone xs f) → AreNone ys g → AreNone (if b then xs else ys) (if b then f else g)
either_at true xs ys f g h k = h refl
either_at false xs ys f g h k = k

either : {xs ys : List Met} {f g : Bool} (b : Bool) → (b ≡ true → AreNone xs f) → AreNone ys g → AreNone (if b then xs else ys) (if b then f else g)
either b h k = either_at b _ _ _ _ h k

then_last : (b : Bool) (o : Option ValueType) → (b && is_some o) ≡ is_some (if b then o else None)
then_last true o = refl
then_last false o = refl

abbrev have_types : Scope → Exprs → Bool
have_types c no_exprs = true
have_types c (exprs e es) = is_some (type_of c e) && have_types c es

abbrev links_have_types : Scope → Links → Bool
links_have_types c no_links = true
links_have_types c (links minus e ls) = is_some (type_of c e) && links_have_types c ls

below_more : (top : ValueType) (o : Option ValueType) (h b : Bool) → (h && b) ≡ b → ((is_some o && h) && (typed_below top o && b)) ≡ (typed_below top o && b)
below_more top None h b k = refl
below_more top (Some t) h b k = by h b (is_below t top) k
  where
    by : (h b c : Bool) → (h && b) ≡ b → (h && (c && b)) ≡ (c && b)
    by true b c k = refl
    by false true c k = cc
    by false false true k = refl
    by false false false k = refl

module _ (c : Scope) where
  below_typed : (top : ValueType) (es : Exprs) → (have_types c es && all_below c top es) ≡ all_below c top es
  below_typed top no_exprs = refl
  below_typed top (exprs e es) = below_more top (type_of c e) (have_types c es) (all_below c top es) (below_typed top es)

  links_typed : (ls : Links) → (links_have_types c ls && links_fit c ls) ≡ links_fit c ls
  links_typed no_links = refl
  links_typed (links minus e ls) = below_more Int (type_of c e) (links_have_types c ls) (links_fit c ls) (links_typed ls)

  mutual
    pub expr_agrees : (at : ℕ) (e : Expr) → AreNone (expr_rows c at e) (is_some (type_of c e))
    expr_agrees at (lit v) = (needs _ _ _)
    expr_agrees at (decimal bs) = record { same = refl }
    expr_agrees at (var n) = record { same = var_fits (is_int (named c n)) OutsideInteger at }
    expr_agrees at (index n i) = agreed (joins (expr_agrees (at + 1) i) (this _)) (element_fits (named c n) i (type_of c i) at ∙ sym (row_some _ _))
    expr_agrees at (call n es) =
        agreed (joins (exprs_agree (at + 1) es) (joins (needs _ _ _) (needs _ _ _)))
        (builtin_fits (named c n) (exprs_length es) (have_types c es) (all_below c Int es) (below_typed Int es))
    expr_agrees at (table_call n i es) =
        agreed (joins (expr_agrees (at + 1) i) (joins (exprs_agree (at + 1 + expr_count i) es) (joins (needs _ _ _) (this _))))
        (three_false (is_some (type_of c i)) (have_types c es) (not (is_outside (named c n))))
    expr_agrees at (assign n e) =
        agreed (joins (expr_agrees (at + 1) e) (joins (needs _ _ _) (needs _ _ _))) (assign_fits (is_int (named c n)) (type_of c e))
    expr_agrees at (store n i e) =
        agreed (joins (expr_agrees (at + 1) i) (joins (expr_agrees (at + 1 + expr_count i) e) (joins (needs (not (is_outside (named c n))) OutsideInteger at) (joins (needs (agrees Intish (type_of c e)) Operand at) (this _)))))
        (store_fits (named c n) i (type_of c i) (type_of c e) at)
    expr_agrees at (unary op e) = agreed (joins (expr_agrees (at + 1) e) (needs _ _ _)) (bound (λ t. unary_row_of op t) (type_of c e))
    expr_agrees at (binary op l r) =
        binary_fits (is_call c l && or_zero op r) (call_fits c true l) (operated op l r (type_of c l) (type_of c r)) (λ h. call_agrees true (at + 1) l (and_parts _ _ h).0)
        (agreed (joins (expr_agrees (at + 1) l) (joins (expr_agrees (at + 1 + expr_count l) r) (needs _ _ _))) (operated_fits op l r (type_of c l) (type_of c r)))
    expr_agrees at (chain e ls) =
        agreed (joins (expr_agrees (at + 1) e) (joins (links_agree (at + 1 + expr_count e) ls) (joins (needs _ _ _) (needs _ _ _))))
        (chain_fits (type_of c e) (links_have_types c ls) (links_fit c ls) (nat_le (links_length ls) most_operators) (links_typed ls))
    expr_agrees at (cond e a b) =
        agreed (joins (expr_agrees (at + 1) e) (joins (needs _ _ _) (joins (expr_agrees (at + 1 + expr_count e) a) (joins (expr_agrees (at + 1 + expr_count e + expr_count a) b) (needs _ _ _)))))
        (cond_fits (type_of c e) (type_of c a) (type_of c b))
    expr_agrees at (comma es) = comma_agrees (at + 1) es

    exprs_agree : (at : ℕ) (es : Exprs) → AreNone (exprs_rows c at es) (have_types c es)
    exprs_agree at no_exprs = record { same = refl }
    exprs_agree at (exprs e es) = joins (expr_agrees at e) (exprs_agree (at + expr_count e) es)

    links_agree : (at : ℕ) (ls : Links) → AreNone (links_rows c at ls) (links_have_types c ls)
    links_agree at no_links = record { same = refl }
    links_agree at (links minus e ls) = joins (expr_agrees at e) (links_agree (at + expr_count e) ls)

    comma_agrees : (at : ℕ) (es : Exprs) → AreNone (comma_rows c at es) (is_some (last_type c es))
    comma_agrees at no_exprs = record { same = refl }
    comma_agrees at (exprs e no_exprs) = expr_agrees at e
    comma_agrees at (exprs e (exprs x es)) =
        agreed (joins (either (is_call c e) (call_agrees false at e) (expr_agrees at e)) (comma_agrees (at + expr_count e) (exprs x es)))
        (then_last (if is_call c e then call_fits c false e else is_some (type_of c e)) (last_type c (exprs x es)))

    pub call_agrees : (result : Bool) (at : ℕ) (e : Expr) → is_call c e ≡ true → AreNone (call_rows c result at e) (call_fits c result e)
    call_agrees result at (call n es) k =
        agreed (joins (exprs_agree (at + 1) es) (joins (needs _ _ _) (needs _ _ _)))
        (callee_agrees (named c n) result (exprs_length es) (have_types c es) (all_below c Int es) (all_below c Extern es) (below_typed Int es) (below_typed Extern es))
    call_agrees result at (table_call n i es) k =
        agreed (joins (expr_agrees (at + 1) i) (joins (exprs_agree (at + 1 + expr_count i) es) (joins (needs (not (is_outside (named c n))) OutsideInteger at) (joins (needs (table_fits c.home (named c n) result (exprs_length es) (all_below c Int es)) CallShape at) (needs (mask_fits (named c n) i) TableMask at)))))
        (table_agrees c.home (named c n) result (exprs_length es) (have_types c es) (all_below c Int es) (is_some (type_of c i)) (mask_fits (named c n) i) (below_typed Int es))
    call_agrees result at _ k = cc

-- ---- statements

agreed_below : (top : ValueType) (o : Option ValueType) → (is_some o && agrees top o) ≡ typed_below top o
agreed_below top None = refl
agreed_below top (Some t) = refl

return_agrees : (b : Bool) (o : Option ValueType) → (is_some o && (b && typed_below Signed o)) ≡ (b && typed_below Signed o)
return_agrees true None = refl
return_agrees false None = refl
return_agrees b (Some t) = refl

four : (a b c d : Bool) → (a && (b && (c && d))) ≡ (a && b && c && d)
four true b c d = pair b c d
four false b c d = refl

subject_fits : (o : Option ValueType) (b c : Bool) → (is_some o && (agrees Signed o && (b && c))) ≡ (typed_below Signed o && b && c)
subject_fits None b c = refl
subject_fits (Some t) b c = pair (is_below t Signed) b c

none : AreNone [] true
none = record { same = refl }

module _ (c : Scope) where
  effect_agrees : (at : ℕ) (e : Expr) → AreNone (effect_rows c at e) (effect_fits c e)
  effect_agrees at e = either (is_call c e) (call_agrees c false at e) (expr_agrees c at e)

  part_agrees : (at : ℕ) (o : Option Expr) → AreNone (part_rows c at o) (part_fits c o)
  part_agrees at None = none
  part_agrees at (Some e) = effect_agrees at e

  condition_agrees : (at : ℕ) (e : Expr) → AreNone (condition_rows c at e) (condition_fits c (Some e))
  condition_agrees at e = agreed (joins (expr_agrees c at e) (needs (agrees Int (type_of c e)) Operand at)) (agreed_below Int (type_of c e))

  option_agrees : (at : ℕ) (o : Option Expr) → AreNone (option_rows c at o) (condition_fits c o)
  option_agrees at None = none
  option_agrees at (Some e) = condition_agrees at e

  mutual
    pub stmt_agrees : (s : Stmt) (a : Around) (at : ℕ) → AreNone (stmt_rows c a at s) (typed c a s)
    stmt_agrees (block ss) a at = stmts_agree ss a (at + 1)
    stmt_agrees (plain e) a at = effect_agrees (at + 1) e
    stmt_agrees empty a at = none
    stmt_agrees (if_only e s) a at = joins (condition_agrees (at + 1) e) (stmt_agrees s a (at + 1 + expr_count e))
    stmt_agrees (if_else e s r) a at =
        agreed (joins (condition_agrees (at + 1) e) (joins (stmt_agrees s a (at + 1 + expr_count e)) (stmt_agrees r a (at + 1 + expr_count e + stmt_count s))))
        (pair (condition_fits c (Some e)) (typed c a s) (typed c a r))
    stmt_agrees (returns None) a at = needs (return_fits c None) ReturnKind at
    stmt_agrees (returns (Some e)) a at = agreed (joins (expr_agrees c (at + 1) e) (needs (return_fits c (Some e)) ReturnKind at)) (return_agrees (result_of c) (type_of c e))
    stmt_agrees (while_loop e s) a at = joins (condition_agrees (at + 1) e) (stmt_agrees s (in_a_loop a) (at + 1 + expr_count e))
    stmt_agrees (do_while s e) a at = joins (stmt_agrees s (in_a_loop a) (at + 1)) (condition_agrees (at + 1 + stmt_count s) e)
    stmt_agrees (for_loop x y z s) a at =
        agreed (joins (part_agrees (at + 1) x) (joins (option_agrees (at + 1 + option_count x) y) (joins (part_agrees (at + 1 + option_count x + option_count y) z) (stmt_agrees s (in_a_loop a) (at + 1 + option_count x + option_count y + option_count z)))))
        (four (part_fits c x) (condition_fits c y) (part_fits c z) (typed c (in_a_loop a) s))
    stmt_agrees (breaks l) a at = needs (break_fits a l) Label at
    stmt_agrees (continues l) a at = needs (continue_fits a l) Label at
    stmt_agrees (labelled ls s) a at = joins (needs (new_labels ls a.labels) Label at) (stmt_agrees s (under_labels ls s a) (at + 1))
    stmt_agrees (switches e cs) a at =
        agreed (joins (expr_agrees c (at + 1) e) (joins (needs (agrees Signed (type_of c e)) Operand (at + 1)) (joins (needs (cases_fit cs) SwitchCases at) (clauses_agree cs (in_a_switch a) (at + 1 + expr_count e)))))
        (subject_fits (type_of c e) (cases_fit cs) (clauses_typed c (in_a_switch a) cs))

    pub stmts_agree : (ss : Stmts) (a : Around) (at : ℕ) → AreNone (stmts_rows c a at ss) (all_typed c a ss)
    stmts_agree no_stmts a at = none
    stmts_agree (stmts s ss) a at = joins (stmt_agrees s a at) (stmts_agree ss a (at + stmt_count s))

    clauses_agree : (cs : Clauses) (a : Around) (at : ℕ) → AreNone (clauses_rows c a at cs) (clauses_typed c a cs)
    clauses_agree no_clauses a at = none
    clauses_agree (clauses v ss cs) a at = joins (stmts_agree ss a at) (clauses_agree cs a (at + stmts_count ss))

-- ---- declarations

globals_agree : (m : Module) (at : ℕ) (vs : List Variable) → AreNone (globals_rows m at vs) (globals_typed m vs)
globals_agree m at [] = none
globals_agree m at (v ∷ vs) =
    agreed (joins (needs (literal_fits v.init) LiteralRange at) (joins (needs (member_fits m v.init) OutsideInteger at) (globals_agree m (at + 1) vs))) (pair (literal_fits v.init) (member_fits m v.init) (globals_typed m vs))

locals_agree : (at : ℕ) (vs : List Variable) → AreNone (locals_rows at vs) (locals_typed vs)
locals_agree at [] = none
locals_agree at (v ∷ vs) = joins (needs (literal_fits v.init) LiteralRange at) (locals_agree (at + 1) vs)

pub function_agrees : (m : Module) (at : ℕ) (f : Function) → AreNone (function_rows m at f) (function_typed m f)
function_agrees m at f = joins (locals_agree (at + 1 + length f.params) f.locals) (stmts_agree (scope_of m f) f.body at_top (body_at f at))

functions_agree : (m : Module) (at : ℕ) (fs : List Function) → AreNone (functions_rows m at fs) (functions_typed m fs)
functions_agree m at [] = none
functions_agree m at (f ∷ fs) = joins (function_agrees m at f) (functions_agree m (at + function_count f) fs)

tables_agree : (m : Module) (at : ℕ) (ts : List Table) → AreNone (tables_rows m at ts) (tables_typed m ts)
tables_agree m at [] = none
tables_agree m at (t ∷ ts) = joins (needs (table_typed m t) TableSize at) (tables_agree m (at + 1) ts)

pub module_agrees : (m : Module) → AreNone (type_rows m) (module_typed m)
module_agrees m =
    agreed (joins (globals_agree m 1 m.globals) (joins (functions_agree m (functions_at m) m.functions) (tables_agree m (tables_at m) m.tables)))
    (pair (globals_typed m m.globals) (functions_typed m m.functions) (tables_typed m m.tables))

-- ---- no rows

nil_is : (xs : List Met) → is_nil xs ≡ true → xs ≡ []
nil_is [] h = refl
nil_is (x ∷ xs) h = cc

pub iff : (xs : List Met) (b : Bool) → AreNone xs b → (xs ≡ []) ↔ IsTrue b
iff xs b h = (λ e. sym h.same ∙ ap is_nil e, λ t. nil_is xs (h.same ∙ t))

pub first_none : (xs : List Met) → (first xs ≡ None) ↔ (xs ≡ [])
first_none [] = (λ h. refl, λ h. refl)
first_none (x ∷ xs) = (λ h. cc, λ h. cc)

pub first_before : (xs ys : List Met) (x : Met) → first xs ≡ Some x → first (xs ++ ys) ≡ Some x
first_before [] ys x h = cc
first_before (y ∷ xs) ys x h = h

pub none_both : (xs ys : List Met) → (xs ++ ys ≡ []) ↔ ((xs ≡ []) × (ys ≡ []))
none_both [] ys = (λ h. (refl, h), λ h. h.1)
none_both (x ∷ xs) ys = (λ h. cc, λ h. cc)
