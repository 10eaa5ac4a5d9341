-- Each typed expression does what it says, and so does each call.
use Rattle.std.proofs.Common.{◌≡◌, ℕ, suc, ◌+◌, ◌<◌, ◌≤◌, Bool, true, false, not, ◌&&◌, ◌||◌, List, [], ◌∷◌, length, Option, Some, None, is_some, pos, refl, sym, ap, ◌∙◌, subst, arith}
use Rattle.std.proofs.lemmas.Bool.{and_parts, eqb-true}
use Rattle.std.specs.Prelude.{slice_get, option_map, option_and_then, ◌==◌, if◌then◌else◌}
use Rattle.std.proofs.lemmas.Option.{slice_get-map}
use Rattle.sem_words.specs.declared.js_value.JsValue.{JsValue}
use Rattle.sem_words.specs.declared.js_value.JsValue.TheVariants.{Whole}
use Rattle.sem_words.specs.declared.js_value.JsOp.{JsOp}
use Rattle.sem_words.specs.declared.js_value.JsOp.TheVariants.{Or}
use Rattle.sem_words.specs.Words.{leading_zeros_of}
use Rattle.sem_words.specs.JsValues.{truthy_of}
use Rattle.sem_words.specs.JsOperators.{js_binary_of, js_unary_of, js_imul_of, js_clz32_of}
use Rattle.heap_lang.specs.Heap.{IsHeapLength}
use Rattle.asm_types.specs.declared.value_type.ValueType.{ValueType}
use Rattle.asm_types.specs.declared.value_type.ValueType.TheVariants.{Signed, Int, Intish, Extern}
use Rattle.asm_types.specs.Rows.{row, unary_row_of}
use Rattle.asm_types.proofs.Sound.{wider, from_row}
use Rattle.asm_lang.specs.Modules.{Expr, lit, decimal, var, index, call, table_call, assign, store, unary, binary, chain, cond, comma, Exprs, no_exprs, exprs, Links, no_links, links, Function, Table}
use Rattle.asm_lang_valid.specs.declared.meaning.Builtin.{Builtin}
use Rattle.asm_lang_valid.specs.declared.meaning.Builtin.TheVariants.{Imul, Clz32}
use Rattle.asm_lang_valid.specs.Scope.{Meaning, nothing, an_int, an_outside, a_foreign, a_builtin, a_view, a_function, a_table, a_parameter, module_meaning, first_member}
use Rattle.asm_lang_valid.specs.Refusal.{has_heap, function_number}
use Rattle.asm_lang_valid.specs.Typing.{Scope, named, typed_below, is_int, matches, index_fits, operated, exprs_length, is_call, or_zero, callee_fits, table_fits, mask_fits, type_of, all_below, links_fit, call_fits, last_type, builtin_arguments}
use Rattle.asm_lang_valid.specs.Typed.{scope_of}
use Rattle.asm_lang_exec.specs.Runs.{Place, Run, goes, stops, spent, wrong, Part, after, and_then, gives, defined, write}
use Rattle.asm_lang_exec.specs.Values.{Calls, read_element, write_element, call_named, entry_of, function_of, builtin_value}
use Rattle.asm_lang_exec.specs.Meaning.{eval, eval_all, eval_links, eval_last, link_operator}
use Rattle.asm_laws_sound.proofs.Members.{Typed, Good, good_name, table_entry}
use Rattle.asm_laws_sound.proofs.Expressions.{from_bind, from_if, from_below, from_some, index_of, operands_of, builtin_of, masked_known}
use Rattle.asm2wasm_lang.specs.Tables.{members_of}
use Rattle.asm2wasm_translation.specs.Values.{is_unsigned}
use Rattle.asm2wasm_laws_words.specs.Laws.{is_unsigned_type}
use Rattle.asm2wasm_laws_words.proofs.Compared.{words_of_conditions}
use Rattle.asm2wasm_laws_words.proofs.Formed.{form_says_type}
use Rattle.asm2wasm_laws_words.proofs.Operated.{words_of_products, words_of_leading_zeros}
use Rattle.asm2wasm_laws_preservation.proofs.Meant.{in_module, view_said, function_said}
use Rattle.asm2wasm_laws_preservation.proofs.Stepped.{index_is}
use Rattle.asm_run_code.specs.declared.op.Operator.TheVariants as ops
use Rattle.asm_run_code.specs.declared.op.Op.{Op}
use Rattle.asm_run_code.specs.declared.op.Op.TheVariants.{Zeros, Call, CallImport, CallEntry}
use Rattle.asm_run_code.specs.Operators as operators
use Rattle.asm_run_code.specs.Operators.{operator_of, word_op}
use Rattle.asm_run_code.specs.Slots.{get}
use Rattle.asm_run_code.specs.Machine.{State, calls_entry}
use Rattle.asm_run_code.specs.Names.{first_free, local, seat, Seat, a_number, a_local, elsewhere, table_number, member_number}
use Rattle.asm_run_code.specs.Values.{Before, into, copied, combined, sum_slot, linked, stays, stays_by, chained, called, value, arguments, product, zeros, sums, last}
use Rattle.asm_run_laws.specs.Frames.{Setting, Frame, IsFrame, Ends, state, Standing, Kept, Does, word, with_wanted, Shown, Seated, Args, Done, OwnDone}
use Rattle.asm_run_laws.proofs.Fetched.{fetched, leads_here}
use Rattle.asm_run_laws.proofs.Done.{does_then, does_more, does_same}
use Rattle.asm_run_laws.proofs.Standing.{kept_here, kept_on, kept_less, kept_same, standing_same}
use Rattle.asm_run_laws.proofs.Fronts.{ends_on, ends_after, value_passes, arguments_pass, linked_passes}
use Rattle.asm_run_laws.proofs.Words.{operator_word, same_word}
use Rattle.asm_run_laws.proofs.Valued.{literal_is, valued}
use Rattle.asm_run_laws.proofs.Operands.{number_reads, local_reads}
use Rattle.asm_run_laws.proofs.Forms.{reads_then, done_seen, shown_on, slot_done, literal_done, variable_done, one_done, result, combined_done}
use Rattle.asm_run_laws.proofs.Written.{assigned_done, unary_done, index_done, stored_done}
use Rattle.asm_run_laws.proofs.Summed.{chosen_done, Summed, seated_of, link_done}
use Rattle.asm_run_laws.proofs.Called.{Passed, PassedDone, moved, own_called, foreign_called}

-- ---- what is known of a module's code

pub record Made (s : Setting) : Type 0 where
  pub foreign : (n name : List ℕ) → module_meaning s.home n ≡ a_foreign name → slice_get s.codes.members (member_number s.home.globals name) ≡ Some name
  pub tables : (n : List ℕ) (t : Table) → module_meaning s.home n ≡ a_table t → slice_get s.codes.tables (table_number s.home n) ≡ Some (members_of s.home t)

-- the function of an entry, by its number
record Entry (s : Setting) (t : Table) (j : ℕ) (g : Function) : Type 0 where
  number : ℕ
  is : slice_get (members_of s.home t) j ≡ Some number
  stands : slice_get s.home.functions number ≡ Some g

function_is : (mm : Meaning) (g : Function) → function_of mm ≡ Some g → mm ≡ a_function g
function_is (a_function h) g e = let k : h ≡ g = cc e in ap a_function k
function_is nothing g e = absurd (cc e)
function_is an_int g e = absurd (cc e)
function_is an_outside g e = absurd (cc e)
function_is (a_foreign p) g e = absurd (cc e)
function_is (a_builtin b) g e = absurd (cc e)
function_is (a_view v) g e = absurd (cc e)
function_is (a_table t) g e = absurd (cc e)
function_is a_parameter g e = absurd (cc e)

entry_number : (s : Setting) (t : Table) (j : ℕ) (g : Function) → entry_of s.home (a_table t) (Whole (pos j)) ≡ Some g → Entry s t j g
entry_number s t j g e = by (slice_get t.members j) refl e
  where
    by : (o : Option (List ℕ)) → slice_get t.members j ≡ o → option_and_then (λ n. function_of (module_meaning s.home n)) o ≡ Some g → Entry s t j g
    by None at e = absurd (cc e)
    by (Some name) at e = record {
      number = function_number s.home.functions name;
      is = slice_get-map (function_number s.home.functions) t.members j ∙ ap (option_map (function_number s.home.functions)) at;
      stands = function_said s.home name g (function_is (module_meaning s.home name) g e);
    }

module _ (s : Setting) (x : Frame) (f : IsFrame s x) (limit : ℕ) (own : Calls) (owned : OwnDone s limit own) (made : Made s) (long : has_heap s.home ≡ true → IsHeapLength s.heap) (ok : Typed s.home) where
  abbrev c : Scope
  c = scope_of s.home x.within

  abbrev part : Expr → Part JsValue
  part e = eval true own c e

  abbrev code : Option ℕ → ℕ → Expr → Before
  code wanted d e more = value c wanted d e more

  abbrev Says : Option ℕ → ℕ → Expr → Type 0
  Says wanted d e = Done s x limit d wanted (code wanted d e) (part e)

  done_same : (d : ℕ) (wanted : Option ℕ) (code : Before) (part part' : Part JsValue) → ((p : Place) → part p ≡ part' p) → Done s x limit d wanted code part → Done s x limit d wanted code part'
  done_same d wanted code part part' e k = record {
    by = λ rest ws p ends st few. does_same s x (Shown s x d wanted (length rest) ws) p.units (state x (length (code rest)) ws p) (part p) (part' p) (e p) (k.by rest ws p ends st few);
  }

  -- a value that holds, or doesn't
  pub condition_word : (e : Expr) (t : ValueType) → type_of c e ≡ Some t → typed_below Int (type_of c e) ≡ true → (v : JsValue) (p q : Place) → part e p ≡ goes v q → truthy_of v ≡ not (word v == 0)
  condition_word e t is below v p q run =
      let b = from_below Int (type_of c e) below in words_of_conditions v (wider b.type Int v b.is_lower (valued own c e b.type v p q b.is run).0)

  -- ---- `|0`

  zero_done : (d : ℕ) (wanted : Option ℕ) (op : JsOp) (l r : Expr) → or_zero op r ≡ true → Says wanted d l
      → Done s x limit d wanted (code wanted d l) (and_then (part l) (λ v. and_then (part r) (λ w. defined (js_binary_of op v w))))
  zero_done d wanted Or l (lit (pos k)) h says = record {
    by = λ rest ws p ends st few.
        let shows = Shown s x d wanted (length rest) ws in
        does_then s x shows shows p.units (state x (length (value c wanted d l rest)) ws p) (part l p) (λ v. and_then (part (lit (pos k))) (λ w. defined (js_binary_of Or v w)))
        (says.by rest ws p ends st few)
        (λ v q at new run sh le.
        reads_then s x f limit own shows q.units (state x at new q) q _ (part (lit (pos k)) q) (λ w. defined (js_binary_of Or v w)) (number_reads s x own (pos k) q)
        (λ w run' is.
        let zero : w ≡ Whole (pos 0) = number_is k w q run' ∙ ap (λ k. Whole (pos k)) (eqb-true k 0 h) in
        subst (λ w. Does s x shows q.units (state x at new q) (defined (js_binary_of Or v w) q)) (sym zero)
        (record {
          at = at;
          words = new;
          leads = leads_here s.codes (state x at new q);
          shown = record { words = sh.words; standing = sh.standing; kept = sh.kept; there = sh.there; then_words = λ i. sh.then_words i ∙ ap (λ n. get (with_wanted x wanted sh.words n) i) (same_word v _ refl) };
          few = omega arith;
        })));
  }
    where
      number_is : (k : ℕ) (w : JsValue) (q : Place) → part (lit (pos k)) q ≡ goes w q → w ≡ Whole (pos k)
      number_is k w q h = literal_is own c (pos k) w q q h
  zero_done d wanted op l r h says = absurd (cc h)

  -- ---- operators of two operands

  binary_at : (d : ℕ) (room : first_free x.within ≤ d) (wanted : Option ℕ) (op : JsOp) (l r : Expr) (t : ValueType) (zero both : Bool) → or_zero op r ≡ zero → (is_call c l && zero) ≡ both
      → (if both then row (call_fits c true l) Signed else operated op l r (type_of c l) (type_of c r)) ≡ Some t
      → (call_fits c true l ≡ true → Says wanted d l) → ((w : Option ℕ) (a : ValueType) → type_of c l ≡ Some a → Says w d l) → ((b : ValueType) → type_of c r ≡ Some b → Says (Some (suc d)) (suc d) r)
      → Done s x limit d wanted (λ rest. if zero then value c wanted d l rest else combined (seat c r) (local c l) (operator_of op (is_unsigned l || is_unsigned r)) (into wanted d) d (code (Some d) d l) (code (Some (suc d)) (suc d) r) rest)
      (and_then (part l) (λ v. and_then (part r) (λ w. defined (js_binary_of op v w))))
  binary_at d room wanted op l r t true true z is h by_call left right = zero_done d wanted op l r z (by_call (from_row (call_fits c true l) Signed t h).0)
  binary_at d room wanted op l r t true false z is h by_call left right =
      let o = operands_of op l r (type_of c l) (type_of c r) t h in zero_done d wanted op l r z (left wanted o.left o.left_is)
  binary_at d room wanted op l r t false true z is h by_call left right = let p = and_parts (is_call c l) false is in absurd (cc p.1)
  binary_at d room wanted op l r t false false z is h by_call left right =
      let o = operands_of op l r (type_of c l) (type_of c r) t h in
      let unsigned : (is_unsigned l || is_unsigned r) ≡ (is_unsigned_type o.left || is_unsigned_type o.right)
      = ap (λ a. a || is_unsigned r) (form_says_type c l o.left o.left_is) ∙ ap (λ b. is_unsigned_type o.left || b) (form_says_type c r o.right o.right_is) in
      combined_done s x f limit own d room wanted l r (operator_of op (is_unsigned l || is_unsigned r)) (js_binary_of op)
      (λ p q u v w y run run' e. operator_word op l r o.left o.right t (is_unsigned l || is_unsigned r) v w y unsigned o.row_is (valued own c l o.left v p q o.left_is run).0 (valued own c r o.right w q u o.right_is run').0 e)
      (left (Some d) o.left o.left_is) (right o.right o.right_is)

  -- ---- the standard library

  product_run : (l r : Expr) (p : Place) → and_then (part l) (λ v. and_then (part r) (λ w. defined (js_imul_of v w))) p ≡ and_then (eval_all true own c (exprs l (exprs r no_exprs))) (λ vs. defined (builtin_value Imul vs)) p
  product_run l r p = by_left (part l p)
    where
      by_right : (v : JsValue) (o : Run JsValue) → after o (λ w. defined (js_imul_of v w)) ≡ after (after (after o (λ w. and_then (gives []) (λ vs. gives (w ∷ vs)))) (λ vs. gives (v ∷ vs))) (λ vs. defined (builtin_value Imul vs))
      by_right v (goes w q) = refl
      by_right v (stops e q) = refl
      by_right v (spent q) = refl
      by_right v wrong = refl

      by_left : (o : Run JsValue) → after o (λ v. and_then (part r) (λ w. defined (js_imul_of v w))) ≡ after (after o (λ v. and_then (eval_all true own c (exprs r no_exprs)) (λ vs. gives (v ∷ vs)))) (λ vs. defined (builtin_value Imul vs))
      by_left (goes v q) = by_right v (part r q)
      by_left (stops e q) = refl
      by_left (spent q) = refl
      by_left wrong = refl

  zeros_run : (e : Expr) (p : Place) → and_then (part e) (λ v. defined (js_clz32_of v)) p ≡ and_then (eval_all true own c (exprs e no_exprs)) (λ vs. defined (builtin_value Clz32 vs)) p
  zeros_run e p = by (part e p)
    where
      by : (o : Run JsValue) → after o (λ v. defined (js_clz32_of v)) ≡ after (after o (λ v. and_then (gives []) (λ vs. gives (v ∷ vs)))) (λ vs. defined (builtin_value Clz32 vs))
      by (goes w q) = refl
      by (stops e q) = refl
      by (spent q) = refl
      by wrong = refl

  -- ---- calls by name, with the arguments in their slots

  module _ (d : ℕ) (room : first_free x.within ≤ d) (wanted : Option ℕ) (n : List ℕ) (es : Exprs) (result : Bool) where
    abbrev args : Before
    args more = arguments c d es more

    abbrev all : Part (List JsValue)
    all = eval_all true own c es

    module _ (passed : PassedDone s x limit d (exprs_length es) args all) where
      call_at : (op : Op) (go : List JsValue → Part JsValue)
          → ((rest : List Op) (ws new : List ℕ) (q : Place) (vs : List JsValue) → length vs ≡ exprs_length es → Ends x.whole (op ∷ copied wanted d rest) → Standing s x new q → Kept x d ws new → Args x new d vs → q.units ≤ limit
          → Does s x (Shown s x d wanted (length rest) ws) q.units (state x (length (op ∷ copied wanted d rest)) new q) (go vs q))
          → Done s x limit d wanted (λ rest. arguments c d es (op ∷ copied wanted d rest)) (and_then all go)
      call_at op go next = record {
        by = λ rest ws p ends st few.
            let more = op ∷ copied wanted d rest in
            let shows = Shown s x d wanted (length rest) ws in
            does_then s x (Passed s x d (exprs_length es) (length more) ws) shows p.units (state x (length (arguments c d es more)) ws p) (all p) go
            (passed.by more ws p ends st few)
            (λ vs q at new run a le.
            subst (λ at. Does s x shows q.units (state x at new q) (go vs q)) (sym a.there)
            (next rest ws new q vs a.many (ends_on x.whole (arguments c d es more) more ends (arguments_pass c es d more)) a.standing a.kept a.args (omega (arith, le, few))));
      }

      named_done : (mm : Meaning) → named c n ≡ mm → (ints externs : Bool) → callee_fits mm result (exprs_length es) ints externs ≡ true → (product zeros : Before)
          → Done s x limit d wanted (λ rest. called c mm n (exprs_length es) wanted d args product zeros rest) (and_then all (λ vs. call_named own mm vs))
      named_done (a_function g) e ints externs h product zeros =
          let many = eqb-true (exprs_length es) (length g.params) (and_parts _ _ (and_parts _ _ h).0).0 in
          let stands = function_said s.home n g (in_module s.home x.within n (a_function g) e (λ q. q)) in
          call_at (Call (function_number s.home.functions n) d) (λ vs. own g vs)
          (λ rest ws new q vs count ends st kept slots few. own_called s x f limit own d room owned wanted g (function_number s.home.functions n) rest ws new q vs stands (count ∙ many) ends st kept slots few)
      named_done (a_foreign name) e ints externs h product zeros =
          let there = made.foreign n name (in_module s.home x.within n (a_foreign name) e (λ q. q)) in
          call_at (CallImport (member_number s.home.globals name) (exprs_length es) d) (λ vs. call_named own (a_foreign name) vs)
          (λ rest ws new q vs count ends st kept slots few. foreign_called s x f limit own d room wanted name (member_number s.home.globals name) (exprs_length es) rest ws new q vs there count ends st kept slots)
      named_done nothing e ints externs h product zeros = absurd (cc h)
      named_done an_int e ints externs h product zeros = absurd (cc h)
      named_done an_outside e ints externs h product zeros = absurd (cc h)
      named_done (a_builtin b) e ints externs h product zeros = absurd (cc h)
      named_done (a_view v) e ints externs h product zeros = absurd (cc h)
      named_done (a_table t) e ints externs h product zeros = absurd (cc h)
      named_done a_parameter e ints externs h product zeros = absurd (cc h)

    -- arguments that fit a callee
    passed_by : (mm : Meaning) → callee_fits mm result (exprs_length es) (all_below c Int es) (all_below c Extern es) ≡ true
        → ((top : ValueType) → all_below c top es ≡ true → PassedDone s x limit d (exprs_length es) args all) → PassedDone s x limit d (exprs_length es) args all
    passed_by (a_function g) h k = k Int (and_parts _ _ h).1
    passed_by (a_foreign name) h k = k Extern h
    passed_by nothing h k = absurd (cc h)
    passed_by an_int h k = absurd (cc h)
    passed_by an_outside h k = absurd (cc h)
    passed_by (a_builtin b) h k = absurd (cc h)
    passed_by (a_view v) h k = absurd (cc h)
    passed_by (a_table t) h k = absurd (cc h)
    passed_by a_parameter h k = absurd (cc h)

  -- ---- calls of entries

  module _ (d : ℕ) (room : first_free x.within ≤ d) (wanted : Option ℕ) (n : List ℕ) (i : Expr) (es : Exprs) (result : Bool) where
    entry_at : (t : Table) → module_meaning s.home n ≡ a_table t → Good s.home (a_table t) → matches (first_member s.home t.members) (exprs_length es) result ≡ true
        → (j : ℕ) → j < length t.members → length t.members ≤ 65536 → (rest : List Op) (old ws : List ℕ) (p : Place) (vs : List JsValue) → length vs ≡ exprs_length es
        → let op = CallEntry (table_number s.home n) d (suc d) in Ends x.whole (op ∷ copied wanted (suc d) rest) → Standing s x ws p → Kept x d old ws → get ws (x.base + d) ≡ word (Whole (pos j)) → Args x ws (suc d) vs → p.units ≤ limit
        → Does s x (Shown s x d wanted (length rest) old) p.units (state x (length (op ∷ copied wanted (suc d) rest)) ws p) (and_then (defined (entry_of s.home (a_table t) (Whole (pos j)))) (λ g. own g vs) p)
    entry_at t is good fits j lt most rest old ws p vs many ends st kept at_index in_slots few =
        let k = table_entry s.home ok t (exprs_length es) result good.0 fits (Whole (pos j)) j refl lt in
        let e = entry_number s t j k.function k.is in
        let more = copied wanted (suc d) rest in
        let op = CallEntry (table_number s.home n) d (suc d) in
        let here = state x (length more) ws p in
        let small : get ws (x.base + d) ≡ j = at_index ∙ (let big = lt in omega (arith, big, most)) in
        subst (λ o. Does s x (Shown s x d wanted (length rest) old) p.units (state x (length (op ∷ more)) ws p) (and_then (defined o) (λ g. own g vs) p)) (sym k.is)
        (shown_less wanted rest old (state x (length (op ∷ more)) ws p) p.units (own k.function vs p)
        (moved s x f limit own (suc d) (omega (arith, room)) wanted rest ws ws p.units (state x (length (op ∷ more)) ws p) (own k.function vs p) (kept_here s x (suc d) ws) (ends_on x.whole (op ∷ more) more ends (ends_after op more))
        (owned x k.function e.number (suc d) (length more) vs (state x (length (op ∷ more)) ws p) ws p e.stands (omega (arith, room)) (many ∙ k.many) st in_slots few
        (fetched s x f op more ws p ends
        ∙ ap (λ o. calls_entry s.codes (option_and_then (λ ns. slice_get ns (get ws (x.base + d))) o) (suc d) here) (made.tables n t is)
        ∙ ap (λ i. calls_entry s.codes (slice_get (members_of s.home t) i) (suc d) here) small
        ∙ ap (λ o. calls_entry s.codes o (suc d) here) e.is)))
        kept)
      where
        shown_less : (wanted : Option ℕ) (rest : List Op) (old : List ℕ) (t : State) (n : ℕ) (o : Run JsValue) → Does s x (Shown s x (suc d) wanted (length rest) ws) n t o → Kept x d old ws → Does s x (Shown s x d wanted (length rest) old) n t o
        shown_less wanted rest old t n o k kept =
            does_more s x (Shown s x (suc d) wanted (length rest) ws) (Shown s x d wanted (length rest) old) n t o k
            (λ v q here new run sh. record { words = sh.words; standing = sh.standing; kept = kept_on s x d old ws sh.words kept (kept_less s x d (suc d) ws sh.words (omega arith) sh.kept); there = sh.there; then_words = sh.then_words })

    table_done : (mm : Meaning) → named c n ≡ mm → table_fits s.home mm result (exprs_length es) (all_below c Int es) ≡ true → (t : ValueType) → type_of c i ≡ Some t → mask_fits mm i ≡ true
        → Says (Some d) d i → PassedDone s x limit (suc d) (exprs_length es) (λ more. arguments c (suc d) es more) (eval_all true own c es)
        → Done s x limit d wanted (λ rest. value c (Some d) d i (arguments c (suc d) es (CallEntry (table_number s.home n) d (suc d) ∷ copied wanted (suc d) rest)))
        (and_then (part i) (λ w. and_then (eval_all true own c es) (λ vs. and_then (defined (entry_of s.home mm w)) (λ g. own g vs))))
    table_done (a_table t) e fits ty has mask first passed = record {
      by = λ rest ws p ends st few.
          let op = CallEntry (table_number s.home n) d (suc d) in
          let tail = op ∷ copied wanted (suc d) rest in
          let more = arguments c (suc d) es tail in
          let shows = Shown s x d wanted (length rest) ws in
          let ends_more = ends_on x.whole (value c (Some d) d i more) more ends (value_passes c i (Some d) d more) in
          let good = subst (Good s.home) e (good_name s.home ok x.within n) in
          let is = in_module s.home x.within n (a_table t) e (λ q. q) in
          does_then s x (Seated s x d d (length more) ws) shows p.units (state x (length (value c (Some d) d i more)) ws p) (part i p) (λ w. and_then (eval_all true own c es) (λ vs. and_then (defined (entry_of s.home (a_table t) w)) (λ g. own g vs)))
          (slot_done s x f limit own d room (code (Some d) d i) (part i) first more ws p ends st few)
          (λ w q at new run sh le.
          let m = masked_known i w (length t.members) mask (valued own c i ty w p q has run).1 good.1 in
          subst (λ at. Does s x shows q.units (state x at new q) (and_then (eval_all true own c es) (λ vs. and_then (defined (entry_of s.home (a_table t) w)) (λ g. own g vs)) q)) (sym sh.there)
          (does_then s x (Passed s x (suc d) (exprs_length es) (length tail) new) shows q.units (state x (length more) new q) (eval_all true own c es q) (λ vs. and_then (defined (entry_of s.home (a_table t) w)) (λ g. own g vs))
          (passed.by tail new q ends_more sh.standing (omega (arith, le, few)))
          (λ vs r at' new' run' a le'.
          subst (λ at'. Does s x shows r.units (state x at' new' r) (and_then (defined (entry_of s.home (a_table t) w)) (λ g. own g vs) r)) (sym a.there)
          (subst (λ w. Does s x shows r.units (state x (length tail) new' r) (and_then (defined (entry_of s.home (a_table t) w)) (λ g. own g vs) r)) (sym m.1)
          (entry_at t is good (and_parts _ _ fits).0 m.0 m.2 good.1 rest ws new' r vs a.many (ends_on x.whole more tail ends_more (arguments_pass c es (suc d) tail)) a.standing
          (kept_on s x d ws new new' sh.kept (kept_less s x d (suc d) new new' (omega arith) a.kept))
          (a.kept.between d room (omega arith) ∙ sh.value ∙ ap word m.1) a.args (omega (arith, le, le', few)))))));
    }
    table_done nothing e fits ty has mask first passed = absurd (cc fits)
    table_done an_int e fits ty has mask first passed = absurd (cc fits)
    table_done an_outside e fits ty has mask first passed = absurd (cc fits)
    table_done (a_foreign p) e fits ty has mask first passed = absurd (cc fits)
    table_done (a_builtin b) e fits ty has mask first passed = absurd (cc fits)
    table_done (a_view v) e fits ty has mask first passed = absurd (cc fits)
    table_done (a_function g) e fits ty has mask first passed = absurd (cc fits)
    table_done a_parameter e fits ty has mask first passed = absurd (cc fits)

  -- ---- expressions

  -- an argument before others
  argued : (d : ℕ) (room : first_free x.within ≤ d) (e : Expr) (es : Exprs) → Says (Some d) d e → PassedDone s x limit (suc d) (exprs_length es) (λ more. arguments c (suc d) es more) (eval_all true own c es)
      → PassedDone s x limit d (suc (exprs_length es)) (λ rest. value c (Some d) d e (arguments c (suc d) es rest)) (and_then (part e) (λ v. and_then (eval_all true own c es) (λ vs. gives (v ∷ vs))))
  argued d room e es first others = record {
    by = λ rest ws p ends st few.
        let more = arguments c (suc d) es rest in
        let shows = Passed s x d (suc (exprs_length es)) (length rest) ws in
        let ends_more = ends_on x.whole (value c (Some d) d e more) more ends (value_passes c e (Some d) d more) in
        does_then s x (Seated s x d d (length more) ws) shows p.units (state x (length (value c (Some d) d e more)) ws p) (part e p) (λ v. and_then (eval_all true own c es) (λ vs. gives (v ∷ vs)))
        (slot_done s x f limit own d room (code (Some d) d e) (part e) first more ws p ends st few)
        (λ v q at new run sh le.
        subst (λ at. Does s x shows q.units (state x at new q) (and_then (eval_all true own c es) (λ vs. gives (v ∷ vs)) q)) (sym sh.there)
        (does_then s x (Passed s x (suc d) (exprs_length es) (length rest) new) shows q.units (state x (length more) new q) (eval_all true own c es q) (λ vs. gives (v ∷ vs))
        (others.by rest new q ends_more sh.standing (omega (arith, le, few)))
        (λ vs r at' new' run' a le'. record {
          at = at';
          words = new';
          leads = leads_here s.codes (state x at' new' r);
          shown = record {
            standing = a.standing;
            kept = kept_on s x d ws new new' sh.kept (kept_less s x d (suc d) new new' (omega arith) a.kept);
            there = a.there;
            args = (a.kept.between d room (omega arith) ∙ sh.value, a.args);
            many = ap suc a.many;
          };
          few = omega arith;
        })));
  }

  -- a part before the last
  before_last : (d : ℕ) (room : first_free x.within ≤ d) (wanted : Option ℕ) (e : Expr) (es : Exprs) → Says None d e → Done s x limit d wanted (λ rest. last c wanted d es rest) (eval_last true own c es)
      → Done s x limit d wanted (λ rest. value c None d e (last c wanted d es rest)) (and_then (part e) (λ v. eval_last true own c es))
  before_last d room wanted e es first others = record {
    by = λ rest ws p ends st few.
        let more = last c wanted d es rest in
        let shows = Shown s x d wanted (length rest) ws in
        let ends_more = ends_on x.whole (value c None d e more) more ends (value_passes c e None d more) in
        does_then s x (Shown s x d None (length more) ws) shows p.units (state x (length (value c None d e more)) ws p) (part e p) (λ v. eval_last true own c es)
        (first.by more ws p ends st few)
        (λ v q at new run sh le.
        let stands = standing_same s x sh.words new q sh.then_words sh.standing in
        let kept = kept_same s x d ws sh.words new sh.then_words sh.kept in
        subst (λ at. Does s x shows q.units (state x at new q) (eval_last true own c es q)) (sym sh.there)
        (does_more s x (Shown s x d wanted (length rest) new) shows q.units (state x (length more) new q) (eval_last true own c es q) (others.by rest new q ends_more stands (omega (arith, le, few)))
        (λ u r here last run' sh'. shown_on s x f limit own d wanted (length rest) ws new kept u r here last sh')));
  }

  -- a part whose value isn't used
  effect_by : (e : Expr) (d : ℕ) (b : Bool) → (if b then call_fits c false e else is_some (type_of c e)) ≡ true → (call_fits c false e ≡ true → Says None d e) → ((t : ValueType) → type_of c e ≡ Some t → Says None d e) → Says None d e
  effect_by e d true h by_call typed = by_call h
  effect_by e d false h by_call typed = let t = from_some (type_of c e) h in typed t.0 t.1

  ints_of : (mm : Meaning) (count : ℕ) (result ints : Bool) → table_fits s.home mm result count ints ≡ true → ints ≡ true
  ints_of (a_table t) count result ints h = (and_parts _ _ h).1
  ints_of nothing count result ints h = absurd (cc h)
  ints_of an_int count result ints h = absurd (cc h)
  ints_of an_outside count result ints h = absurd (cc h)
  ints_of (a_foreign p) count result ints h = absurd (cc h)
  ints_of (a_builtin b) count result ints h = absurd (cc h)
  ints_of (a_view v) count result ints h = absurd (cc h)
  ints_of (a_function g) count result ints h = absurd (cc h)
  ints_of a_parameter count result ints h = absurd (cc h)

  -- ---- chains

  stays_place : (k : Seat) (o : Option ℕ) (a : ℕ) → stays_by k o ≡ Some a → (o ≡ Some a) × (k ≡ elsewhere → ⊥)
  stays_place elsewhere o a h = absurd (cc h)
  stays_place (a_number n) o a h = (h, λ e. cc e)
  stays_place (a_local y) o a h = (h, λ e. cc e)

  put_into : (wanted : Option ℕ) (d : ℕ) (room : first_free x.within ≤ d) (at : ℕ) (old : List ℕ) (v : JsValue) (q : Place) (here : ℕ) (new : List ℕ) → Shown s x d (Some (into wanted d)) at old v q here new → Shown s x d wanted at old v q at new
  put_into (Some to) d room at old v q here new sh = record { words = sh.words; standing = sh.standing; kept = sh.kept; there = refl; then_words = sh.then_words }
  put_into None d room at old v q here new sh =
      let k = seated_of s x f limit own d room at old v q here new sh in record { words = new; standing = k.standing; kept = k.kept; there = refl; then_words = λ i. refl }

  -- the first operand and what comes after it
  chain_at : (o : Option ℕ) (wanted : Option ℕ) (e : Expr) (ls : Links) (d : ℕ) (room : first_free x.within ≤ d) → stays c (local c e) ls ≡ o → ((to : ℕ) → Says (Some to) d e)
      → ((at a : ℕ) (old : List ℕ) (v : JsValue) (q : Place) (ws : List ℕ) (rest : List Op) → at ≡ length (sums c wanted a d ls rest) → Ends x.whole (sums c wanted a d ls rest) → q.units ≤ limit
      → Summed s x f limit own d room wanted (length rest) a ls old v q ws → Does s x (Shown s x d wanted (length rest) old) q.units (state x at ws q) (eval_links true own c ls v q))
      → Done s x limit d wanted (λ rest. chained o (sum_slot wanted d ls) d (λ to more. value c (Some to) d e more) (λ a more. sums c wanted a d ls more) rest) (and_then (part e) (λ v. eval_links true own c ls v))
  unfolding value
  chain_at (Some a) wanted e no_links d room h first more = absurd (cc h)
  chain_at (Some a) wanted e (links minus y ls) d room h first more =
      let k = stays_place (seat c y) (local c e) a h in record {
        by = λ rest ws p ends st few.
            let shows = Shown s x d wanted (length rest) ws in
            let at = length (sums c wanted a d (links minus y ls) rest) in
            reads_then s x f limit own shows p.units (state x at ws p) p (get ws (x.base + a)) (part e p) (λ v. eval_links true own c (links minus y ls) v) (local_reads s x own e a ws p k.0 st)
            (λ v run is. more at a ws v p ws rest refl ends few (st, kept_here s x d ws, is, λ e'. absurd (k.1 e')));
      }
  chain_at None wanted e no_links d room h first more = record {
    by = λ rest ws p ends st few.
        let shows = Shown s x d wanted (length rest) ws in
        does_then s x (Shown s x d (Some (into wanted d)) (length rest) ws) shows p.units (state x (length (value c (Some (into wanted d)) d e rest)) ws p) (part e p) (λ v. eval_links true own c no_links v)
        ((first (into wanted d)).by rest ws p ends st few)
        (λ v q at new run sh le.
        more at d ws v q new rest sh.there (ends_on x.whole (value c (Some (into wanted d)) d e rest) rest ends (value_passes c e (Some (into wanted d)) d rest)) (omega (arith, le, few)) (put_into wanted d room (length rest) ws v q at new sh));
  }
  chain_at None wanted e (links minus y ls) d room h first more = record {
    by = λ rest ws p ends st few.
        let shows = Shown s x d wanted (length rest) ws in
        let tail = sums c wanted d d (links minus y ls) rest in
        does_then s x (Seated s x d d (length tail) ws) shows p.units (state x (length (value c (Some d) d e tail)) ws p) (part e p) (λ v. eval_links true own c (links minus y ls) v)
        (slot_done s x f limit own d room (code (Some d) d e) (part e) (first d) tail ws p ends st few)
        (λ v q at new run sh le.
        more at d ws v q new rest sh.there (ends_on x.whole (value c (Some d) d e tail) tail ends (value_passes c e (Some d) d tail)) (omega (arith, le, few)) (sh.standing, sh.kept, sh.value, λ e'. refl));
  }

  -- one further operand, and those after it
  linked_with : (d : ℕ) (room : first_free x.within ≤ d) (minus : Bool) (e : Expr) (wanted wanted' : Option ℕ) (at a past : ℕ) (old : List ℕ) (v : JsValue) (q : Place) (ws : List ℕ) (more : List Op) (go : JsValue → Part JsValue)
      → at ≡ length (linked (seat c e) (operators.link_operator minus) (into wanted' d) a d (code (Some (suc d)) (suc d) e) more)
      → Ends x.whole (linked (seat c e) (operators.link_operator minus) (into wanted' d) a d (code (Some (suc d)) (suc d) e) more)
      → q.units ≤ limit → (Standing s x ws q) × (Kept x d old ws) × (get ws (x.base + a) ≡ word v) × (seat c e ≡ elsewhere → a ≡ d) → Says (Some (suc d)) (suc d) e
      → ((y : JsValue) (r : Place) (new : List ℕ) → Ends x.whole more → r.units ≤ limit → Shown s x d wanted' (length more) old y r (length more) new → Does s x (Shown s x d wanted past old) r.units (state x (length more) new r) (go y r))
      → Does s x (Shown s x d wanted past old) q.units (state x at ws q) (and_then (part e) (λ w. and_then (defined (js_binary_of (link_operator minus) v w)) go) q)
  linked_with d room minus e wanted wanted' at a past old v q ws more go here ends few sh second next =
      let op = operators.link_operator minus in
      let all = linked (seat c e) op (into wanted' d) a d (code (Some (suc d)) (suc d) e) more in
      let shows = Shown s x d wanted past old in
      subst (λ at. Does s x shows q.units (state x at ws q) (and_then (part e) (λ w. and_then (defined (js_binary_of (link_operator minus) v w)) go) q)) (sym here)
      (twice (part e q) (λ w. defined (js_binary_of (link_operator minus) v w)) go (λ o. Does s x shows q.units (state x (length all) ws q) o)
      (does_then s x (Shown s x d wanted' (length more) old) shows q.units (state x (length all) ws q) (and_then (part e) (λ w. defined (js_binary_of (link_operator minus) v w)) q) go
      (link_done s x f limit own d room wanted' minus e a second (seat c e) refl more old ws q v ends sh.0 sh.1 sh.2 sh.3 few)
      (λ y r at' new run k le.
      subst (λ at'. Does s x shows r.units (state x at' new r) (go y r)) (sym k.there)
      (next y r new (ends_on x.whole all more ends (linked_passes (seat c e) op (into wanted' d) a d (code (Some (suc d)) (suc d) e) (value_passes c e (Some (suc d)) (suc d)) more)) (omega (arith, le, few))
      (record { words = k.words; standing = k.standing; kept = k.kept; there = refl; then_words = k.then_words })))))
    where
      twice : {A B C : Type 0} → (o : Run A) (f : A → Part B) (g : B → Part C) (P : Run C → Type 0) → P (after (after o f) g) → P (after o (λ a. and_then (f a) g))
      twice (goes a p) f g P h = h
      twice (stops e p) f g P h = h
      twice (spent p) f g P h = h
      twice wrong f g P h = h

  linked_on : (d : ℕ) (room : first_free x.within ≤ d) (minus : Bool) (e : Expr) (ls : Links) (wanted : Option ℕ) (at a : ℕ) (old : List ℕ) (v : JsValue) (q : Place) (ws : List ℕ) (rest : List Op)
      → at ≡ length (linked (seat c e) (operators.link_operator minus) (sum_slot wanted d ls) a d (code (Some (suc d)) (suc d) e) (sums c wanted d d ls rest))
      → Ends x.whole (linked (seat c e) (operators.link_operator minus) (sum_slot wanted d ls) a d (code (Some (suc d)) (suc d) e) (sums c wanted d d ls rest))
      → q.units ≤ limit → Summed s x f limit own d room wanted (length rest) a (links minus e ls) old v q ws → Says (Some (suc d)) (suc d) e
      → ((y : JsValue) (r : Place) (new : List ℕ) → Ends x.whole (sums c wanted d d ls rest) → r.units ≤ limit → Summed s x f limit own d room wanted (length rest) d ls old y r new
      → Does s x (Shown s x d wanted (length rest) old) r.units (state x (length (sums c wanted d d ls rest)) new r) (eval_links true own c ls y r))
      → Does s x (Shown s x d wanted (length rest) old) q.units (state x at ws q) (and_then (part e) (λ w. and_then (defined (js_binary_of (link_operator minus) v w)) (λ y. eval_links true own c ls y)) q)
  unfolding value
  linked_on d room minus e no_links wanted at a old v q ws rest here ends few sh second next =
      linked_with d room minus e wanted wanted at a (length rest) old v q ws rest (λ y. eval_links true own c no_links y) here ends few sh second (λ y r new tail le k. next y r new tail le k)
  linked_on d room minus e (links m y ls) wanted at a old v q ws rest here ends few sh second next =
      linked_with d room minus e wanted (Some d) at a (length rest) old v q ws (sums c wanted d d (links m y ls) rest) (λ z. eval_links true own c (links m y ls) z) here ends few sh second
      (λ z r new tail le k. let t = seated_of s x f limit own d room (length (sums c wanted d d (links m y ls) rest)) old z r (length (sums c wanted d d (links m y ls) rest)) new k in next z r new tail le (t.standing, t.kept, t.value, λ e'. refl))

  mutual
    unfolding value

    pub value_done : (e : Expr) (wanted : Option ℕ) (t : ValueType) (d : ℕ) → type_of c e ≡ Some t → first_free x.within ≤ d → Says wanted d e
    value_done (lit z) wanted t d h room = literal_done s x f limit own d room wanted z
    value_done (decimal bs) wanted t d h room = absurd (cc h)
    value_done (var n) wanted t d h room = variable_done s x f limit own d room wanted n
    value_done (index n i) wanted t d h room =
        let w = from_row (index_fits (named c n) i (type_of c i)) Intish t h in
        let k = index_of c (named c n) i (type_of c i) refl w.0 in
        let has = view_said s.home n k.view (in_module s.home x.within n (a_view k.view) k.is_view (λ q. q)) in
        done_seen s x f limit own d wanted _ (type_of c (index n i)) (and_then (part i) (λ w. read_element (named c n) w))
        (index_done s x f limit own d room (named c n) k.view k.is_view has (long has) wanted i (λ v p q run. index_is c (named c n) i k w.0 v (valued own c i k.type v p q k.has_type run)) (value_done i (Some d) k.type d k.has_type room))
    value_done (call n es) wanted t d h room =
        let b = builtin_of (named c n) (exprs_length es) (all_below c Int es) t h in
        done_seen s x f limit own d wanted _ (type_of c (call n es)) (and_then (eval_all true own c es) (λ vs. call_named own (named c n) vs))
        (subst (λ mm. Done s x limit d wanted (λ rest. called c mm n (exprs_length es) wanted d (λ more. arguments c d es more) (λ more. product c (into wanted d) d es more) (λ more. zeros c (into wanted d) d es more) rest) (and_then (eval_all true own c es) (λ vs. call_named own mm vs))) (sym b.is)
        (library_done es b.builtin wanted n d b.many b.are_ints room))
    value_done (table_call n i es) wanted t d h room = absurd (cc h)
    value_done (assign n e) wanted t d h room =
        let w = from_if (is_int (named c n) && typed_below Int (type_of c e)) (type_of c e) t h in
        done_seen s x f limit own d wanted _ (type_of c (assign n e)) (and_then (part e) (λ v. write n v)) (assigned_done s x f limit own d room wanted n e (λ to. value_done e (Some to) t d w.1 room))
    value_done (store n i e) wanted t d h room =
        let w = from_if (index_fits (named c n) i (type_of c i) && typed_below Intish (type_of c e)) (type_of c e) t h in
        let p = and_parts _ _ w.0 in
        let k = index_of c (named c n) i (type_of c i) refl p.0 in
        let has = view_said s.home n k.view (in_module s.home x.within n (a_view k.view) k.is_view (λ q. q)) in
        done_seen s x f limit own d wanted _ (type_of c (store n i e)) (and_then (part i) (λ w. and_then (part e) (λ u. write_element (named c n) w u)))
        (stored_done s x f limit own d room (named c n) k.view k.is_view has (long has) wanted i e (λ v p' q run. index_is c (named c n) i k p.0 v (valued own c i k.type v p' q k.has_type run))
        (value_done i (Some d) k.type d k.has_type room) (value_done e (Some (suc d)) t (suc d) w.1 (omega (arith, room))))
    value_done (unary op e) wanted t d h room =
        let p = from_bind (λ a. unary_row_of op a) (type_of c e) t h in
        done_seen s x f limit own d wanted _ (type_of c (unary op e)) (and_then (part e) (λ v. defined (js_unary_of op v)))
        (unary_done s x f limit own d room wanted op e p.0 t p.2 (λ v p' q run. (valued own c e p.0 v p' q p.1 run).0) (value_done e (Some d) p.0 d p.1 room))
    value_done (binary op l r) wanted t d h room =
        done_seen s x f limit own d wanted _ (type_of c (binary op l r)) (and_then (part l) (λ v. and_then (part r) (λ w. defined (js_binary_of op v w))))
        (binary_at d room wanted op l r t (or_zero op r) (is_call c l && or_zero op r) refl refl h
        (λ fits. call_done l wanted true d fits room) (λ w a is. value_done l w a d is room) (λ b is. value_done r (Some (suc d)) b (suc d) is (omega (arith, room))))
    value_done (chain e ls) wanted t d h room =
        let w = from_row _ Intish t h in
        let p = and_parts _ _ w.0 in
        let q = and_parts _ _ p.0 in
        let k = from_below Int (type_of c e) q.0 in
        done_seen s x f limit own d wanted _ (type_of c (chain e ls)) (and_then (part e) (λ v. eval_links true own c ls v))
        (chain_at (stays c (local c e) ls) wanted e ls d room refl (λ to. value_done e (Some to) k.type d k.is room)
        (λ at a old v r ws rest. sums_done ls wanted d room q.1 at a old v r ws rest))
    value_done (cond e a b) wanted t d h room =
        let w = from_row _ Int t h in
        let p = and_parts _ _ w.0 in
        let q = and_parts _ _ p.0 in
        let k = from_below Int (type_of c e) q.0 in
        let y = from_below Int (type_of c a) q.1 in
        let z = from_below Int (type_of c b) p.1 in
        done_seen s x f limit own d wanted _ (type_of c (cond e a b)) (and_then (part e) (λ v. if truthy_of v then part a else part b))
        (chosen_done s x f limit own d room wanted e a b (condition_word e k.type k.is q.0) (value_done e (Some d) k.type d k.is room) (value_done a wanted y.type d y.is room) (value_done b wanted z.type d z.is room))
    value_done (comma es) wanted t d h room =
        done_seen s x f limit own d wanted _ (type_of c (comma es)) (eval_last true own c es) (last_done es wanted t d h room)

    library_done : (es : Exprs) (b : Builtin) (wanted : Option ℕ) (n : List ℕ) (d : ℕ) → exprs_length es ≡ builtin_arguments b → all_below c Int es ≡ true → first_free x.within ≤ d
        → Done s x limit d wanted (λ rest. called c (a_builtin b) n (exprs_length es) wanted d (λ more. arguments c d es more) (λ more. product c (into wanted d) d es more) (λ more. zeros c (into wanted d) d es more) rest)
        (and_then (eval_all true own c es) (λ vs. call_named own (a_builtin b) vs))
    library_done no_exprs Imul wanted n d many ints room = absurd (omega (arith, many))
    library_done no_exprs Clz32 wanted n d many ints room = absurd (omega (arith, many))
    library_done (exprs l no_exprs) Imul wanted n d many ints room = absurd (omega (arith, many))
    library_done (exprs l (exprs r (exprs y es))) Imul wanted n d many ints room = absurd (omega (arith, many))
    library_done (exprs l (exprs r no_exprs)) Imul wanted n d many ints room =
        let p = and_parts _ _ ints in
        let a = from_below Int (type_of c l) p.0 in
        let b = from_below Int (type_of c r) (and_parts _ _ p.1).0 in
        done_same d wanted _ _ _ (product_run l r)
        (combined_done s x f limit own d room wanted l r ops.Mul js_imul_of (λ p q u v w y run run' e. words_of_products v w y e) (value_done l (Some d) a.type d a.is room) (value_done r (Some (suc d)) b.type (suc d) b.is (omega (arith, room))))
    library_done (exprs e (exprs y es)) Clz32 wanted n d many ints room = absurd (omega (arith, many))
    library_done (exprs e no_exprs) Clz32 wanted n d many ints room =
        let a = from_below Int (type_of c e) (and_parts _ _ ints).0 in
        done_same d wanted _ _ _ (zeros_run e)
        (one_done s x f limit own d room wanted e (λ b. Zeros (into wanted d) b) (λ v. defined (js_clz32_of v)) (value_done e (Some d) a.type d a.is room)
        (λ v p q rest old ws slot run ends st kept is.
        result s x f limit own d room wanted (js_clz32_of v) (Zeros (into wanted d) slot) (leading_zeros_of 32 (get ws (x.base + slot))) rest old ws q ends refl (λ y e'. ap (leading_zeros_of 32) is ∙ words_of_leading_zeros v y e') st kept))

    all_done : (es : Exprs) (top : ValueType) (d : ℕ) → all_below c top es ≡ true → first_free x.within ≤ d → PassedDone s x limit d (exprs_length es) (λ more. arguments c d es more) (eval_all true own c es)
    all_done no_exprs top d h room = record {
      by = λ rest ws p ends st few. record { at = length rest; words = ws; leads = leads_here s.codes (state x (length rest) ws p); shown = record { standing = st; kept = kept_here s x d ws; there = refl; args = tt; many = refl }; few = omega arith };
    }
    all_done (exprs e es) top d h room =
        let p = and_parts _ _ h in
        let k = from_below top (type_of c e) p.0 in
        argued d room e es (value_done e (Some d) k.type d k.is room) (all_done es top (suc d) p.1 (omega (arith, room)))

    sums_done : (ls : Links) (wanted : Option ℕ) (d : ℕ) (room : first_free x.within ≤ d) → links_fit c ls ≡ true → (at a : ℕ) (old : List ℕ) (v : JsValue) (q : Place) (ws : List ℕ) (rest : List Op)
        → at ≡ length (sums c wanted a d ls rest) → Ends x.whole (sums c wanted a d ls rest) → q.units ≤ limit → Summed s x f limit own d room wanted (length rest) a ls old v q ws
        → Does s x (Shown s x d wanted (length rest) old) q.units (state x at ws q) (eval_links true own c ls v q)
    sums_done no_links wanted d room h at a old v q ws rest e ends few sh =
        subst (λ at. Does s x (Shown s x d wanted (length rest) old) q.units (state x at ws q) (goes v q)) (sym e)
        (record { at = length rest; words = ws; leads = leads_here s.codes (state x (length rest) ws q); shown = sh; few = omega arith })
    sums_done (links minus e ls) wanted d room h at a old v q ws rest here ends few sh =
        let p = and_parts _ _ h in
        let k = from_below Int (type_of c e) p.0 in
        linked_on d room minus e ls wanted at a old v q ws rest here ends few sh (value_done e (Some (suc d)) k.type (suc d) k.is (omega (arith, room)))
        (λ y r new tail le sh'. sums_done ls wanted d room p.1 (length (sums c wanted d d ls rest)) d old y r new rest refl tail le sh')

    last_done : (es : Exprs) (wanted : Option ℕ) (t : ValueType) (d : ℕ) → last_type c es ≡ Some t → first_free x.within ≤ d → Done s x limit d wanted (λ rest. last c wanted d es rest) (eval_last true own c es)
    last_done no_exprs wanted t d h room = absurd (cc h)
    last_done (exprs e no_exprs) wanted t d h room = value_done e wanted t d h room
    last_done (exprs e (exprs y es)) wanted t d h room =
        let w = from_if (if is_call c e then call_fits c false e else is_some (type_of c e)) (last_type c (exprs y es)) t h in
        before_last d room wanted e (exprs y es)
        (effect_by e d (is_call c e) w.0 (λ fits. call_done e None false d fits room) (λ u is. value_done e None u d is room))
        (last_done (exprs y es) wanted t d w.1 room)

    pub call_done : (e : Expr) (wanted : Option ℕ) (result : Bool) (d : ℕ) → call_fits c result e ≡ true → first_free x.within ≤ d → Says wanted d e
    call_done (call n es) wanted result d h room =
        done_seen s x f limit own d wanted _ (type_of c (call n es)) (and_then (eval_all true own c es) (λ vs. call_named own (named c n) vs))
        (named_done d room wanted n es result (passed_by d room wanted n es result (named c n) h (λ top fits. all_done es top d fits room)) (named c n) refl (all_below c Int es) (all_below c Extern es) h _ _)
    call_done (table_call n i es) wanted result d h room =
        let p = and_parts _ _ h in
        let q = and_parts _ _ p.1 in
        let t = from_some (type_of c i) q.0 in
        table_done d room wanted n i es result (named c n) refl p.0 t.0 t.1 q.1 (value_done i (Some d) t.0 d t.1 room) (all_done es Int (suc d) (ints_of (named c n) (exprs_length es) result (all_below c Int es) p.0) (omega (arith, room)))
    call_done e wanted result d h room = absurd (cc h)
