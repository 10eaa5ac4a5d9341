-- The functions and tables that names of an accepted module stand for are typed, and each table has an entry at each masked index.
use Rattle.std.proofs.Common.{◌≡◌, ℕ, zero, suc, ◌+◌, ◌<◌, ◌≤◌, ◌^◌, ◌%◌, Bool, true, false, ◌&&◌, List, [], ◌∷◌, ◌++◌, length, Option, Some, None, pos, slice_get, refl, sym, ◌∙◌, subst, arith}
use Rattle.std.proofs.lemmas.Bool.{and_parts, eqb-true, leb-true}
use Rattle.std.proofs.lemmas.Bool.Decides.{nat_tests}
use Rattle.std.proofs.lemmas.Int.{ints}
use Rattle.std.proofs.lemmas.Nat.{and_le_r}
use Rattle.std.specs.Prelude.{nat_lt, nat_le, codes, bytes_eq, bit_and, if◌then◌else◌}
use Rattle.sem_words.specs.declared.js_value.JsValue.{JsValue}
use Rattle.sem_words.specs.declared.js_value.JsValue.TheVariants.{Whole}
use Rattle.sem_words.specs.declared.js_value.JsOp.TheVariants.{And}
use Rattle.sem_words.specs.JsValues.{to_uint32_of}
use Rattle.sem_words.specs.JsOperators.{js_binary_of, signed_value}
use Rattle.asm_lang.specs.Trees.{Init, number, decimal, foreign_int, foreign_double, member, math, view}
use Rattle.asm_lang.specs.Modules.{Variable, Function, Table, Module}
use Rattle.asm_lang_valid.specs.declared.meaning.Element.{Element}
use Rattle.asm_lang_valid.specs.declared.meaning.Builtin.TheVariants.{Imul, Clz32}
use Rattle.asm_lang_valid.specs.Scope.{is_foreign, Meaning, nothing, an_int, an_outside, a_foreign, a_builtin, a_view, a_function, a_table, a_parameter, Constructor, constructors, constructor_in, viewed, init_meaning, among_globals, among_functions, among_tables, is_in, module_meaning, meaning, Signature, function_signature, first_member}
use Rattle.asm_lang_valid.specs.Typing.{matches}
use Rattle.asm_lang_valid.specs.Typed.{function_typed, functions_typed, same_signature, all_alike, alike, table_typed, tables_typed, module_typed}
use Rattle.asm_lang_valid.specs.Rows.{need, functions_at, tables_at}
use Rattle.asm_lang_valid.specs.declared.rule.Rule.TheVariants.{PastLimit}
use Rattle.asm_lang_valid.specs.NameRows.{name_rows}
use Rattle.asm_lang_valid.specs.TypeRows.{type_rows}
use Rattle.asm_lang_valid.specs.LimitRows.{Mark, a_row, a_use, ForeignCall, rows_of, most_members, most_entries, globals_marks, functions_marks, tables_marks, is_among, rows_after, limit_rows, most_foreign_calls}
use Rattle.asm_lang_valid.specs.Refusal.{all_rows, IsAccepted}
use Rattle.asm_lang_valid.proofs.Agree.{iff, module_agrees, first_none, none_both}
use Rattle.asm_lang_exec.specs.Values.{function_of, entry_of}
use Rattle.asm_laws_sound.proofs.Names.{kind_in, of_kind, kinds_of, name_meaning}

-- ---- the limit on the length of a table

abbrev pub Short : List Table → Type 0
Short [] = Unit {0}
Short (t ∷ ts) = (length t.members ≤ 65536) × Short ts

-- rows of later marks are rows after something was seen
rows_behind : (xs ys : List Mark) (seen : List ForeignCall) → rows_after seen (xs ++ ys) ≡ [] → (later : List ForeignCall) × (rows_after later ys ≡ [])
rows_behind [] ys seen h = (seen, h)
rows_behind (a_row x ∷ xs) ys seen h = absurd (cc h)
rows_behind (a_use f at ∷ xs) ys seen h = by (is_among f seen) (rows_behind xs ys seen) (rows_behind xs ys (seen ++ f ∷ [])) h
  where
    by : (b : Bool) → (rows_after seen (xs ++ ys) ≡ [] → (later : List ForeignCall) × (rows_after later ys ≡ [])) → (rows_after (seen ++ f ∷ []) (xs ++ ys) ≡ [] → (later : List ForeignCall) × (rows_after later ys ≡ []))
        → (if b then rows_after seen (xs ++ ys) else need (nat_lt (length seen) most_foreign_calls) PastLimit at ++ rows_after (seen ++ f ∷ []) (xs ++ ys)) ≡ [] → (later : List ForeignCall) × (rows_after later ys ≡ [])
    by true first second h = first h
    by false first second h = second ((none_both (need (nat_lt (length seen) most_foreign_calls) PastLimit at) (rows_after (seen ++ f ∷ []) (xs ++ ys))).0 h).1

tables_short : (ts : List Table) (before at : ℕ) (seen : List ForeignCall) → rows_after seen (tables_marks before at ts) ≡ [] → Short ts
tables_short [] before at seen h = tt
tables_short (t ∷ ts) before at seen h =
    by (nat_le (length t.members) most_members && nat_le (before + length t.members) most_entries) refl (tables_short ts (before + length t.members) (at + 1) seen) h
  where
    by : (b : Bool) → (nat_le (length t.members) most_members && nat_le (before + length t.members) most_entries) ≡ b → (rows_after seen (tables_marks (before + length t.members) (at + 1) ts) ≡ [] → Short ts)
        → rows_after seen (rows_of (need b PastLimit at) ++ tables_marks (before + length t.members) (at + 1) ts) ≡ [] → Short (t ∷ ts)
    by true e rest h = (leb-true (length t.members) 65536 (and_parts _ _ e).0, rest h)
    by false e rest h = absurd (cc h)

-- what is used of an accepted module
pub record Typed (m : Module) : Type 0 where
  pub typed : module_typed m ≡ true
  pub short : Short m.tables

pub accepted_is_typed : (m : Module) → IsAccepted m → Typed m
accepted_is_typed m h =
    let a = (none_both (name_rows m) (type_rows m ++ limit_rows m)).0 ((first_none (all_rows m)).0 h) in
    let b = (none_both (type_rows m) (limit_rows m)).0 a.1 in
    let fs = functions_marks m 0 (functions_at m) m.functions in
    let ts = tables_marks 0 (tables_at m) m.tables in
    let c = rows_behind (globals_marks m 0 1 m.globals) (fs ++ ts) [] b.1 in
    let d = rows_behind fs ts c.0 c.1 in
    record { typed = (iff (type_rows m) (module_typed m) (module_agrees m)).0 b.0; short = tables_short m.tables 0 (tables_at m) d.0 d.1 }

-- ---- what a name stands for

module _ (m : Module) where
  abbrev pub Good : Meaning → Type 0
  Good (a_function f) = function_typed m f ≡ true
  Good (a_table t) = (table_typed m t ≡ true) × (length t.members ≤ 65536)
  Good _ = Unit {0}

  good_view : (o : Option Constructor) → Good (viewed o)
  good_view None = tt
  good_view (Some c) = by c.element
    where
      by : (e : Option Element) → Good (viewed (Some (record c { element = e })))
      by None = tt
      by (Some e) = tt

  good_init : (i : Init) → Good (init_meaning m i)
  good_init (number z) = tt
  good_init (decimal bs) = tt
  good_init (foreign_int f p) = tt
  good_init (foreign_double f p) = tt
  good_init (member f p) = by (is_foreign m f)
    where
      by : (b : Bool) → Good (if b then a_foreign p else an_outside)
      by true = tt
      by false = tt
  good_init (math f p) = by (bytes_eq (codes "imul") p) (bytes_eq (codes "clz32") p)
    where
      by : (a b : Bool) → Good (if a then a_builtin Imul else (if b then a_builtin Clz32 else an_outside))
      by true b = tt
      by false true = tt
      by false false = tt
  good_init (view f p b) = good_view (constructor_in constructors p)

  good_tables : (ts : List Table) (n : List ℕ) → tables_typed m ts ≡ true → Short ts → Good (among_tables ts n)
  good_tables [] n h s = tt
  good_tables (t ∷ ts) n h s = let p = and_parts _ _ h in by (bytes_eq t.name n) p.0 (good_tables ts n p.1 s.1)
    where
      by : (b : Bool) → table_typed m t ≡ true → Good (among_tables ts n) → Good (if b then a_table t else among_tables ts n)
      by true e rest = (e, s.0)
      by false e rest = rest

  good_functions : (fs : List Function) (n : List ℕ) (o : Meaning) → functions_typed m fs ≡ true → Good o → Good (among_functions fs n o)
  good_functions [] n o h g = g
  good_functions (f ∷ fs) n o h g = let p = and_parts _ _ h in by (bytes_eq f.name n) p.0 (good_functions fs n o p.1 g)
    where
      by : (b : Bool) → function_typed m f ≡ true → Good (among_functions fs n o) → Good (if b then a_function f else among_functions fs n o)
      by true e rest = e
      by false e rest = rest

  good_globals : (vs : List Variable) (n : List ℕ) (o : Meaning) → Good o → Good (among_globals m vs n o)
  good_globals [] n o g = g
  good_globals (v ∷ vs) n o g = by (bytes_eq v.name n) (good_globals vs n o g)
    where
      by : (b : Bool) → Good (among_globals m vs n o) → Good (if b then init_meaning m v.init else among_globals m vs n o)
      by true rest = good_init v.init
      by false rest = rest

  pub good_in_module : Typed m → (n : List ℕ) → Good (module_meaning m n)
  good_in_module t n = by (is_in n m.params)
    where
      by : (b : Bool) → Good (if b then a_parameter else among_globals m m.globals n (among_functions m.functions n (among_tables m.tables n)))
      by true = tt
      by false =
          let p = and_parts _ _ t.typed in
          let q = and_parts _ _ p.0 in
          good_globals m.globals n _ (good_functions m.functions n _ q.1 (good_tables m.tables n p.1 t.short))

  pub good_name : Typed m → (f : Function) (n : List ℕ) → Good (meaning m f n)
  good_name t f n = subst Good (sym (name_meaning m f n)) (by (kind_in n (kinds_of f)))
    where
      by : (o : Option Bool) → Good (of_kind o (module_meaning m n))
      by None = good_in_module t n
      by (Some true) = tt
      by (Some false) = tt

  -- ---- functions by number

  typed_at : (fs : List Function) → functions_typed m fs ≡ true → (i : ℕ) (f : Function) → slice_get fs i ≡ Some f → function_typed m f ≡ true
  typed_at [] h i f e = absurd (cc e)
  typed_at (g ∷ gs) h zero f e = let s : g ≡ f = cc e in let p = and_parts _ _ h in subst (λ f. function_typed m f ≡ true) s p.0
  typed_at (g ∷ gs) h (suc i) f e = typed_at gs (and_parts _ _ h).1 i f e

  pub function_at : Typed m → (i : ℕ) (f : Function) → slice_get m.functions i ≡ Some f → function_typed m f ≡ true
  function_at t i f e = typed_at m.functions (and_parts _ _ (and_parts _ _ t.typed).0).1 i f e

  -- ---- entries of tables

  member_alike : (ns : List (List ℕ)) (s : Option Signature) → all_alike m s ns ≡ true → (j : ℕ) → j < length ns → (n : List ℕ) × (slice_get ns j ≡ Some n) × (same_signature s (function_signature (module_meaning m n)) ≡ true)
  member_alike [] s h j l = absurd (omega (arith, l))
  member_alike (n ∷ ns) s h zero l = (n, refl, (and_parts _ _ h).0)
  member_alike (n ∷ ns) s h (suc j) l = member_alike ns s (and_parts _ _ h).1 j (omega (arith, l))

  first_alike : (ns : List (List ℕ)) → alike m ns ≡ true → all_alike m (first_member m ns) ns ≡ true
  first_alike [] h = refl
  first_alike (n ∷ ns) h = h

  -- a function that takes so many arguments
  pub record Callee (count : ℕ) (o : Option Function) : Type 0 where
    pub function : Function
    pub is : o ≡ Some function
    pub is_typed : function_typed m function ≡ true
    pub many : count ≡ length function.params

  callee_of : (mm : Meaning) (s : Option Signature) (count : ℕ) (result : Bool) → Good mm → matches s count result ≡ true → same_signature s (function_signature mm) ≡ true → Callee count (function_of mm)
  callee_of mm None count result g h e = absurd (cc h)
  callee_of (a_function f) (Some s) count result g h e =
      let c = eqb-true count s.params (and_parts _ _ h).0 in
      let p = eqb-true s.params (length f.params) (and_parts _ _ e).0 in
      record { function = f; is = refl; is_typed = g; many = c ∙ p }
  callee_of nothing (Some s) count result g h e = absurd (cc e)
  callee_of an_int (Some s) count result g h e = absurd (cc e)
  callee_of an_outside (Some s) count result g h e = absurd (cc e)
  callee_of (a_foreign p) (Some s) count result g h e = absurd (cc e)
  callee_of (a_builtin b) (Some s) count result g h e = absurd (cc e)
  callee_of (a_view v) (Some s) count result g h e = absurd (cc e)
  callee_of (a_table t) (Some s) count result g h e = absurd (cc e)
  callee_of a_parameter (Some s) count result g h e = absurd (cc e)

  pub table_entry : Typed m → (t : Table) (count : ℕ) (result : Bool) → table_typed m t ≡ true → matches (first_member m t.members) count result ≡ true → (x : JsValue) (j : ℕ) → x ≡ Whole (pos j) → j < length t.members → Callee count (entry_of m (a_table t) x)
  table_entry ok t count result h s x j e l =
      let a = member_alike t.members (first_member m t.members) (first_alike t.members (and_parts _ _ h).1) j l in
      let c = callee_of (module_meaning m a.0) (first_member m t.members) count result (good_in_module ok a.0) s a.2 in
      rw (e, a.1) c

-- ---- masked indices

masked_small : (a k : ℕ) → bit_and a (k % 2 ^ 32) ≤ k → k < 65536 → (j : ℕ) × (signed_value (bit_and a (k % 2 ^ 32)) ≡ Whole (pos j)) × (j ≤ k)
masked_small a k h l = (bit_and a (k % 2 ^ 32), grind (arith, ints, nat_tests), h)

pub masked_index : (v x : JsValue) (k : ℕ) → js_binary_of And v (Whole (pos k)) ≡ Some x → k < 65536 → (j : ℕ) × (x ≡ Whole (pos j)) × (j ≤ k)
masked_index v x k e l =
    let le = and_le_r (to_uint32_of v) (k % 2 ^ 32) in
    let s = masked_small (to_uint32_of v) k (omega (arith, le)) l in
    let q : signed_value (bit_and (to_uint32_of v) (k % 2 ^ 32)) ≡ x = cc e in
    (s.0, sym q ∙ s.1, s.2)
