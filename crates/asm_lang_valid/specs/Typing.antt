-- The types of expressions, and which statements and functions are typed (asm.js draft of 18 August 2014, sections 6.5 to 6.8).
use Rattle.std.specs.Prelude.{ℕ, suc, ◌+◌, ◌-◌, ◌*◌, ◌^◌, Bool, true, false, not, ◌&&◌, ◌||◌, List, [], ◌∷◌, length, Option, Some, None, ℤ, pos, negsuc, int_lt, int_le, nat_lt, nat_le, ◌==◌, bytes_eq, if◌then◌else◌, is_some, option_and_then, unsigned_abs}
use Rattle.sem_words.specs.declared.js_value.JsOp.{JsOp}
use Rattle.sem_words.specs.declared.js_value.JsOp.TheVariants.{Mul, Or, And, Sar}
use Rattle.asm_types.specs.declared.value_type.ValueType.{ValueType}
use Rattle.asm_types.specs.declared.value_type.ValueType.TheVariants.{Fixnum, Signed, Unsigned, Int, Intish, Extern}
use Rattle.asm_types.specs.Types.{is_below}
use Rattle.asm_types.specs.Rows.{row, binary_row_of, unary_row_of}
use Rattle.asm_lang.specs.Modules.{Expr, lit, decimal, var, index, call, table_call, assign, store, unary, binary, chain, cond, comma, Exprs, no_exprs, exprs, Links, no_links, links, Stmt, block, plain, empty, if_only, if_else, returns, while_loop, do_while, for_loop, breaks, continues, labelled, switches, Stmts, no_stmts, stmts, Clauses, no_clauses, clauses, Function, Module}
use Rattle.asm_lang_valid.specs.Scope.{shift_of, Builtin, Imul, Clz32, Meaning, an_int, a_foreign, a_builtin, a_view, a_function, a_table, meaning, Signature, signature_of, first_member}

-- the module, and the function whose body it is
pub record Scope : Type 0 where
  pub home : Module
  pub within : Function

abbrev pub named : Scope → List ℕ → Meaning
named c n = meaning c.home c.within n

-- ---- literals

abbrev pub literal_type : ℤ → Option ValueType
literal_type (pos n) = if nat_lt n (2 ^ 31) then Some Fixnum else row (nat_lt n (2 ^ 32)) Unsigned
literal_type (negsuc n) = row (nat_lt n (2 ^ 31)) Signed

abbrev pub is_literal : ℕ → Expr → Bool
is_literal n (lit (pos k)) = k == n
is_literal n _ = false

-- -2^20 < n < 2^20
abbrev pub is_factor : Expr → Bool
is_factor (lit v) = nat_lt (unsigned_abs v) (2 ^ 20)
is_factor _ = false

abbrev pub most_operators : ℕ
most_operators = 2 ^ 20

abbrev pub links_length : Links → ℕ
links_length no_links = 0
links_length (links minus e ls) = suc (links_length ls)

-- ---- operands

abbrev pub typed_below : ValueType → Option ValueType → Bool
typed_below top None = false
typed_below top (Some t) = is_below t top

abbrev pub is_int : Meaning → Bool
is_int an_int = true
is_int _ = false

-- the index of a view with elements of 2 ^ k bytes: a literal, `e >> k`, or for bytes also another one
abbrev pub literal_index : ℕ → ℤ → Bool
literal_index k (pos n) = nat_lt (n * 2 ^ k) (2 ^ 31)
literal_index k (negsuc n) = true

abbrev pub bare_index : ℕ → Option ValueType → Bool
bare_index k t = (k == 0) && (typed_below Signed t || typed_below Unsigned t)

abbrev pub index_form : ℕ → Expr → Option ValueType → Bool
index_form k (lit v) t = literal_index k v
index_form k (binary Sar e s) t = is_literal k s
index_form k i t = bare_index k t

abbrev pub index_fits : Meaning → Expr → Option ValueType → Bool
index_fits (a_view v) i t = is_some t && index_form (shift_of v) i t
index_fits _ i t = false

-- a product of an int and a literal below 2^20
abbrev pub product : Expr → Expr → Option ValueType → Option ValueType → Option ValueType
product l r a b = row (typed_below Int a && typed_below Int b && (is_factor l || is_factor r)) Intish

abbrev pub operated : JsOp → Expr → Expr → Option ValueType → Option ValueType → Option ValueType
operated Mul l r a b = product l r a b
operated op l r a b = option_and_then (λ s. option_and_then (λ t. binary_row_of op s t) b) a

-- the index of a table call is masked by the table's length less one
abbrev pub masked : ℕ → Expr → Bool
masked n (binary And e (lit (pos k))) = k + 1 == n
masked n _ = false

-- ---- calls

abbrev pub exprs_length : Exprs → ℕ
exprs_length no_exprs = 0
exprs_length (exprs e es) = suc (exprs_length es)

abbrev pub is_builtin : Meaning → Bool
is_builtin (a_builtin b) = true
is_builtin _ = false

-- a call that isn't one of the standard library
abbrev pub is_call : Scope → Expr → Bool
is_call c (call n es) = not (is_builtin (named c n))
is_call c (table_call n i es) = true
is_call c _ = false

abbrev pub same : Bool → Bool → Bool
same true b = b
same false b = not b

-- how many arguments there are, and whether a result is asked for
abbrev pub matches : Option Signature → ℕ → Bool → Bool
matches None k result = false
matches (Some s) k result = (k == s.params) && same result s.result

abbrev pub builtin_arguments : Builtin → ℕ
builtin_arguments Imul = 2
builtin_arguments Clz32 = 1

abbrev pub builtin_type : Builtin → ValueType
builtin_type Imul = Signed
builtin_type Clz32 = Fixnum

abbrev pub or_zero : JsOp → Expr → Bool
or_zero Or e = is_literal 0 e
or_zero _ e = false

-- the type of a call of the standard library, by how many arguments there are and whether all are ints
abbrev pub builtin_call : Meaning → ℕ → Bool → Option ValueType
builtin_call (a_builtin b) count ints = row ((count == builtin_arguments b) && ints) (builtin_type b)
builtin_call _ count ints = None

-- what fits the callee of this meaning: a function takes ints, a foreign one what may go out
abbrev pub callee_fits : Meaning → Bool → ℕ → Bool → Bool → Bool
callee_fits (a_function f) result count ints externs = matches (Some (signature_of f)) count result && ints
callee_fits (a_foreign p) result count ints externs = externs
callee_fits _ result count ints externs = false

abbrev pub table_fits : Module → Meaning → Bool → ℕ → Bool → Bool
table_fits m (a_table t) result count ints = matches (first_member m t.members) count result && ints
table_fits m _ result count ints = false

abbrev pub mask_fits : Meaning → Expr → Bool
mask_fits (a_table t) i = masked (length t.members) i
mask_fits _ i = false

abbrev mutual
  -- the type of an expression where no call may stand, if it has one
  pub type_of : Scope → Expr → Option ValueType
  type_of c (lit v) = literal_type v
  type_of c (decimal bs) = None
  type_of c (var n) = row (is_int (named c n)) Int
  type_of c (index n i) = row (index_fits (named c n) i (type_of c i)) Intish
  type_of c (call n es) = builtin_call (named c n) (exprs_length es) (all_below c Int es)
  type_of c (table_call n i es) = None
  type_of c (assign n e) = if is_int (named c n) && typed_below Int (type_of c e) then type_of c e else None
  type_of c (store n i e) = if index_fits (named c n) i (type_of c i) && typed_below Intish (type_of c e) then type_of c e else None
  type_of c (unary op e) = option_and_then (λ t. unary_row_of op t) (type_of c e)
  type_of c (binary op l r) = if is_call c l && or_zero op r then row (call_fits c true l) Signed else operated op l r (type_of c l) (type_of c r)
  type_of c (chain e ls) = row (typed_below Int (type_of c e) && links_fit c ls && nat_le (links_length ls) most_operators) Intish
  type_of c (cond e a b) = row (typed_below Int (type_of c e) && typed_below Int (type_of c a) && typed_below Int (type_of c b)) Int
  type_of c (comma es) = last_type c es

  -- expressions that are all of types below this one
  pub all_below : Scope → ValueType → Exprs → Bool
  all_below c top no_exprs = true
  all_below c top (exprs e es) = typed_below top (type_of c e) && all_below c top es

  pub links_fit : Scope → Links → Bool
  links_fit c no_links = true
  links_fit c (links minus e ls) = typed_below Int (type_of c e) && links_fit c ls

  -- a call with a result, which is signed, or without
  pub call_fits : Scope → Bool → Expr → Bool
  call_fits c result (call n es) = callee_fits (named c n) result (exprs_length es) (all_below c Int es) (all_below c Extern es)
  call_fits c result (table_call n i es) = table_fits c.home (named c n) result (exprs_length es) (all_below c Int es) && (is_some (type_of c i) && mask_fits (named c n) i)
  call_fits c result _ = false

  -- a comma has the type of its last part; before a comma a call without a result may stand
  pub last_type : Scope → Exprs → Option ValueType
  last_type c no_exprs = None
  last_type c (exprs e no_exprs) = type_of c e
  last_type c (exprs e (exprs x es)) = if (if is_call c e then call_fits c false e else is_some (type_of c e)) then last_type c (exprs x es) else None

-- an expression whose value isn't used, or a call without a result
abbrev pub effect_fits : Scope → Expr → Bool
effect_fits c e = if is_call c e then call_fits c false e else is_some (type_of c e)

-- ---- statements

pub record Label : Type 0 where
  pub text : List ℕ
  pub of_loop : Bool

-- what stands round a statement
pub record Around : Type 0 where
  pub in_breakable : Bool  -- a loop or a switch
  pub in_loop : Bool
  pub labels : List Label

abbrev pub at_top : Around
at_top = record { in_breakable = false; in_loop = false; labels = [] }

abbrev pub in_a_loop : Around → Around
in_a_loop a = record { in_breakable = true; in_loop = true; labels = a.labels }

abbrev pub in_a_switch : Around → Around
in_a_switch a = record { in_breakable = true; in_loop = a.in_loop; labels = a.labels }

abbrev pub has_label : List Label → List ℕ → Bool
has_label [] n = false
has_label (l ∷ ls) n = bytes_eq l.text n || has_label ls n

abbrev pub has_loop : List Label → List ℕ → Bool
has_loop [] n = false
has_loop (l ∷ ls) n = (bytes_eq l.text n && l.of_loop) || has_loop ls n

abbrev pub is_loop : Stmt → Bool
is_loop (while_loop c s) = true
is_loop (do_while s c) = true
is_loop (for_loop a b c s) = true
is_loop _ = false

abbrev pub labels_in : Bool → List (List ℕ) → List Label → List Label
labels_in loop [] around = around
labels_in loop (n ∷ ns) around = labels_in loop ns (record { text = n; of_loop = loop } ∷ around)

abbrev pub under_labels : List (List ℕ) → Stmt → Around → Around
under_labels ns s a = record { in_breakable = a.in_breakable; in_loop = a.in_loop; labels = labels_in (is_loop s) ns a.labels }

-- no label stands inside a statement of the same label
abbrev pub new_labels : List (List ℕ) → List Label → Bool
new_labels [] around = true
new_labels (n ∷ ns) around = not (has_label around n) && new_labels ns (record { text = n; of_loop = false } ∷ around)

abbrev pub break_fits : Around → Option (List ℕ) → Bool
break_fits a None = a.in_breakable
break_fits a (Some n) = has_label a.labels n

abbrev pub continue_fits : Around → Option (List ℕ) → Bool
continue_fits a None = a.in_loop
continue_fits a (Some n) = has_loop a.labels n

-- the values of the cases
abbrev pub values : Clauses → List ℤ
values no_clauses = []
values (clauses None ss cs) = values cs
values (clauses (Some v) ss cs) = v ∷ values cs

abbrev pub is_value : ℤ → List ℤ → Bool
is_value v [] = false
is_value v (u ∷ us) = (int_le u v && int_le v u) || is_value v us

abbrev pub distinct : List ℤ → Bool
distinct [] = true
distinct (v ∷ vs) = not (is_value v vs) && distinct vs

-- each value lies in [-2^31, 2^31)
abbrev pub in_range : List ℤ → Bool
in_range [] = true
in_range (v ∷ vs) = int_le (negsuc (2 ^ 31 - 1)) v && int_lt v (pos (2 ^ 31)) && in_range vs

-- no two of them are 2^31 or more apart
abbrev pub near : ℤ → List ℤ → Bool
near v [] = true
near v (u ∷ us) = nat_lt (apart v u) (2 ^ 31) && near v us
  where
    apart : ℤ → ℤ → ℕ
    apart (pos a) (pos b) = (a - b) + (b - a)
    apart (pos a) (negsuc b) = a + b + 1
    apart (negsuc a) (pos b) = a + b + 1
    apart (negsuc a) (negsuc b) = (a - b) + (b - a)

abbrev pub close_together : List ℤ → Bool
close_together [] = true
close_together (v ∷ vs) = near v vs && close_together vs

abbrev pub cases_fit : Clauses → Bool
cases_fit cs = distinct (values cs) && in_range (values cs) && close_together (values cs)

abbrev pub condition_fits : Scope → Option Expr → Bool
condition_fits c None = true
condition_fits c (Some e) = typed_below Int (type_of c e)

abbrev pub part_fits : Scope → Option Expr → Bool
part_fits c None = true
part_fits c (Some e) = effect_fits c e

abbrev pub result_of : Scope → Bool
result_of c = (signature_of c.within).result

abbrev pub return_fits : Scope → Option Expr → Bool
return_fits c None = not (result_of c)
return_fits c (Some e) = result_of c && typed_below Signed (type_of c e)

abbrev mutual
  pub typed : Scope → Around → Stmt → Bool
  typed c a (block ss) = all_typed c a ss
  typed c a (plain e) = effect_fits c e
  typed c a empty = true
  typed c a (if_only e s) = condition_fits c (Some e) && typed c a s
  typed c a (if_else e s r) = condition_fits c (Some e) && typed c a s && typed c a r
  typed c a (returns o) = return_fits c o
  typed c a (while_loop e s) = condition_fits c (Some e) && typed c (in_a_loop a) s
  typed c a (do_while s e) = typed c (in_a_loop a) s && condition_fits c (Some e)
  typed c a (for_loop x y z s) = part_fits c x && condition_fits c y && part_fits c z && typed c (in_a_loop a) s
  typed c a (breaks l) = break_fits a l
  typed c a (continues l) = continue_fits a l
  typed c a (labelled ls s) = new_labels ls a.labels && typed c (under_labels ls s a) s
  typed c a (switches e cs) = typed_below Signed (type_of c e) && cases_fit cs && clauses_typed c (in_a_switch a) cs

  pub all_typed : Scope → Around → Stmts → Bool
  all_typed c a no_stmts = true
  all_typed c a (stmts s ss) = typed c a s && all_typed c a ss

  pub clauses_typed : Scope → Around → Clauses → Bool
  clauses_typed c a no_clauses = true
  clauses_typed c a (clauses v ss cs) = all_typed c a ss && clauses_typed c a cs
