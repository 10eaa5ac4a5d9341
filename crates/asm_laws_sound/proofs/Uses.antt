-- What is typed uses names rightly, by induction on the code.
use Rattle.std.proofs.Common.{◌≡◌, ℕ, ◌+◌, Bool, true, false, ◌&&◌, ◌||◌, List, [], ◌∷◌, ◌++◌, Option, Some, None, option_and_then, is_some, refl}
use Rattle.std.proofs.lemmas.Bool.{and_parts}
use Rattle.std.specs.List.{AllByRecursion}
use Rattle.std.specs.Prelude.{if◌then◌else◌}
use Rattle.sem_words.specs.declared.js_value.JsOp.{JsOp}
use Rattle.sem_words.specs.declared.js_value.JsOp.TheVariants.{Mul, Or}
use Rattle.asm_types.specs.declared.value_type.ValueType.{ValueType}
use Rattle.asm_types.specs.declared.value_type.ValueType.TheVariants.{Signed, Int, Intish, Extern}
use Rattle.asm_types.specs.Rows.{row}
use Rattle.asm_lang.specs.Modules.{Expr, lit, decimal, var, index, call, table_call, assign, store, unary, binary, chain, cond, comma, Exprs, no_exprs, exprs, Links, no_links, links, Stmt, block, plain, empty, if_only, if_else, returns, while_loop, do_while, for_loop, breaks, continues, labelled, switches, Stmts, no_stmts, stmts, Clauses, no_clauses, clauses, Function, Module}
use Rattle.asm_lang_valid.specs.Scope.{Meaning, an_int, a_foreign, a_builtin, a_view, a_function, a_table}
use Rattle.asm_lang_valid.specs.declared.rule.Met.{Met}
use Rattle.asm_lang_valid.specs.Rows.{expr_count, option_count, stmt_count, stmts_count}
use Rattle.asm_lang_valid.specs.Typing.{Scope, named, Around, at_top, in_a_loop, in_a_switch, under_labels, is_int, is_factor, typed_below, index_fits, operated, is_call, or_zero, builtin_call, callee_fits, table_fits, exprs_length, type_of, all_below, links_fit, call_fits, last_type, condition_fits, part_fits, return_fits, typed, all_typed, clauses_typed}
use Rattle.asm_lang_valid.specs.Typed.{scope_of, functions_typed}
use Rattle.asm_lang_valid.specs.NameRows.{uses, as_variable, as_view, as_callee, as_table, expr_names, exprs_names, links_names, option_names, stmt_names, stmts_names, clauses_names}
use Rattle.asm_laws_sound.specs.UsesLaws.{ExpressionsUseNames, EffectsUseNames, StatementsUseNames, BodyUsesNames, FunctionsUseNames}

-- ---- lists of rows

none : (a b : List Met) → a ≡ [] → b ≡ [] → a ++ b ≡ []
none a b g h = rw g h

none_of_three : (a b d : List Met) → a ≡ [] → b ≡ [] → d ≡ [] → a ++ (b ++ d) ≡ []
none_of_three a b d g h i = none a (b ++ d) g (none b d h i)

-- ---- what tests say

some_row : (b : Bool) (t : ValueType) → is_some (row b t) ≡ true → b ≡ true
some_row true t h = refl
some_row false t h = absurd (cc h)

some_if : (b : Bool) (o : Option ValueType) → is_some (if b then o else None) ≡ true → b ≡ true
some_if true o h = refl
some_if false o h = absurd (cc h)

some_then : (b : Bool) (o : Option ValueType) → is_some (if b then o else None) ≡ true → is_some o ≡ true
some_then true o h = h
some_then false o h = absurd (cc h)

some_below : (top : ValueType) (o : Option ValueType) → typed_below top o ≡ true → is_some o ≡ true
some_below top (Some t) h = refl
some_below top None h = absurd (cc h)

some_bind : (k : ValueType → Option ValueType) (o : Option ValueType) → is_some (option_and_then k o) ≡ true → is_some o ≡ true
some_bind k (Some t) h = refl
some_bind k None h = absurd (cc h)

some_bound : (k : ValueType → Option ValueType) (o : Option ValueType) → is_some (option_and_then k o) ≡ true → (t : ValueType) × (is_some (k t) ≡ true)
some_bound k (Some t) h = (t, h)
some_bound k None h = absurd (cc h)

both_below : (a b : Option ValueType) (x : Bool) → is_some (row (typed_below Int a && typed_below Int b && x) Intish) ≡ true → (is_some a ≡ true) × (is_some b ≡ true)
both_below a b x h =
    let p = and_parts _ _ (and_parts _ _ (some_row _ Intish h)).0 in
    (some_below Int a p.0, some_below Int b p.1)

operands_have_types : (op : JsOp) (l r : Expr) (a b : Option ValueType) → is_some (operated op l r a b) ≡ true → (is_some a ≡ true) × (is_some b ≡ true)
operands_have_types op l r (Some s) (Some u) h = (refl, refl)
operands_have_types Mul l r a b h = both_below a b (is_factor l || is_factor r) h
operands_have_types op l r None b h = absurd (cc h)
operands_have_types op l r (Some s) None h = absurd (cc h)

index_type : (mm : Meaning) (i : Expr) (o : Option ValueType) → index_fits mm i o ≡ true → is_some o ≡ true
index_type (a_view v) i o h = (and_parts _ _ h).0
index_type _ i o h = absurd (cc h)

-- ---- the name itself

int_used : (mm : Meaning) (at : ℕ) → is_int mm ≡ true → uses mm (as_variable mm) at ≡ []
int_used an_int at h = refl
int_used _ at h = absurd (cc h)

view_used : (mm : Meaning) (i : Expr) (o : Option ValueType) (at : ℕ) → index_fits mm i o ≡ true → uses mm (as_view mm) at ≡ []
view_used (a_view v) i o at h = refl
view_used _ i o at h = absurd (cc h)

builtin_used : (mm : Meaning) (n : ℕ) (b : Bool) (at : ℕ) → is_some (builtin_call mm n b) ≡ true → uses mm (as_callee mm) at ≡ []
builtin_used (a_builtin f) n b at h = refl
builtin_used _ n b at h = absurd (cc h)

builtin_arguments : (mm : Meaning) (n : ℕ) (b : Bool) → is_some (builtin_call mm n b) ≡ true → b ≡ true
builtin_arguments (a_builtin f) n b h = (and_parts _ _ (some_row _ _ h)).1
builtin_arguments _ n b h = absurd (cc h)

callee_used : (mm : Meaning) (result : Bool) (n : ℕ) (b d : Bool) (at : ℕ) → callee_fits mm result n b d ≡ true → uses mm (as_callee mm) at ≡ []
callee_used (a_function f) result n b d at h = refl
callee_used (a_foreign p) result n b d at h = refl
callee_used _ result n b d at h = absurd (cc h)

table_used : (m : Module) (mm : Meaning) (result : Bool) (n : ℕ) (b : Bool) (at : ℕ) → table_fits m mm result n b ≡ true → uses mm (as_table mm) at ≡ []
table_used m (a_table t) result n b at h = refl
table_used m _ result n b at h = absurd (cc h)

table_arguments : (m : Module) (mm : Meaning) (result : Bool) (n : ℕ) (b : Bool) → table_fits m mm result n b ≡ true → b ≡ true
table_arguments m (a_table t) result n b h = (and_parts _ _ h).1
table_arguments m _ result n b h = absurd (cc h)

callee_arguments : {N : Type 0} (mm : Meaning) (result : Bool) (n : ℕ) (b d : Bool) → callee_fits mm result n b d ≡ true → (b ≡ true → N) → (d ≡ true → N) → N
callee_arguments (a_function f) result n b d h ints externs = ints (and_parts _ _ h).1
callee_arguments (a_foreign p) result n b d h ints externs = externs h
callee_arguments _ result n b d h ints externs = absurd (cc h)

-- ---- expressions

either : {N : Type 0} (b p q : Bool) → (if b then p else q) ≡ true → (p ≡ true → N) → (q ≡ true → N) → N
either true p q h left right = left h
either false p q h left right = right h

zero_names : (c : Scope) (op : JsOp) (r : Expr) (at : ℕ) → or_zero op r ≡ true → expr_names c at r ≡ []
zero_names c Or (lit v) at h = refl
zero_names c Or r at h = absurd (cc h)
zero_names c _ r at h = absurd (cc h)

binary_names : (c : Scope) (op : JsOp) (l r : Expr) (at : ℕ) (b : Bool) → (is_call c l && or_zero op r) ≡ b
    → is_some (if b then row (call_fits c true l) Signed else operated op l r (type_of c l) (type_of c r)) ≡ true
    → (call_fits c true l ≡ true → expr_names c (at + 1) l ≡ []) → (is_some (type_of c l) ≡ true → expr_names c (at + 1) l ≡ [])
    → (is_some (type_of c r) ≡ true → expr_names c (at + 1 + expr_count l) r ≡ []) → expr_names c at (binary op l r) ≡ []
binary_names c op l r at true e h called left right = none _ _ (called (some_row _ Signed h)) (zero_names c op r (at + 1 + expr_count l) (and_parts _ _ e).1)
binary_names c op l r at false e h called left right =
    let p = operands_have_types op l r (type_of c l) (type_of c r) h in
    none _ _ (left p.0) (right p.1)

mutual
  expression : (c : Scope) (e : Expr) (at : ℕ) → is_some (type_of c e) ≡ true → expr_names c at e ≡ []
  expression c (lit v) at h = refl
  expression c (decimal bs) at h = refl
  expression c (var n) at h = int_used (named c n) at (some_row _ Int h)
  expression c (index n i) at h =
      let f = some_row _ Intish h in
      none _ _ (expression c i (at + 1) (index_type (named c n) i _ f)) (view_used (named c n) i (type_of c i) at f)
  expression c (call n es) at h =
      none _ _ (arguments c Int es (at + 1) (builtin_arguments (named c n) (exprs_length es) _ h)) (builtin_used (named c n) (exprs_length es) (all_below c Int es) at h)
  expression c (table_call n i es) at h = absurd (cc h)
  expression c (assign n e) at h =
      let p = and_parts _ _ (some_if _ _ h) in
      none _ _ (expression c e (at + 1) (some_below Int _ p.1)) (int_used (named c n) at p.0)
  expression c (store n i e) at h =
      let p = and_parts _ _ (some_if _ _ h) in
      none_of_three _ _ _ (expression c i (at + 1) (index_type (named c n) i _ p.0)) (expression c e (at + 1 + expr_count i) (some_below Intish _ p.1)) (view_used (named c n) i (type_of c i) at p.0)
  expression c (unary op e) at h = expression c e (at + 1) (some_bind _ _ h)
  expression c (binary op l r) at h =
      binary_names c op l r at (is_call c l && or_zero op r) refl h (λ k. a_call c true l (at + 1) k) (λ k. expression c l (at + 1) k) (λ k. expression c r (at + 1 + expr_count l) k)
  expression c (chain e ls) at h =
      let p = and_parts _ _ (and_parts _ _ (some_row _ Intish h)).0 in
      none _ _ (expression c e (at + 1) (some_below Int _ p.0)) (parts c ls (at + 1 + expr_count e) p.1)
  expression c (cond e a b) at h =
      let p = and_parts _ _ (some_row _ Int h) in
      let q = and_parts _ _ p.0 in
      none_of_three _ _ _ (expression c e (at + 1) (some_below Int _ q.0)) (expression c a (at + 1 + expr_count e) (some_below Int _ q.1)) (expression c b (at + 1 + expr_count e + expr_count a) (some_below Int _ p.1))
  expression c (comma es) at h = last c es (at + 1) h

  arguments : (c : Scope) (top : ValueType) (es : Exprs) (at : ℕ) → all_below c top es ≡ true → exprs_names c at es ≡ []
  arguments c top no_exprs at h = refl
  arguments c top (exprs e es) at h =
      let p = and_parts _ _ h in
      none _ _ (expression c e at (some_below top _ p.0)) (arguments c top es (at + expr_count e) p.1)

  parts : (c : Scope) (ls : Links) (at : ℕ) → links_fit c ls ≡ true → links_names c at ls ≡ []
  parts c no_links at h = refl
  parts c (links minus e ls) at h =
      let p = and_parts _ _ h in
      none _ _ (expression c e at (some_below Int _ p.0)) (parts c ls (at + expr_count e) p.1)

  a_call : (c : Scope) (result : Bool) (e : Expr) (at : ℕ) → call_fits c result e ≡ true → expr_names c at e ≡ []
  a_call c result (call n es) at h =
      none _ _ (callee_arguments (named c n) result (exprs_length es) (all_below c Int es) (all_below c Extern es) h (λ k. arguments c Int es (at + 1) k) (λ k. arguments c Extern es (at + 1) k)) (callee_used (named c n) result (exprs_length es) _ _ at h)
  a_call c result (table_call n i es) at h =
      let p = and_parts _ _ h in
      none_of_three _ _ _ (expression c i (at + 1) (and_parts _ _ p.1).0) (arguments c Int es (at + 1 + expr_count i) (table_arguments c.home (named c n) result (exprs_length es) _ p.0)) (table_used c.home (named c n) result (exprs_length es) _ at p.0)
  a_call c result e at h = absurd (cc h)

  last : (c : Scope) (es : Exprs) (at : ℕ) → is_some (last_type c es) ≡ true → exprs_names c at es ≡ []
  last c no_exprs at h = refl
  last c (exprs e no_exprs) at h = none _ _ (expression c e at h) refl
  last c (exprs e (exprs x es)) at h = none _ _ (either (is_call c e) (call_fits c false e) (is_some (type_of c e)) (some_if _ _ h) (λ k. a_call c false e at k) (λ k. expression c e at k)) (last c (exprs x es) (at + expr_count e) (some_then _ _ h))

pub expressions_use_names : ExpressionsUseNames
expressions_use_names = expression

pub effects_use_names : EffectsUseNames
effects_use_names c e at h = either (is_call c e) (call_fits c false e) (is_some (type_of c e)) h (λ k. a_call c false e at k) (λ k. expression c e at k)

-- ---- statements

condition : (c : Scope) (o : Option Expr) (at : ℕ) → condition_fits c o ≡ true → option_names c at o ≡ []
condition c None at h = refl
condition c (Some e) at h = expression c e at (some_below Int _ h)

part : (c : Scope) (o : Option Expr) (at : ℕ) → part_fits c o ≡ true → option_names c at o ≡ []
part c None at h = refl
part c (Some e) at h = effects_use_names c e at h

returned : (c : Scope) (o : Option Expr) (at : ℕ) → return_fits c o ≡ true → option_names c at o ≡ []
returned c None at h = refl
returned c (Some e) at h = expression c e at (some_below Signed _ (and_parts _ _ h).1)

mutual
  statement : (c : Scope) (a : Around) (s : Stmt) (at : ℕ) → typed c a s ≡ true → stmt_names c at s ≡ []
  statement c a (block ss) at h = statements c a ss (at + 1) h
  statement c a (plain e) at h = effects_use_names c e (at + 1) h
  statement c a empty at h = refl
  statement c a (if_only e s) at h =
      let p = and_parts _ _ h in
      none _ _ (condition c (Some e) (at + 1) p.0) (statement c a s (at + 1 + expr_count e) p.1)
  statement c a (if_else e s r) at h =
      let p = and_parts _ _ h in
      let q = and_parts _ _ p.0 in
      none_of_three _ _ _ (condition c (Some e) (at + 1) q.0) (statement c a s (at + 1 + expr_count e) q.1) (statement c a r (at + 1 + expr_count e + stmt_count s) p.1)
  statement c a (returns o) at h = returned c o (at + 1) h
  statement c a (while_loop e s) at h =
      let p = and_parts _ _ h in
      none _ _ (condition c (Some e) (at + 1) p.0) (statement c (in_a_loop a) s (at + 1 + expr_count e) p.1)
  statement c a (do_while s e) at h =
      let p = and_parts _ _ h in
      none _ _ (statement c (in_a_loop a) s (at + 1) p.0) (condition c (Some e) (at + 1 + stmt_count s) p.1)
  statement c a (for_loop x y z s) at h =
      let p = and_parts _ _ h in
      let q = and_parts _ _ p.0 in
      let r = and_parts _ _ q.0 in
      none _ _ (part c x (at + 1) r.0)
      (none_of_three _ _ _ (condition c y (at + 1 + option_count x) r.1) (part c z (at + 1 + option_count x + option_count y) q.1)
      (statement c (in_a_loop a) s (at + 1 + option_count x + option_count y + option_count z) p.1))
  statement c a (breaks l) at h = refl
  statement c a (continues l) at h = refl
  statement c a (labelled ls s) at h = statement c (under_labels ls s a) s (at + 1) (and_parts _ _ h).1
  statement c a (switches e cs) at h =
      let p = and_parts _ _ h in
      none _ _ (expression c e (at + 1) (some_below Signed _ (and_parts _ _ p.0).0)) (cases c (in_a_switch a) cs (at + 1 + expr_count e) p.1)

  statements : (c : Scope) (a : Around) (ss : Stmts) (at : ℕ) → all_typed c a ss ≡ true → stmts_names c at ss ≡ []
  statements c a no_stmts at h = refl
  statements c a (stmts s ss) at h =
      let p = and_parts _ _ h in
      none _ _ (statement c a s at p.0) (statements c a ss (at + stmt_count s) p.1)

  cases : (c : Scope) (a : Around) (cs : Clauses) (at : ℕ) → clauses_typed c a cs ≡ true → clauses_names c at cs ≡ []
  cases c a no_clauses at h = refl
  cases c a (clauses v ss cs) at h =
      let p = and_parts _ _ h in
      none _ _ (statements c a ss at p.0) (cases c a cs (at + stmts_count ss) p.1)

pub statements_use_names : StatementsUseNames
statements_use_names = statement

-- ---- functions

bodies : (m : Module) (fs : List Function) → functions_typed m fs ≡ true → AllByRecursion (BodyUsesNames m) fs
bodies m [] h = tt
bodies m (f ∷ fs) h =
    let p = and_parts _ _ h in
    (λ at. statements (scope_of m f) at_top f.body at (and_parts _ _ p.0).1, bodies m fs p.1)

pub functions_use_names : FunctionsUseNames
functions_use_names m h = bodies m m.functions h
