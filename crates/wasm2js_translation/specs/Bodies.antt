-- The statements of a body. A block is a labelled statement, which a branch leaves; a loop is one that a branch goes on with. The static
-- stack, the types of the operands, is followed through the code that is reached; what stands after a jump is dropped.
use Rattle.std.specs.Prelude.{ℕ, zero, suc, ◌+◌, ◌-◌, ◌/◌, ◌^◌, Bool, true, false, List, [], ◌∷◌, ◌++◌, length, take, drop, Option, Some, None, Result, Ok, Err, slice_get, ◌==◌, if◌then◌else◌}
use Rattle.sem_words.specs.declared.js_value.JsOp.TheVariants.{And}
use Rattle.sem_words.specs.Words.{signed_of}
use Rattle.wasm_lang.specs.declared.types.ValType.{ValType}
use Rattle.wasm_lang.specs.declared.types.ValType.TheVariants.{I32, I64}
use Rattle.wasm_lang.specs.Instructions.{Plain}
use Rattle.wasm_lang.specs.Modules.{FunctionType}
use Rattle.wasm_lang_valid.specs.declared.rule.Rule.{Rule}
use Rattle.wasm_lang_valid.specs.Typing.{Context, Shape, Fixed, Leaves, AnyOne, TwoAlike, plain_shape, listed, result_of, type_of}
use Rattle.wasm_lang_valid.specs.Measures.{same_type}
use Rattle.wasm_lang_exec.specs.Code.{unreachable, block, loop, if_block, br, br_if, br_table, return, call, call_indirect, plain, Trees, ε, ◌▹◌}
use Rattle.asm_lang.specs.Modules as text
use Rattle.asm_lang.specs.Modules.{Expr, var, table_call, binary, Exprs, no_exprs, exprs, Stmt, if_only, if_else, returns, while_loop, breaks, continues, labelled, switches, Clauses, no_clauses, clauses}
use Rattle.wasm2js_translation.specs.Names.{Name, numbered, function, table, label, fixed, result_high, spelled}
use Rattle.wasm2js_translation.specs.Words.{Term, read, signed_number, natural, expr, arguments, test_of, put_in, guard, simple_statement, simple_statements, statements, trap_call, stmts_in, part_of}
use Rattle.wasm2js_translation.specs.Pairs.{operand_pair, moved}
use Rattle.wasm2js_translation.specs.Actions.{under, low, actions_amid}
use Rattle.wasm2js_translation.specs.Delays.{Delayed, written, without, at_hand, Late, late, standing}
use Rattle.wasm2js_translation.specs.Known.{Known, Lean, lean, into_block}
use Rattle.wasm2js_translation.specs.Helpers.{block_of}

-- ---- the static stack

abbrev pub after_shape : Shape → List ValType → List ValType
after_shape (Fixed takes gives) ts = gives ++ drop (length takes) ts
after_shape (Leaves takes) ts = []
after_shape AnyOne ts = drop 1 ts
after_shape TwoAlike ts = drop 2 ts

abbrev pub after_form : Result Shape Rule → List ValType → List ValType
after_form (Ok s) ts = after_shape s ts
after_form (Err r) ts = ts

-- the types of the operands after a plain instruction
abbrev pub after_plain : Context → Plain → List ValType → List ValType
after_plain c p ts = after_form (plain_shape c p) ts

abbrev pub after_call : FunctionType → List ValType → List ValType
after_call t ts = listed (result_of t) ++ drop (length t.params) ts

-- ---- labels

-- what a branch does: it leaves a block or an if with a result above so many operands, goes on with a loop, or leaves the function
pub data Aim : Type 0 where
  past : (base : ℕ) (result : Option ValType) → Aim
  again : (base : ℕ) → Aim
  out : (result : Option ValType) → Aim

-- how many labels stand round code under these aims, of which the last one is the function's
abbrev pub labels_round : List Aim → ℕ
labels_round ls = length ls - 1

abbrev pub label_name : ℕ → List ℕ
label_name n = spelled (numbered label n)

-- the label of aim k
abbrev pub label_of : List Aim → ℕ → List ℕ
label_of ls k = label_name (labels_round (drop (suc k) ls))

-- ---- values

abbrev pub word_in : Name → Expr
word_in n = var (spelled n)

-- the operand of number d as a signed number; as a condition it holds where the word isn't 0
abbrev pub signed_word : ℕ → Expr
signed_word d = signed_number (word_in (low d))

-- `$h`
abbrev pub high_result : Name
high_result = fixed result_high

-- gives the operand of number d, of this type, to the caller
abbrev pub leave_with : Option ValType → ℕ → List Stmt
leave_with None d = returns None ∷ []
leave_with (Some I32) d = returns (Some (signed_word d)) ∷ []
leave_with (Some I64) d = put_in high_result (word_in (operand_pair d).high) ∷ returns (Some (signed_word d)) ∷ []

-- the operand of number d to where a block's result stands
abbrev pub carried : Option ValType → (d base : ℕ) → List Stmt
carried None d base = []
carried (Some t) d base = if d == base then [] else simple_statements (moved t (operand_pair d) (operand_pair base))

-- a branch with the operand of number d
abbrev pub branch : Option Aim → (name : List ℕ) → ℕ → List Stmt
branch None name d = []
branch (Some (past base r)) name d = carried r d base ++ breaks (Some name) ∷ []
branch (Some (again base)) name d = continues (Some name) ∷ []
branch (Some (out r)) name d = leave_with r d

-- to label k, with the topmost operand
abbrev pub jump : List Aim → (k b : ℕ) → List ValType → List Stmt
jump ls k b ts = branch (slice_get ls k) (label_of ls k) (under 1 b ts)

-- ---- a branch by an index: switches of so many cases, one after the other, the last with the default

abbrev pub most_cases : ℕ
most_cases = 512

-- the case for each of these labels, the first of which has this index, and then further clauses
abbrev pub cases : (ℕ → List Stmt) → (i : ℕ) → List ℕ → Clauses → Clauses
cases to i [] more = more
cases to i (k ∷ ks) more = clauses (Some (signed_of 32 i)) (stmts_in (to k)) (cases to (suc i) ks more)

abbrev pub switches_from : (ℕ → List Stmt) → Expr → (full i : ℕ) → List ℕ → (default : ℕ) → List Stmt
switches_from to subject zero i ks d = switches subject (cases to i ks (clauses None (stmts_in (to d)) no_clauses)) ∷ []
switches_from to subject (suc full) i ks d =
    switches subject (cases to i (take most_cases ks) no_clauses) ∷ switches_from to subject full (i + most_cases) (drop most_cases ks) d

-- no index reaches a label past 2 ^ 32
abbrev pub by_index : (ℕ → List Stmt) → Expr → List ℕ → (default : ℕ) → List Stmt
by_index to subject ks d = let near = take (2 ^ 32) ks in switches_from to subject (length near / most_cases) 0 near d

-- ---- calls

-- the words of the operands of these types from number d on, while these wait
abbrev pub words_from : List Delayed → ℕ → List ValType → List Term
words_from ds d [] = []
words_from ds d (I32 ∷ ts) = at_hand ds (operand_pair d).low ∷ words_from ds (suc d) ts
words_from ds d (I64 ∷ ts) = at_hand ds (operand_pair d).low ∷ at_hand ds (operand_pair d).high ∷ words_from ds (suc d) ts

abbrev pub arguments_from : List Delayed → ℕ → List ValType → Exprs
arguments_from ds d ts = arguments (words_from ds d ts)

-- the result of a call to the operand of number d; a function leaves the high word of its result in `$h`
abbrev pub answered : Option ValType → ℕ → Expr → List Stmt
answered None d e = text.plain e ∷ []
answered (Some I32) d e = put_in (low d) (signed_number e) ∷ []
answered (Some I64) d e = put_in (low d) (signed_number e) ∷ put_in (operand_pair d).high (word_in high_result) ∷ []

abbrev pub call_of : List Delayed → (f d : ℕ) → FunctionType → List Stmt
call_of ds f d t = answered (result_of t) d (text.call (spelled (numbered function f)) (arguments_from ds d t.params))

-- what waits for operands below the arguments is written before, and the arguments' words stand in the call
abbrev pub call_stmts : List Delayed → (f b : ℕ) → List ValType → Option FunctionType → List Stmt
call_stmts ds f b ts None = []
call_stmts ds f b ts (Some t) = simple_statements (written (standing b (drop (length t.params) ts) ds)) ++ call_of ds f (under (length t.params) b ts) t

abbrev pub types_after_call : Option FunctionType → List ValType → List ValType
types_after_call None ts = ts
types_after_call (Some t) ts = after_call t ts

-- the least number of a type of this form, by which its table is named
abbrev pub form_number : List FunctionType → FunctionType → ℕ
form_number [] t = 0
form_number (u ∷ us) t = if same_type u t then 0 else suc (form_number us t)

-- the entry that the operand of number i tells, where the table has so many cells
abbrev pub table_call_of : (cells n i d : ℕ) → FunctionType → List Stmt
table_call_of cells n i d t =
    simple_statement (guard (read (low i)) (cells - 1) 5)
    ∷ answered (result_of t) d (table_call (spelled (numbered table n)) (binary And (word_in (low i)) (natural (cells - 1))) (arguments_from [] d t.params))

abbrev pub indirect_stmts : (cells : ℕ) → List FunctionType → (b : ℕ) → List ValType → Option FunctionType → List Stmt
indirect_stmts cells types b ts None = []
indirect_stmts cells types b ts (Some t) = table_call_of cells (form_number types t) (under 1 b ts) (under (suc (length t.params)) b ts) t

-- ---- code

-- its end can be reached
abbrev pub comes_to_end : Trees → Bool
comes_to_end ε = true
comes_to_end (unreachable ▹ is) = false
comes_to_end (br k ▹ is) = false
comes_to_end (br_table ks d ▹ is) = false
comes_to_end (return ▹ is) = false
comes_to_end (x ▹ is) = comes_to_end is

-- the body of a loop leaves it at its end
abbrev pub leaves : Trees → List Stmt
leaves body = if comes_to_end body then breaks None ∷ [] else []

abbrev pub under_label : ℕ → Stmt → Stmt
under_label n s = labelled (label_name n ∷ []) s

abbrev pub endless : List Stmt → Stmt
endless ss = while_loop (natural 1) (block_of ss)

-- ---- what waits where an operand is asked for: all else is written, and then that operand's word stands where it is read

abbrev pub written_but : Name → List Delayed → List Stmt
written_but n ds = simple_statements (written (without n ds))

-- the operand of number d as a condition
abbrev pub asked : ℕ → List Delayed → Expr
asked d ds = test_of (at_hand ds (low d))

-- the operand of number d to the caller
abbrev pub leave_late : Option ValType → ℕ → List Delayed → List Stmt
leave_late (Some I32) d ds = written_but (low d) ds ++ returns (Some (signed_number (expr (at_hand ds (low d))))) ∷ []
leave_late r d ds = simple_statements (written ds) ++ leave_with r d

-- where code ends: the function's gives its result at once, where that is a word of 32 bits
abbrev pub ended : List Aim → (b : ℕ) → List ValType → List Delayed → List Stmt
ended (out (Some I32) ∷ []) b ts ds = leave_late (Some I32) (under 1 b ts) ds
ended ls b ts ds = simple_statements (written ds)

-- without an `else` where nothing would stand behind it
abbrev pub chosen : Expr → (first second : List Stmt) → Stmt
chosen test first [] = if_only test (part_of first)
chosen test first (s ∷ ss) = if_else test (part_of first) (part_of (s ∷ ss))

-- the memory has so many bytes, and each table so many cells
module _ (bytes cells : ℕ) (c : Context) where
  abbrev pub late_code : Plain → (b : ℕ) → List ValType → List Delayed → Late
  late_code p b ts ds = late ds (actions_amid bytes c ds p b ts)

  -- the words that wait after a plain instruction
  abbrev pub left_waiting : Plain → (b : ℕ) → List ValType → List Delayed → List Delayed
  left_waiting p b ts ds = standing b (after_plain c p ts) (late_code p b ts ds).later

  -- without what is needless by what is known where it begins
  abbrev pub lean_code : Plain → (b : ℕ) → List ValType → List Delayed → List Known → Lean
  lean_code p b ts ds ks = lean ks (late_code p b ts ds).now

  -- under these aims, the innermost first; so many operands lie below the block's, those have these types, and these of their words wait:
  -- all are written before the next instruction that isn't plain, and at the end, but for a condition, for what a call takes and for what a
  -- function gives; this is known of variables, until such an instruction, and within a block, or the first arm of an if, that is this instruction
  abbrev pub stmts_of : Trees → List Aim → (b : ℕ) → List ValType → List Delayed → List Known → List Stmt
  stmts_of ε ls b ts ds ks = ended ls b ts ds
  stmts_of (plain p ▹ is) ls b ts ds ks =
      statements (lean_code p b ts ds ks).now ++ stmts_of is ls b (after_plain c p ts) (left_waiting p b ts ds) (lean_code p b ts ds ks).known
  stmts_of (unreachable ▹ is) ls b ts ds ks = simple_statements (written ds) ++ trap_call 1 ∷ []
  stmts_of (br k ▹ is) ls b ts ds ks = simple_statements (written ds) ++ jump ls k b ts
  stmts_of (return ▹ is) ls b ts ds ks = leave_late c.returns (under 1 b ts) ds
  stmts_of (br_table ns d ▹ is) ls b ts ds ks = simple_statements (written ds) ++ by_index (λ k. jump ls k b (drop 1 ts)) (signed_word (under 1 b ts)) ns d
  stmts_of (br_if k ▹ is) ls b ts ds ks =
      let d = under 1 b ts in
      written_but (low d) ds ++ if_only (asked d ds) (part_of (jump ls k b (drop 1 ts))) ∷ stmts_of is ls b (drop 1 ts) [] []
  stmts_of (block r body ▹ is) ls b ts ds ks =
      let base = under 0 b ts in
      simple_statements (written ds)
      ++ under_label (labels_round ls) (block_of (stmts_of body (past base r ∷ ls) base [] [] (into_block ks))) ∷ stmts_of is ls b (listed r ++ ts) [] []
  stmts_of (loop r body ▹ is) ls b ts ds ks =
      let base = under 0 b ts in
      simple_statements (written ds)
      ++ under_label (labels_round ls) (endless (stmts_of body (again base ∷ ls) base [] [] [] ++ leaves body)) ∷ stmts_of is ls b (listed r ++ ts) [] []
  stmts_of (if_block r first second ▹ is) ls b ts ds ks =
      let base = under 1 b ts in
      written_but (low base) ds
      ++ under_label (labels_round ls)
      (chosen (asked base ds) (stmts_of first (past base r ∷ ls) base [] [] (into_block ks)) (stmts_of second (past base r ∷ ls) base [] [] []))
      ∷ stmts_of is ls b (listed r ++ drop 1 ts) [] []
  stmts_of (call f ▹ is) ls b ts ds ks = call_stmts ds f b ts (type_of c f) ++ stmts_of is ls b (types_after_call (type_of c f) ts) [] []
  stmts_of (call_indirect t ▹ is) ls b ts ds ks =
      simple_statements (written ds)
      ++ indirect_stmts cells c.types b ts (slice_get c.types t) ++ stmts_of is ls b (types_after_call (slice_get c.types t) (drop 1 ts)) [] []

  -- a function with a result ends in a return of it, also where that isn't reached: its last statement says what it gives
  abbrev pub closing : Option ValType → (reached : Bool) → List Stmt
  closing None reached = []
  closing (Some I32) true = []
  closing (Some t) reached = leave_with (Some t) 0

  abbrev pub body_stmts : Trees → List Stmt
  body_stmts code = stmts_of code (out c.returns ∷ []) 0 [] [] [] ++ closing c.returns (comes_to_end code)
