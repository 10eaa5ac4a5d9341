-- A function has a result exactly where its type has one: its last statement says what it gives.
use Rattle.std.proofs.Common.{◌≡◌, ℕ, zero, suc, ◌+◌, Bool, true, false, List, [], ◌∷◌, ◌++◌, length, drop, Option, Some, None, is_some, refl, sym, ap, ◌∙◌, subst, append_assoc}
use Rattle.std.specs.Prelude.{slice_get}
use Rattle.wasm_lang.specs.declared.types.ValType.{ValType}
use Rattle.wasm_lang.specs.declared.types.ValType.TheVariants.{I32, I64}
use Rattle.wasm_lang.specs.Modules.{FunctionType}
use Rattle.wasm_lang_valid.specs.Typing.{Context, listed, result_of, type_of}
use Rattle.wasm_lang_exec.specs.Code.{unreachable, block, loop, if_block, br, br_if, br_table, return, call, call_indirect, plain, Trees, ε, ◌▹◌}
use Rattle.asm_lang.specs.Modules.{Expr, Stmt, returns}
use Rattle.asm_lang_valid.specs.Scope.{gives_value, last_gives_value}
use Rattle.wasm2js_translation.specs.Names.{Name}
use Rattle.wasm2js_translation.specs.Words.{Action, simply, either, Simple, put, ask, tell, guard, stop, write_byte, write_whole, stmts_in, statement, statements, simple_statement, simple_statements}
use Rattle.wasm2js_translation.specs.Actions.{under, low}
use Rattle.wasm2js_translation.specs.Bodies.{out, jump, switches_from, most_cases, answered, call_stmts, indirect_stmts, after_plain, types_after_call, written_but, leave_late, comes_to_end, stmts_of, left_waiting, closing, body_stmts, lean_code}
use Rattle.wasm2js_translation.specs.Delays.{Delayed, without, written, standing}
use Rattle.wasm2js_translation.specs.Known.{Known}

-- ---- the last statement

-- none of them is a return of a value
abbrev pub AreSilent : List Stmt → Type 0
AreSilent [] = Unit {0}
AreSilent (s ∷ ss) = (gives_value s ≡ false) × AreSilent ss

pub silent_join : (xs ys : List Stmt) → AreSilent xs → AreSilent ys → AreSilent (xs ++ ys)
silent_join [] ys h k = k
silent_join (x ∷ xs) ys h k = (h.0, silent_join xs ys h.1 k)

pub last_silent : (ss : List Stmt) → AreSilent ss → last_gives_value (stmts_in ss) ≡ false
last_silent [] h = refl
last_silent (s ∷ []) h = h.0
last_silent (s ∷ t ∷ ss) h = last_silent (t ∷ ss) h.1

pub last_one : (ss : List Stmt) (s : Stmt) → last_gives_value (stmts_in (ss ++ s ∷ [])) ≡ gives_value s
last_one [] s = refl
last_one (x ∷ []) s = refl
last_one (x ∷ y ∷ ss) s = last_one (y ∷ ss) s

last_two : (ss : List Stmt) (r s : Stmt) → last_gives_value (stmts_in (ss ++ r ∷ s ∷ [])) ≡ gives_value s
last_two [] r s = refl
last_two (x ∷ []) r s = refl
last_two (x ∷ y ∷ ss) r s = last_two (y ∷ ss) r s

simple_silent : (s : Simple) → gives_value (simple_statement s) ≡ false
simple_silent (put n t) = refl
simple_silent (ask n helper ts) = refl
simple_silent (tell helper ts) = refl
simple_silent (guard t most kind) = refl
simple_silent (stop kind) = refl
simple_silent (write_byte at t) = refl
simple_silent (write_whole at t) = refl

statement_silent : (a : Action) → gives_value (statement a) ≡ false
statement_silent (simply s) = simple_silent s
statement_silent (either test first second) = refl

statements_silent : (xs : List Action) → AreSilent (statements xs)
statements_silent [] = tt
statements_silent (a ∷ xs) = (statement_silent a, statements_silent xs)

written_silent : (ds : List Delayed) → AreSilent (simple_statements (written ds))
written_silent [] = tt
written_silent (d ∷ ds) = (refl, written_silent ds)

silent_behind : (ds : List Delayed) (ss : List Stmt) → AreSilent ss → AreSilent (simple_statements (written ds) ++ ss)
silent_behind ds ss h = silent_join (simple_statements (written ds)) ss (written_silent ds) h

answered_silent : (r : Option ValType) (d : ℕ) (e : Expr) → AreSilent (answered r d e)
answered_silent None d e = (refl, tt)
answered_silent (Some I32) d e = (refl, tt)
answered_silent (Some I64) d e = (refl, (refl, tt))

call_silent : (ds : List Delayed) (f b : ℕ) (ts : List ValType) (o : Option FunctionType) → AreSilent (call_stmts ds f b ts o)
call_silent ds f b ts None = tt
call_silent ds f b ts (Some t) = silent_behind (standing b (drop (length t.params) ts) ds) _ (answered_silent (result_of t) _ _)

indirect_silent : (cells : ℕ) (types : List FunctionType) (b : ℕ) (ts : List ValType) (o : Option FunctionType) → AreSilent (indirect_stmts cells types b ts o)
indirect_silent cells types b ts None = tt
indirect_silent cells types b ts (Some t) = (refl, answered_silent (result_of t) _ _)

switches_silent : (to : ℕ → List Stmt) (subject : Expr) (full i : ℕ) (ks : List ℕ) (d : ℕ) → AreSilent (switches_from to subject full i ks d)
switches_silent to subject zero i ks d = (refl, tt)
switches_silent to subject (suc full) i ks d = (refl, switches_silent to subject full (i + most_cases) _ d)

silent_but : (n : Name) (ds : List Delayed) (ss : List Stmt) → AreSilent ss → AreSilent (written_but n ds ++ ss)
silent_but n ds ss h = silent_behind (without n ds) ss h

-- ---- code of a function without a result

jump_silent : (k b : ℕ) (ts : List ValType) → AreSilent (jump (out None ∷ []) k b ts)
jump_silent zero b ts = (refl, tt)
jump_silent (suc k) b ts = tt

module _ (bytes cells : ℕ) (c : Context) (none : c.returns ≡ None) where
  leave_silent : (d : ℕ) (ds : List Delayed) → AreSilent (leave_late c.returns d ds)
  leave_silent d ds = subst (λ r. AreSilent (leave_late r d ds)) (sym none) (silent_behind ds _ (refl, tt))

  code_silent : (code : Trees) (b : ℕ) (ts : List ValType) (ds : List Delayed) (ks : List Known) → AreSilent (stmts_of bytes cells c code (out None ∷ []) b ts ds ks)
  code_silent ε b ts ds ks = written_silent ds
  code_silent (plain p ▹ is) b ts ds ks =
      let x = lean_code bytes cells c p b ts ds ks in
      silent_join (statements x.now) _ (statements_silent x.now) (code_silent is b (after_plain c p ts) (left_waiting bytes cells c p b ts ds) x.known)
  code_silent (unreachable ▹ is) b ts ds ks = silent_behind ds _ (refl, tt)
  code_silent (br k ▹ is) b ts ds ks = silent_behind ds _ (jump_silent k b ts)
  code_silent (return ▹ is) b ts ds ks = leave_silent (under 1 b ts) ds
  code_silent (br_table ns d ▹ is) b ts ds ks = silent_behind ds _ (switches_silent _ _ _ 0 _ d)
  code_silent (br_if k ▹ is) b ts ds ks = silent_but (low (under 1 b ts)) ds _ (refl, code_silent is b _ [] [])
  code_silent (block r body ▹ is) b ts ds ks = silent_behind ds _ (refl, code_silent is b _ [] [])
  code_silent (loop r body ▹ is) b ts ds ks = silent_behind ds _ (refl, code_silent is b _ [] [])
  code_silent (if_block r first second ▹ is) b ts ds ks = silent_but (low (under 1 b ts)) ds _ (refl, code_silent is b _ [] [])
  code_silent (call f ▹ is) b ts ds ks =
      silent_join (call_stmts ds f b ts (type_of c f)) _ (call_silent ds f b ts (type_of c f)) (code_silent is b (types_after_call (type_of c f) ts) [] [])
  code_silent (call_indirect t ▹ is) b ts ds ks =
      silent_join (simple_statements (written ds) ++ indirect_stmts cells c.types b ts (slice_get c.types t)) _ (silent_behind ds _ (indirect_silent cells c.types b ts (slice_get c.types t))) (code_silent is b _ [] [])

-- ---- code of a function that gives a word of 32 bits

-- the last one is a return of a value
pub record Answers (ss : List Stmt) : Type 0 where
  pub before : List Stmt
  pub value : Expr
  pub is : ss ≡ before ++ returns (Some value) ∷ []

answers_behind : (xs ss : List Stmt) → Answers ss → Answers (xs ++ ss)
answers_behind xs ss h = record { before = xs ++ h.before; value = h.value; is = ap (λ ys. xs ++ ys) h.is ∙ sym (append_assoc xs h.before (returns (Some h.value) ∷ [])) }

answers_give : (ss : List Stmt) → Answers ss → last_gives_value (stmts_in ss) ≡ true
answers_give ss h = ap (λ ss. last_gives_value (stmts_in ss)) h.is ∙ last_one h.before (returns (Some h.value))

module _ (bytes cells : ℕ) (c : Context) where
  -- behind words that are written, and one statement
  behind_two : (xs : List Stmt) (x : Stmt) (ss : List Stmt) → Answers ss → Answers (xs ++ x ∷ ss)
  behind_two xs x ss h = answers_behind xs (x ∷ ss) (answers_behind (x ∷ []) ss h)

  pub code_answers : (code : Trees) (b : ℕ) (ts : List ValType) (ds : List Delayed) (ks : List Known) → comes_to_end code ≡ true → Answers (stmts_of bytes cells c code (out (Some I32) ∷ []) b ts ds ks)
  code_answers ε b ts ds ks e = record { before = written_but (low (under 1 b ts)) ds; value = _; is = refl }
  code_answers (plain p ▹ is) b ts ds ks e =
      let x = lean_code bytes cells c p b ts ds ks in
      answers_behind (statements x.now) _ (code_answers is b (after_plain c p ts) (left_waiting bytes cells c p b ts ds) x.known e)
  code_answers (unreachable ▹ is) b ts ds ks e = absurd (cc e)
  code_answers (br k ▹ is) b ts ds ks e = absurd (cc e)
  code_answers (return ▹ is) b ts ds ks e = absurd (cc e)
  code_answers (br_table ns d ▹ is) b ts ds ks e = absurd (cc e)
  code_answers (br_if k ▹ is) b ts ds ks e = behind_two (written_but (low (under 1 b ts)) ds) _ _ (code_answers is b (drop 1 ts) [] [] e)
  code_answers (block r body ▹ is) b ts ds ks e = behind_two (simple_statements (written ds)) _ _ (code_answers is b (listed r ++ ts) [] [] e)
  code_answers (loop r body ▹ is) b ts ds ks e = behind_two (simple_statements (written ds)) _ _ (code_answers is b (listed r ++ ts) [] [] e)
  code_answers (if_block r first second ▹ is) b ts ds ks e = behind_two (written_but (low (under 1 b ts)) ds) _ _ (code_answers is b (listed r ++ drop 1 ts) [] [] e)
  code_answers (call f ▹ is) b ts ds ks e =
      answers_behind (call_stmts ds f b ts (type_of c f)) _ (code_answers is b (types_after_call (type_of c f) ts) [] [] e)
  code_answers (call_indirect t ▹ is) b ts ds ks e =
      answers_behind (simple_statements (written ds) ++ indirect_stmts cells c.types b ts (slice_get c.types t)) _ (code_answers is b (types_after_call (slice_get c.types t) (drop 1 ts)) [] [] e)

-- ---- bodies

append_none : (ss : List Stmt) → ss ++ [] ≡ ss
append_none [] = refl
append_none (s ∷ ss) = ap (λ xs. s ∷ xs) (append_none ss)

module _ (bytes cells : ℕ) (c : Context) (code : Trees) where
  abbrev own_code : Option ValType → List Stmt
  own_code r = stmts_of bytes cells c code (out r ∷ []) 0 [] [] []

  reached_gives : (reached : Bool) → comes_to_end code ≡ reached → last_gives_value (stmts_in (own_code (Some I32) ++ closing bytes cells c (Some I32) reached)) ≡ true
  reached_gives true e = ap (λ ss. last_gives_value (stmts_in ss)) (append_none (own_code (Some I32))) ∙ answers_give (own_code (Some I32)) (code_answers bytes cells c code 0 [] [] [] e)
  reached_gives false e = last_one (own_code (Some I32)) _

  closed_gives : (r : Option ValType) → c.returns ≡ r → last_gives_value (stmts_in (own_code r ++ closing bytes cells c r (comes_to_end code))) ≡ is_some r
  closed_gives None e = last_silent _ (silent_join (own_code None) [] (code_silent bytes cells c e code 0 [] [] []) tt)
  closed_gives (Some I32) e = reached_gives (comes_to_end code) refl
  closed_gives (Some I64) e = last_two (own_code (Some I64)) _ _

  pub body_gives : (r : Option ValType) → c.returns ≡ r → last_gives_value (stmts_in (body_stmts bytes cells c code)) ≡ is_some r
  body_gives r e = ap (λ r. last_gives_value (stmts_in (own_code r ++ closing bytes cells c r (comes_to_end code)))) e ∙ closed_gives r e
