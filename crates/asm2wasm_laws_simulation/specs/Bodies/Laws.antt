-- What holds of the code of statements.
use Rattle.std.specs.Prelude.{◌≡◌, ℕ, ◌+◌, ◌≤◌, Bool, true, false, List, [], ◌++◌, length, map, replicate}
use Rattle.sem_words.specs.declared.word.Word.{Word}
use Rattle.sem_words.specs.declared.word.Word.TheVariants.{W32}
use Rattle.wasm_lang.specs.Modules.{WasmModule}
use Rattle.wasm_lang_exec.specs.Store.{Store}
use Rattle.wasm_lang_exec.specs.Code.{Trees, ◌⊕◌}
use Rattle.wasm_laws_drive.specs.Drive.{at, onward}
use Rattle.wasm_laws_drive.specs.Equations.{at_frame}
use Rattle.wasm_laws_trees.specs.Spelled.{size}
use Rattle.asm_lang.specs.Modules.{Stmt, Stmts, Variable}
use Rattle.asm_lang_valid.specs.LimitRows.{stmt_marks, stmts_marks, foreign_calls}
use Rattle.asm_lang_valid.specs.Typing.{Scope, Around, at_top, result_of, typed, all_typed}
use Rattle.asm_lang_exec.specs.Runs.{and_then}
use Rattle.asm_lang_exec.specs.Values.{Calls}
use Rattle.asm_lang_exec.specs.Meaning.{exec, exec_all, function_end}
use Rattle.asm2wasm_translation.specs.Bodies.{Label, stmt_code, stmts_code, body_code, literal_word, locals_code}
use Rattle.asm2wasm_laws_preservation.specs.Kept.{result, Surroundings}
use Rattle.asm2wasm_laws_preservation.specs.Made.{AllListed, Within, CallsKept}
use Rattle.asm2wasm_laws_preservation.specs.Laws.{AreAccepted, scope}
use Rattle.asm2wasm_laws_simulation.specs.Bodies.Followed.{on_code, Follows, Any, KeepsEnd}

module _ (s : Surroundings) (limit bound : ℕ) (calls : Calls) where
  -- a statement under these labels, whose code isn't larger than a unit is worth: its meaning is the checked one, where each loop makes
  -- at most `bound` turns
  abbrev pub StmtKept : List Label → (own : List (List ℕ)) → Stmt → Type 0
  StmtKept ls own x =
      Within s (stmt_code s.heap (scope s) ls own x) → size (stmt_code s.heap (scope s) ls own x) ≤ s.worth
      → KeepsEnd s limit ls (result_of (scope s)) (stmt_code s.heap (scope s) ls own x) (exec true calls (scope s) bound own x)

  abbrev pub StmtsKept : List Label → Stmts → Type 0
  StmtsKept ls ss =
      Within s (stmts_code s.heap (scope s) ls ss) → size (stmts_code s.heap (scope s) ls ss) ≤ s.worth
      → KeepsEnd s limit ls (result_of (scope s)) (stmts_code s.heap (scope s) ls ss) (exec_all true calls (scope s) bound ss)

-- a typed statement of each form, where calls are kept, and no more units are left than turns may be made
abbrev pub StatementsAreKept : Type 0
StatementsAreKept =
    (s : Surroundings) (limit bound : ℕ) (calls : Calls) (ls : List Label) (own : List (List ℕ)) (a : Around) (at : ℕ) (x : Stmt)
    → AreAccepted s → CallsKept s limit calls → limit ≤ bound
    → typed (scope s) a x ≡ true → AllListed (foreign_calls s.home) (stmt_marks (scope s) at x) → StmtKept s limit bound calls ls own x

abbrev pub ListsAreKept : Type 0
ListsAreKept =
    (s : Surroundings) (limit bound : ℕ) (calls : Calls) (ls : List Label) (a : Around) (at : ℕ) (ss : Stmts)
    → AreAccepted s → CallsKept s limit calls → limit ≤ bound
    → all_typed (scope s) a ss ≡ true → AllListed (foreign_calls s.home) (stmts_marks (scope s) at ss) → StmtsKept s limit bound calls ls ss

-- ---- functions

-- how many values a function leaves
abbrev pub results : Bool → ℕ
results true = 1
results false = 0

-- the body of a function in its frame, whose last return is its expression alone: in the caller's code after it the result is on the
-- stack, over the values below, and the caller's locals are back
abbrev pub BodiesAreKept : Type 0
BodiesAreKept =
    (s : Surroundings) (limit bound : ℕ) (calls : Calls) (place : ℕ) (below : List Word) (code : Trees) (outer : List Word)
    → AreAccepted s → CallsKept s limit calls → limit ≤ bound
    → all_typed (scope s) at_top s.within.body ≡ true → AllListed (foreign_calls s.home) (stmts_marks (scope s) place s.within.body)
    → let body = body_code s.heap (scope s) s.within.body in
    Within s body → size body ≤ s.worth
    → let wanted = result_of (scope s) in
    Follows s limit (1 + size body) (λ l st k. at_frame s.target below (results wanted) code outer (on_code s.target [] body l st k)) Any
    (λ v l st k. onward s.target code (at (result wanted v ++ below) outer st k))
    (and_then (exec_all true calls (scope s) bound s.within.body) (λ d. function_end d))

-- the first values of a function's locals, which stand after its parameters and are 0 where it begins
abbrev pub LocalsAreSet : Type 0
LocalsAreSet =
    (heap : ℕ) (c : Scope) (w : WasmModule) (more : Trees) (st : Store) (vs : List Variable) (params scratch : List Word)
    → let code = locals_code heap c (length params) vs in
    (cost : ℕ) × (cost ≤ size code)
    × ((k : ℕ) → on_code w [] (code ⊕ more) (params ++ (replicate (length vs) (W32 0) ++ scratch)) st (cost + k)
    ≡ on_code w [] more (params ++ (map (λ (v : Variable). W32 (literal_word heap c v.init)) vs ++ scratch)) st k)
