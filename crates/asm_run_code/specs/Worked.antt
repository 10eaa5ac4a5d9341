-- Small modules whose sessions by flat code are computed beside their meaning.
use Rattle.std.specs.Prelude.{◌≡◌, ℕ, false, List, [], ◌∷◌, Some, None, pos, negsuc, codes}
use Rattle.session_lang.specs.Script.{ScriptPlain}
use Rattle.asm_lang.specs.Trees.{member}
use Rattle.asm_lang.specs.Modules.{Clauses, no_clauses, clauses, breaks, switches, call, assign, store, returns, Module, var, links, no_links, chain, no_exprs}
use Rattle.asm_lang_exec.specs.Session.{asm}
use Rattle.asm2wasm_translation.specs.Pieces.{a, f, g, x, y, adds, alone, arguments, called, calls_alone, function, int, int_variable, module_of, replied, sets, signed, small_view, statements, variable}
use Rattle.asm_run_code.specs.Sessions.{flat_session}

-- with each of these budgets the same is seen, in at most so many steps a call
abbrev pub AreAlike : Module → (heap_length : ℕ) → ScriptPlain → (steps : ℕ) → (budgets : List ℕ) → Type 0
AreAlike m length script steps [] = Unit {0}
AreAlike m length script steps (u ∷ us) = (flat_session steps m length script u ≡ asm m length script u) × AreAlike m length script steps us

-- ---- `return x+(x=5)+x|0;`

abbrev pub assigning : Module
assigning = alone (x ∷ []) [] (returns (Some (signed (chain (var x) (links false (assign x (int 5)) (links false (var x) no_links))))) ∷ [])

abbrev pub assigning_script : ScriptPlain
assigning_script = calls_alone (called (pos 7 ∷ []) 1 ∷ called (negsuc 0 ∷ []) 2 ∷ [])

-- ---- `return a(g()|0)|0;`: the import is called also where no unit is left for the call

abbrev pub waiting : Module
waiting = module_of (variable g (member (codes "e") g) ∷ [])
    (function a (x ∷ []) [] (returns (Some (signed (var x))) ∷ [])
    ∷ function f [] [] (returns (Some (signed (call a (arguments (signed (call g no_exprs) ∷ []))))) ∷ []) ∷ []) []

abbrev pub waiting_script : ScriptPlain
waiting_script = record { globals = []; writes = []; calls = called [] 1 ∷ called [] 2 ∷ []; replies = replied 8 3 ∷ [] }

-- ---- `y=9;x=(U[x|0]=y);return x;`: nothing is put into x before the write

abbrev pub storing_a_value : Module
storing_a_value = module_of (small_view (codes "U") (codes "Uint8Array") ∷ [])
    (function f (x ∷ []) (int_variable 9 y ∷ []) (sets x (store (codes "U") (signed (var x)) (var y)) ∷ returns (Some (signed (var x))) ∷ []) ∷ []) []

-- inside, and below the heap
abbrev pub storing_a_value_script : ScriptPlain
storing_a_value_script = calls_alone (called (pos 3 ∷ []) 1 ∷ called (negsuc 0 ∷ []) 2 ∷ [])

abbrev pub dividing_script : ScriptPlain
dividing_script = calls_alone (called (pos 7 ∷ pos 0 ∷ []) 1 ∷ called (negsuc 2147483647 ∷ negsuc 0 ∷ []) 2 ∷ called (negsuc 6 ∷ pos 2 ∷ []) 3 ∷ [])

-- ---- a switch by a table of jumps: values fall through, leave, and are no case's

abbrev pub dense_bodies : Clauses
dense_bodies =
    clauses (Some (pos 10)) (statements (adds y (int 1) ∷ []))
    (clauses (Some (pos 11)) (statements (adds y (int 10) ∷ breaks None ∷ []))
    (clauses None (statements (adds y (int 1000) ∷ []))
    (clauses (Some (pos 14)) (statements (adds y (int 100) ∷ breaks None ∷ []))
    (clauses (Some (pos 12)) (statements (adds y (int 7) ∷ [])) no_clauses))))

abbrev pub jumping : Module
jumping = module_of [] (function f (x ∷ []) (int_variable 0 y ∷ []) (switches (signed (var x)) dense_bodies ∷ returns (Some (signed (var y))) ∷ []) ∷ []) []

abbrev pub jumping_script : ScriptPlain
jumping_script = calls_alone
    (called (pos 9 ∷ []) 1 ∷ called (pos 10 ∷ []) 2 ∷ called (pos 11 ∷ []) 3 ∷ called (pos 12 ∷ []) 4 ∷ called (pos 13 ∷ []) 5 ∷ called (pos 14 ∷ []) 6 ∷ called (pos 15 ∷ []) 7
    ∷ called (negsuc 0 ∷ []) 8 ∷ [])
