-- A module's declarations in their order.
use Rattle.std.proofs.Common.{◌≡◌, ℕ, ◌+◌, List, ◌++◌, length, map, Result, Err, refl, sym, ap, ◌∙◌, subst}
use Rattle.std.proofs.lemmas.List.{length-map}
use Rattle.sem_words.specs.Lists.{list_items}
use Rattle.asm_lang.specs.Modules as plain
use Rattle.asm_tree.specs.declared.tree.Module.{Module}
use Rattle.asm_tree.specs.declared.tree.Global_.{Global_}
use Rattle.asm_tree.specs.declared.tree.Function.{Function}
use Rattle.asm_tree.specs.declared.tree.Table.{Table}
use Rattle.asm_tree.specs.Views.{module_view, global_view, function_view, table_view}
use Rattle.asm_lang_valid.specs.Rows.{functions_count}
use Rattle.asm_lang_valid.specs.LimitRows.{Mark, marks, globals_marks, functions_marks, tables_marks}
use Rattle.asm_validate_names.specs.declared.refusal.AsmRefusal.{AsmRefusal}
use Rattle.asm_validate_limits.specs.declared.tally.Tally.{Tally}
use Rattle.asm_validate_limits.specs.Passes.{calls_of, Passed, IsFault, Tallied}
use Rattle.asm_validate_limits.proofs.Passes.{stop, then_at, same}

-- what the code gives, of this module
pub of_globals : (m h : Module) (vs : List Global_) (a b : Tally) (r : Result (Unit {0}) AsmRefusal) → h ≡ m → vs ≡ list_items h.globals → a.at ≡ 1 → Tallied (globals_marks (module_view h) 0 a.at (map global_view vs)) (length vs) a b r → Tallied (globals_marks (module_view m) 0 1 (module_view m).globals) (length (module_view m).globals) a b r
of_globals m h vs a b r e is start t =
    let them : vs ≡ list_items m.globals = is ∙ ap (λ (x : Module). list_items x.globals) e in
    same (globals_marks (module_view m) 0 1 (module_view m).globals) (globals_marks (module_view h) 0 a.at (map global_view vs)) (length (module_view m).globals) (length vs) a b r
    (ap (λ n. globals_marks (module_view m) 0 n (module_view m).globals) (sym start) ∙ ap (λ l. globals_marks (module_view m) 0 a.at (map global_view l)) (sym them) ∙ ap (λ x. globals_marks (module_view x) 0 a.at (map global_view vs)) (sym e))
    (length-map (list_items m.globals) global_view ∙ ap length (sym them)) t

pub of_functions : (m h : Module) (fs : List Function) (a b : Tally) (r : Result (Unit {0}) AsmRefusal) → h ≡ m → fs ≡ list_items h.functions → Tallied (functions_marks (module_view m) 0 a.at (map function_view fs)) (functions_count (map function_view fs)) a b r → Tallied (functions_marks (module_view m) 0 a.at (module_view m).functions) (functions_count (module_view m).functions) a b r
of_functions m h fs a b r e is t =
    let them : fs ≡ list_items m.functions = is ∙ ap (λ (x : Module). list_items x.functions) e in
    subst (λ l. Tallied (functions_marks (module_view m) 0 a.at (map function_view l)) (functions_count (map function_view l)) a b r) them t

pub of_tables : (m h : Module) (ts : List Table) (a b : Tally) (r : Result (Unit {0}) AsmRefusal) → h ≡ m → ts ≡ list_items h.tables → Tallied (tables_marks 0 a.at (map table_view ts)) (length ts) a b r → Tallied (tables_marks 0 a.at (module_view m).tables) (length (module_view m).tables) a b r
of_tables m h ts a b r e is t =
    let them : ts ≡ list_items m.tables = is ∙ ap (λ (x : Module). list_items x.tables) e in
    same (tables_marks 0 a.at (module_view m).tables) (tables_marks 0 a.at (map table_view ts)) (length (module_view m).tables) (length ts) a b r
    (ap (λ l. tables_marks 0 a.at (map table_view l)) (sym them)) (length-map (list_items m.tables) table_view ∙ ap length (sym them)) t

module _ (m : plain.Module) (a : Tally) (start : a.at ≡ 1) where
  abbrev globals : List Mark
  globals = globals_marks m 0 1 m.globals

  abbrev rest : ℕ → List Mark
  rest at = functions_marks m 0 at m.functions ++ tables_marks 0 (at + functions_count m.functions) m.tables

  abbrev count : ℕ
  count = length m.globals + (functions_count m.functions + length m.tables)

  all : marks m ≡ globals ++ rest (a.at + length m.globals)
  all = ap (λ n. globals ++ rest (n + length m.globals)) (sym start)

  pub globals_fault : (c : Tally) (x : AsmRefusal) → IsFault globals (calls_of a) x → Tallied (marks m) count a c (Err x)
  globals_fault c x h = same (marks m) (globals ++ rest (a.at + length m.globals)) count count a c (Err x) all refl (stop globals (rest (a.at + length m.globals)) (calls_of a) x h)

  module _ (b : Tally) (passed : Passed globals (length m.globals) a b) where
    after : (c : Tally) (r : Result (Unit {0}) AsmRefusal) → Tallied (rest b.at) (functions_count m.functions + length m.tables) b c r → Tallied (marks m) count a c r
    after c r h = same (marks m) (globals ++ rest (a.at + length m.globals)) count count a c r all refl (then_at globals rest (length m.globals) (functions_count m.functions + length m.tables) a b c r passed h)

    pub functions_fault : (c : Tally) (x : AsmRefusal) → IsFault (functions_marks m 0 b.at m.functions) (calls_of b) x → Tallied (marks m) count a c (Err x)
    functions_fault c x h = after c (Err x) (stop (functions_marks m 0 b.at m.functions) (tables_marks 0 (b.at + functions_count m.functions) m.tables) (calls_of b) x h)

    pub whole : (c d : Tally) (r : Result (Unit {0}) AsmRefusal) → Passed (functions_marks m 0 b.at m.functions) (functions_count m.functions) b c → Tallied (tables_marks 0 c.at m.tables) (length m.tables) c d r → Tallied (marks m) count a d r
    whole c d r p h = after d r (then_at (functions_marks m 0 b.at m.functions) (λ at. tables_marks 0 at m.tables) (functions_count m.functions) (length m.tables) b c d r p h)
