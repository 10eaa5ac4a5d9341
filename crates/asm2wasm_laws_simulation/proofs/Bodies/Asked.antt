-- What is asked of a switch's clauses, and of switches.
use Rattle.std.proofs.Common.{◌≡◌, ℕ, true, List, []}
use Rattle.asm_types.specs.declared.value_type.ValueType.TheVariants.{Signed}
use Rattle.asm_lang.specs.Modules.{Expr, switches, Clauses, no_clauses, clauses}
use Rattle.asm_lang_valid.specs.Typing.{cases_fit}
use Rattle.asm_lang_exec.specs.Values.{Calls}
use Rattle.asm_lang_exec.specs.Meaning.{eval}
use Rattle.asm2wasm_translation.specs.Bodies.{Label}
use Rattle.asm2wasm_translation.specs.Values.{value_code}
use Rattle.asm2wasm_laws_preservation.specs.Kept.{Fits, a_value, Surroundings, Keeps}
use Rattle.asm2wasm_laws_preservation.specs.Laws.{scope}
use Rattle.asm2wasm_laws_simulation.specs.Bodies.Laws.{StmtKept, StmtsKept}

module _ (s : Surroundings) (limit bound : ℕ) (calls : Calls) where
  -- the statements of each clause, under any labels
  abbrev pub ClausesKept : Clauses → Type 0
  ClausesKept no_clauses = Unit {0}
  ClausesKept (clauses v ss cs) = ((ls : List Label) → StmtsKept s limit bound calls ls ss) × ClausesKept cs

  -- each switch is kept, whose value and clauses are
  abbrev pub SwitchesKept : Type 0
  SwitchesKept =
      (ls : List Label) (own : List (List ℕ)) (e : Expr) (cs : Clauses) → cases_fit cs ≡ true
      → Keeps s limit 0 [] (Fits Signed) a_value (value_code s.heap (scope s) 0 e) (eval true calls (scope s) e)
      → ClausesKept cs → StmtKept s limit bound calls ls own (switches e cs)
