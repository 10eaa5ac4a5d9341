-- A function that is made of fine statements, with as few variables as may be, is fine.
use Rattle.std.proofs.Common.{◌≡◌, ℕ, ◌+◌, ◌≤◌, max, true, List, [], ◌∷◌, length, map, refl, sym, subst, arith}
use Rattle.std.specs.List.{AllByRecursion}
use Rattle.std.proofs.lemmas.List.{length-map}
use Rattle.asm_lang.specs.Modules.{Stmt, Function, Module}
use Rattle.asm_lang.specs.Heights.{leaves_height, stmts_height}
use Rattle.asm_laws_print.specs.Fitting.{FitsParam, FitsLocal, FitsStmts}
use Rattle.asm_lang_valid.specs.Typing.{at_top, all_typed}
use Rattle.asm_lang_valid.specs.Typed.{scope_of, locals_typed}
use Rattle.asm_lang_valid.specs.LimitRows as limits
use Rattle.asm_lang_valid.specs.LimitRows.{ForeignCall, Mark, a_row, a_use, stmts_marks}
use Rattle.wasm2js_translation.specs.Names.{Name}
use Rattle.wasm2js_translation.specs.Words.{stmts_in}
use Rattle.wasm2js_laws_terms.specs.Laws.{IsTrapUse, AreFine}
use Rattle.wasm2js_laws_terms.proofs.FineExprs.{is_identifier}
use Rattle.wasm2js_translation.specs.Helpers.{int_param, zero_variable, function_of}
use Rattle.wasm2js_laws_acceptance.specs.FunctionsFunctions.{IsUse, of_trap, IsFineFunction}

-- ---- variables

zeros_typed : (ls : List Name) → locals_typed (map zero_variable ls) ≡ true
zeros_typed [] = refl
zeros_typed (l ∷ ls) = zeros_typed ls

params_fit : (ps : List Name) → AllByRecursion FitsParam (map int_param ps)
params_fit [] = tt
params_fit (p ∷ ps) = (is_identifier p, params_fit ps)

locals_fit : (ls : List Name) → AllByRecursion FitsLocal (map zero_variable ls)
locals_fit [] = tt
locals_fit (l ∷ ls) = ((is_identifier l, omega arith), locals_fit ls)

leaves_low : {A : Type 0} → (xs : List A) → leaves_height xs ≤ 1
leaves_low [] = omega arith
leaves_low (x ∷ xs) = omega arith

-- ---- foreign calls

pub trap_use_is : (x : Mark) → IsTrapUse x → IsUse of_trap x
trap_use_is (a_row row) h = absurd h
trap_use_is (a_use call at) h = subst (λ c. limits.is_among c of_trap ≡ true) (sym h) refl

pub traps_are : (ms : List Mark) → AllByRecursion IsTrapUse ms → AllByRecursion (IsUse of_trap) ms
traps_are [] h = tt
traps_are (x ∷ ms) h = (trap_use_is x h.0, traps_are ms h.1)

-- ---- the function

module _ (m : Module) (n : Name) (ps ls : List Name) (ss : List Stmt) where
  abbrev pub this : Function
  this = function_of n ps ls ss

  low_enough : (p l s : ℕ) → p ≤ 1 → l ≤ 1 → s ≤ 998 → 1 + max p (max l s) ≤ 999
  low_enough p l s a b c = omega (arith, a, b, c)

  pub made : (uses : List ForeignCall) → all_typed (scope_of m this) at_top (stmts_in ss) ≡ true → FitsStmts (stmts_in ss) → stmts_height (stmts_in ss) ≤ 998
      → ((at : ℕ) → AllByRecursion (IsUse uses) (stmts_marks (scope_of m this) at (stmts_in ss)))
      → length ps ≤ 2000 → length ps + length ls ≤ 50000 → IsFineFunction m uses this
  made uses types prints low marks few all = record {
    is_typed = (let e = zeros_typed ls in rw (e, types) refl);
    printed = record { name = is_identifier n; params = params_fit ps; locals = locals_fit ls; body = prints };
    low = low_enough (leaves_height (map int_param ps)) (leaves_height (map zero_variable ls)) (stmts_height (stmts_in ss)) (leaves_low (map int_param ps)) (leaves_low (map zero_variable ls)) low;
    marks = marks;
    few_params = (let e = length-map ps int_param in subst (λ k. k ≤ 2000) (sym e) few);
    few_variables = (let e = length-map ps int_param in let f = length-map ls zero_variable in omega (arith, e, f, all));
  }

  pub made_of_fine : (h : ℕ) → h ≤ 998 → AreFine (scope_of m this) at_top ss h → length ps ≤ 2000 → length ps + length ls ≤ 50000 → IsFineFunction m of_trap this
  made_of_fine h le f few all = made of_trap f.are_typed f.printed (in_turn f.low le) (λ at. traps_are _ (f.marks at)) few all
    where
      in_turn : {a : ℕ} → a ≤ h → h ≤ 998 → a ≤ 998
      in_turn p q = omega (arith, p, q)
