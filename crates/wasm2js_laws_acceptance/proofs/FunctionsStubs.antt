-- What stands for missing entries of a table, and the function that gives the last high word, are fine.
use Rattle.std.proofs.Common.{◌≡◌, ℕ, zero, suc, ◌+◌, ◌/◌, ◌%◌, ◌^◌, ◌≤◌, ◌<◌, Bool, true, false, List, [], ◌∷◌, length, map, Some, refl, sym, ap, ◌∙◌, subst, arith}
use Rattle.std.specs.Prelude.{◌==◌, if◌then◌else◌}
use Rattle.std.specs.List.{list_all, range_with_len}
use Rattle.std.proofs.lemmas.List.{length-map}
use Rattle.wasm_lang.specs.Modules.{WasmModule}
use Rattle.asm_lang.specs.Modules.{Stmt, Function, returns}
use Rattle.asm_lang_valid.specs.Typing.{Scope, at_top}
use Rattle.asm_lang_valid.specs.Typed.{scope_of}
use Rattle.wasm2js_translation.specs.Names.{Name, numbered, fixed, last_high}
use Rattle.wasm2js_translation.specs.Words.{natural, signed_number, trap_call}
use Rattle.wasm2js_laws_terms.proofs.FineExprs.{intish, variable_fine, signed_fine}
use Rattle.wasm2js_laws_terms.proofs.FineActions.{trap_fine}
use Rattle.wasm2js_translation.specs.Bodies.{word_in, high_result}
use Rattle.wasm2js_translation.specs.Helpers.{argument, function_of}
use Rattle.wasm2js_translation.specs.Modules.{high_function, translated}
use Rattle.wasm2js_laws_scopes.specs.Laws.{is_own}
use Rattle.wasm2js_laws_scopes.specs.Provided.{HasFixed}
use Rattle.wasm2js_laws_scopes.proofs.HeadNames.{heads_are_provided}
use Rattle.wasm2js_laws_typed.specs.Constructs.{AllFine}
use Rattle.wasm2js_laws_typed.proofs.FineBlocks.{is_higher, together}
use Rattle.wasm2js_laws_acceptance.specs.FunctionsFunctions.{IsFineFunction, of_trap}
use Rattle.wasm2js_laws_acceptance.specs.FunctionsLaws.{StubsAreFine, HighIsFine}
use Rattle.wasm2js_laws_acceptance.proofs.FunctionsMade.{made_of_fine}
use Rattle.wasm2js_laws_acceptance.proofs.FunctionsReturning.{returned_fine, zero_signed}

pub arguments_own : (a n : ℕ) → list_all is_own (map argument (range_with_len a n)) ≡ true
arguments_own a zero = refl
arguments_own a (suc n) = arguments_own (a + 1) n

so_long : (a n : ℕ) → length (range_with_len a n) ≡ n
so_long a zero = refl
so_long a (suc n) = ap suc (so_long (a + 1) n)

arguments_long : (n : ℕ) → length (map argument (range_with_len 0 n)) ≡ n
arguments_long n = length-map (range_with_len 0 n) argument ∙ so_long 0 n

module _ (w : WasmModule) (name : Name) (kind n : ℕ) (small : kind < 2 ^ 31) (few : n ≤ 2000) where
  abbrev body : Bool → List Stmt
  body b = trap_call kind ∷ (if b then returns (Some (natural 0)) ∷ [] else [])

  abbrev stub : Bool → Function
  stub b = function_of name (map argument (range_with_len 0 n)) [] (body b)

  abbrev s : Bool → Scope
  s b = scope_of (translated w) (stub b)

  given : (b : Bool) → HasFixed (s b)
  given b = heads_are_provided w name (map argument (range_with_len 0 n)) [] (body b) (arguments_own 0 n) refl

  traps : (b : Bool) → AllFine (s b) at_top 3 (trap_call kind ∷ [])
  traps b = (trap_fine (s b) at_top kind (given b).traps small, tt)

  body_fine : (b : Bool) → AllFine (s b) at_top 3 (body b)
  body_fine true = ((traps true).0, (is_higher (s true) at_top _ 2 3 (omega arith) (returned_fine (s true) at_top (natural 0) 1 refl (zero_signed (s true))), tt))
  body_fine false = traps false

  stub_fine : (b : Bool) → IsFineFunction (translated w) of_trap (stub b)
  stub_fine b =
      let e = arguments_long n in
      made_of_fine (translated w) name (map argument (range_with_len 0 n)) [] (body b) 3 (omega arith) (together (s b) at_top 3 (body b) (body_fine b)) (subst (λ k. k ≤ 2000) (sym e) few) (subst (λ k. k + 0 ≤ 50000) (sym e) (omega (arith, few)))

half : (n : ℕ) → n < 4002 → n / 2 ≤ 2000
half n h = omega (arith, h)

pub stubs_are_fine : StubsAreFine
stubs_are_fine w name kind stub small few = stub_fine w (numbered name stub) kind (stub / 2) small (half stub few) (stub % 2 == 1)

pub high_is_fine : HighIsFine
high_is_fine w =
    let given = heads_are_provided w (fixed last_high) [] [] (returns (Some (signed_number (word_in high_result))) ∷ []) refl refl in
    let s = scope_of (translated w) high_function in
    made_of_fine (translated w) (fixed last_high) [] [] (returns (Some (signed_number (word_in high_result))) ∷ []) 3 (omega arith)
    (together s at_top 3 _ (returned_fine s at_top (signed_number (word_in high_result)) 2 refl (signed_fine s (intish s (variable_fine s high_result given.high))), tt)) (omega arith) (omega arith)
