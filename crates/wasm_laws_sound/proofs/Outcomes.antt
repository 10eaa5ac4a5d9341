-- What some reductions of a typed configuration come to is typed.
use Rattle.std.proofs.Common.{ℕ, zero, suc, List, Option}
use Rattle.sem_words.specs.declared.word.Word.{Word}
use Rattle.wasm_lang.specs.declared.types.ValType.{ValType}
use Rattle.wasm_lang.specs.Modules.{WasmModule}
use Rattle.wasm_lang_exec.specs.Store.{Store}
use Rattle.wasm_lang_exec.specs.Reductions.{Config, Reduct, to, is_values, branches, returns, stops, is_stuck, reduce}
use Rattle.wasm_laws_drive.specs.Drive.{Outcome, halted, driven, drive}
use Rattle.wasm_laws_sound.specs.Configurations.{HaveTypes, IsTypedStore, IsTypedConfig, IsTypedReduct, AreTypedFunctions}
use Rattle.wasm_laws_sound.specs.Outcomes.{IsTypedOutcome}
use Rattle.wasm_laws_sound.specs.Laws.{ReductsAreTyped, OutcomesAreTyped}
use Rattle.wasm_laws_sound.proofs.Reducing.{reduce_typed}
use Rattle.wasm_laws_sound.proofs.Functions.{functions_are_typed}

module _ (m : WasmModule) (functions : AreTypedFunctions m) (types : List ValType) (labels : List (Option ValType)) (result : Option ValType) (after : List ValType) where
  abbrev Comes : Outcome → Type 0
  Comes r = IsTypedOutcome m r types labels result after

  halted_typed : (r : Reduct) (locals : List Word) (s : Store) → IsTypedReduct m r types labels result after → HaveTypes types locals → IsTypedStore m s → Comes (halted r locals s)
  halted_typed (to c locals' s') locals s typed have is_store = is_store
  halted_typed (is_values values) locals s typed have is_store = (typed, record { locals = have; store = is_store })
  halted_typed (branches k values) locals s typed have is_store = is_store
  halted_typed (returns values) locals s typed have is_store = is_store
  halted_typed (stops e s') locals s typed have is_store = is_store
  halted_typed is_stuck locals s typed have is_store = is_store

  abbrev ComesIn : ℕ → Type 0
  ComesIn n = (c : Config) (locals : List Word) (s : Store) → IsTypedConfig m c types labels result after → HaveTypes types locals → IsTypedStore m s → Comes (drive m n c locals s)

  driven_typed : (n : ℕ) (r : Reduct) (locals : List Word) (s : Store)
      → ComesIn n → IsTypedReduct m r types labels result after → HaveTypes types locals → IsTypedStore m s → Comes (driven (drive m n) n r locals s)
  driven_typed n (to c locals' s') locals s before typed have is_store = before c locals' s' typed.0 typed.1 typed.2
  driven_typed n (is_values values) locals s before typed have is_store = (typed, record { locals = have; store = is_store })
  driven_typed n (branches k values) locals s before typed have is_store = (typed.0, typed.1, typed.2, record { locals = have; store = is_store })
  driven_typed n (returns values) locals s before typed have is_store = (typed, record { locals = have; store = is_store })
  driven_typed n (stops e s') locals s before typed have is_store = tt
  driven_typed n is_stuck locals s before typed have is_store = absurd typed

  drive_typed : (n : ℕ) → ComesIn n
  drive_typed zero c locals s typed have is_store =
      halted_typed (reduce m c locals s) locals s (reduce_typed m functions c types labels result after locals s typed have is_store) have is_store
  drive_typed (suc n) c locals s typed have is_store =
      driven_typed n (reduce m c locals s) locals s (drive_typed n) (reduce_typed m functions c types labels result after locals s typed have is_store) have is_store

pub reducts_are_typed : ReductsAreTyped
reducts_are_typed m whole = reduce_typed m (functions_are_typed m whole)

pub outcomes_are_typed : OutcomesAreTyped
outcomes_are_typed m whole n c types labels result after locals s = drive_typed m (functions_are_typed m whole) types labels result after n c locals s
