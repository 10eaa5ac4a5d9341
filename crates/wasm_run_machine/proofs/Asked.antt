-- The call of an import, step by step, and functions that the list has.
use Rattle.std.proofs.Common.{◌≡◌, ℕ, List, [], ◌∷◌, ◌++◌, Some, length, reverse, refl, sym, ap, subst, ◌∙◌}
use Rattle.std.proofs.lemmas.List.{reverse-reverse}
use Rattle.sem_words.specs.declared.word.Word.{Word}
use Rattle.session_lang.specs.Observation.{EndPlain}
use Rattle.session_lang.specs.Script.{WritePlain}
use Rattle.session_lang.specs.Imports.{Given, goes_on, ends, answer_import}
use Rattle.session_replies.specs.Puts.{after_puts}
use Rattle.heap_lang.specs.Heap.{with_run}
use Rattle.wasm_lang.specs.declared.types.ValType.{ValType}
use Rattle.wasm_lang.specs.Instructions.{Instruction}
use Rattle.wasm_lang.specs.Modules.{FunctionType, WasmModule}
use Rattle.wasm_lang_exec.specs.Store.{Store, written}
use Rattle.wasm_lang_exec.specs.Reductions.{an_import, top_of, below_top, result_word}
use Rattle.wasm_laws_drive.specs.Drive.{State, Outcome, Ended}
use Rattle.wasm_laws_drive.specs.Equations.{answered}
use Rattle.wasm_laws_drive.specs.Steps.{goes_with, after_answer, in_function}
use Rattle.wasm_laws_machine.specs.Machine.{MachinePlain, state_of}
use Rattle.wasm_laws_machine.specs.Meaning.{code_in, codes_in, Encloses, Shows, Calls}
use Rattle.wasm_run_machine.specs.Asking.{Asks}

-- byte writes, in two words for the same
pub puts_are_writes : (ws : List WritePlain) (heap : List ℕ) → after_puts ws heap ≡ written ws heap
puts_are_writes [] heap = refl
puts_are_writes (w ∷ ws) heap = puts_are_writes ws (with_run w.at w.bytes heap)

module _ (bodies : ℕ → List Instruction) (m : WasmModule) where
  -- the arguments are taken
  pub import_asks : (v : MachinePlain) (n : ℕ) (r : Outcome) (name : List ℕ) (f : FunctionType) (arguments middle below : List Word)
      → top_of (length f.params) v.values ≡ Some (reverse arguments) → middle ≡ below_top (length f.params) v.values → below ≡ v.below
      → Calls bodies m v (Some (an_import name f)) n r → Asks bodies m (record v { values = middle; below = below }) name arguments f.results n r
  import_asks v n r name f arguments middle below top mid bs s =
      let code = code_in bodies v.enclosing v.function v.at in
      let t : State = record { values = below_top (length f.params) v.values; locals = v.locals; store = v.store; left = n } in
      record {
        around = s.around;
        is_place = s.is_place;
        round = subst (λ b. Encloses bodies v.enclosing v.function (codes_in bodies v.enclosing v.function v.at) b s.around) (sym bs) s.round;
        holds = s.holds ∙ ap (λ o. in_function m s.around (Some (an_import name f)) o code t) top
            ∙ ap (λ args. after_answer m s.around (answer_import name args v.store.replies) f.results code t) (reverse-reverse arguments)
            ∙ ap (λ vs. after_answer m s.around (answer_import name arguments v.store.replies) f.results code (record { values = vs; locals = v.locals; store = v.store; left = n })) (sym mid);
      }

  pub asked_ends : (v : MachinePlain) (n : ℕ) (r : Outcome) (name : List ℕ) (arguments : List Word) (results : List ValType) (e : EndPlain) (store : Store)
      → answer_import name arguments v.store.replies ≡ ends e → store ≡ v.store
      → Asks bodies m v name arguments results n r → r ≡ Ended e store
  asked_ends v n r name arguments results e store is same s =
      s.holds ∙ ap (λ a. after_answer m s.around a results (code_in bodies v.enclosing v.function v.at) (state_of v n)) is ∙ ap (Ended e) (sym same)

  pub asked_shows : (v : MachinePlain) (n : ℕ) (r : Outcome) (name : List ℕ) (arguments values : List Word) (results : List ValType) (g : Given)
      → answer_import name arguments v.store.replies ≡ goes_on g → values ≡ result_word results g.word ++ v.values
      → Asks bodies m v name arguments results n r → Shows bodies m (record v { values = values; store = answered g v.store }) n r
  asked_shows v n r name arguments values results g is vs s =
      let code = code_in bodies v.enclosing v.function v.at in
      record {
        around = s.around;
        is_place = s.is_place;
        round = s.round;
        holds = s.holds ∙ ap (λ a. after_answer m s.around a results code (state_of v n)) is
            ∙ ap (λ vs. goes_with m s.around code (record { values = vs; locals = v.locals; store = answered g v.store; left = n })) (sym vs);
      }
