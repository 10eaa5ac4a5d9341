-- What holds of straight-line code and of its guards.
use Rattle.std.specs.Prelude.{◌≡◌, ℕ, ◌+◌, ◌^◌, ◌≤◌, Bool, true, false, List, [], ◌∷◌, ◌++◌, length, Option, Some, slice_get, slice_set}
use Rattle.sem_words.specs.declared.word.Word.{Word}
use Rattle.sem_words.specs.declared.word.Word.TheVariants.{W32}
use Rattle.wasm_lang.specs.declared.types.ValType.{ValType}
use Rattle.wasm_lang.specs.Instructions.{Plain}
use Rattle.wasm_lang.specs.Modules.{WasmModule}
use Rattle.wasm_lang_exec.specs.Code.{Trees, ◌▹◌, ◌⊕◌, if_block}
use Rattle.wasm_lang_exec.specs.Store.{Store}
use Rattle.wasm_lang_exec.specs.Plain.{put_memory}
use Rattle.wasm_lang_exec.specs.Reductions.{Code, choose}
use Rattle.wasm_laws_drive.specs.Drive.{drive}
use Rattle.asm_lang_valid.specs.declared.meaning.Element.{Element}
use Rattle.asm_lang_valid.specs.Scope.{shift_of, a_view}
use Rattle.asm2wasm_translation.specs.Values.{plains, store_code}
use Rattle.asm2wasm_laws_heap.specs.Guards.{is_in_heap, stored_memory}
use Rattle.asm2wasm_laws_run.specs.Straight.{Reached, effects, paid}

-- ---- straight-line code

abbrev pub RunsStraight : Type 0
RunsStraight =
    (w : WasmModule) (ps : List Plain) (values locals : List Word) (s : Store) (to : Reached) (code : Trees) (k : ℕ)
    → effects ps values locals s ≡ Some to
    → drive w (paid ps + k) (Code values (plains ps ⊕ code)) locals s ≡ drive w k (Code to.values code) to.locals to.store

-- an if of two arms of such code, of which one is chosen: a reduction to enter it, and one to leave it
abbrev pub RunsChoice : Type 0
RunsChoice =
    (w : WasmModule) (r : Option ValType) (c : ℕ) (first second chosen : List Plain) (values locals : List Word) (s : Store) (to : Reached) (code : Trees) (k : ℕ)
    → choose c first second ≡ chosen
    → effects chosen [] locals s ≡ Some to
    → drive w (2 + paid chosen + k) (Code (W32 c ∷ values) (if_block r (plains first) (plains second) ▹ code)) locals s ≡ drive w k (Code (to.values ++ values) code) to.locals to.store

-- ---- a guarded store, with the place of its element and then its value on the stack

-- the number of its reductions
abbrev pub store_cost : Bool → ℕ
store_cost true = 8
store_cost false = 5

-- it writes where the element begins in the heap, whatever more the memory has, and changes x and y alone
abbrev pub StoresGuarded : Type 0
StoresGuarded =
    (w : WasmModule) (v : Element) (size x y place word : ℕ) (old_x old_y : Word) (values locals : List Word) (s : Store) (code : Trees) (k : ℕ)
    → (is_in_heap size place ≡ true → place + 2 ^ shift_of v ≤ length s.memory) → (x ≡ y → ⊥)
    → slice_get locals x ≡ Some old_x → slice_get locals y ≡ Some old_y
    → let inside = is_in_heap size place in
    drive w (store_cost inside + k) (Code (W32 word ∷ W32 place ∷ values) (store_code size x y (a_view v) ⊕ code)) locals s
    ≡ drive w k (Code values code) (slice_set (slice_set locals y (W32 word)) x (W32 place)) (put_memory (stored_memory (shift_of v) place word inside s.memory) s)
