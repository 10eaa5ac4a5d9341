-- A call enters the frame of its function: the arguments are its first locals, and all others are 0.
use Rattle.std.proofs.Common.{◌≡◌, ℕ, zero, suc, ◌+◌, Bool, true, false, List, [], ◌∷◌, ◌++◌, length, map, replicate, Option, Some, refl, sym, ap, ◌∙◌}
use Rattle.std.specs.Prelude.{if◌then◌else◌, reverse}
use Rattle.std.proofs.lemmas.List.{reverse-reverse, length-replicate, replicate-append-replicate}
use Rattle.sem_words.specs.declared.word.Word.{Word}
use Rattle.sem_words.specs.declared.word.Word.TheVariants.{W32}
use Rattle.sem_words.specs.declared.js_value.JsValue.{JsValue}
use Rattle.wasm_lang.specs.declared.types.ValType.{ValType}
use Rattle.wasm_lang.specs.declared.types.ValType.TheVariants.{I32}
use Rattle.wasm_lang.specs.Modules.{WasmModule}
use Rattle.wasm_lang_exec.specs.Code.{Trees, ε, ◌▹◌, call}
use Rattle.wasm_lang_exec.specs.Store.{Store, zeros_of}
use Rattle.wasm_lang_exec.specs.Reductions.{Callee, a_function, callee_at, top_of, below_top, Code}
use Rattle.wasm_laws_drive.specs.Drive.{Outcome, Spent, at, drive, onward}
use Rattle.wasm_laws_drive.specs.Equations.{at_frame, entered, called}
use Rattle.wasm_laws_drive.proofs.Instructions.{call_enters}
use Rattle.asm2wasm_lang.specs.Calling.{int_type}
use Rattle.asm2wasm_laws_preservation.specs.Kept.{word, values}
use Rattle.asm2wasm_laws_preservation.proofs.Foreign.{top_is, below_is, values_length}
use Rattle.asm2wasm_laws_simulation.specs.Bodies.Laws.{results}
use Rattle.asm2wasm_laws_simulation.proofs.Bodies.First.{zeros}

-- ---- locals

pub zeros_are : (n : ℕ) → zeros_of (replicate n I32) ≡ zeros n
zeros_are zero = refl
zeros_are (suc n) = ap (λ ws. W32 0 ∷ ws) (zeros_are n)

pub zeros_split : (all first rest : ℕ) → all ≡ first + rest → zeros_of (replicate all I32) ≡ zeros first ++ zeros rest
zeros_split all first rest e = zeros_are all ∙ ap zeros e ∙ sym (replicate-append-replicate first rest (W32 0))

-- ---- the call

results_many : (wanted : Bool) → length (if wanted then I32 ∷ [] else []) ≡ results wanted
results_many true = refl
results_many false = refl

module _ (w : WasmModule) (index : ℕ) (stack locals : List Word) (st : Store) where
  -- with no reduction left it doesn't
  pub call_waits : (from : List Word) → drive w 0 (Code from (call index ▹ ε)) locals st ≡ Spent st
  call_waits from = call_enters w index ε (at from locals st 0)

  pub call_goes : (wanted : Bool) (count : ℕ) (vs : List JsValue) (more : List ValType) (body : Trees) (k : ℕ)
      → callee_at w index ≡ Some (a_function (int_type count wanted) more body) → length vs ≡ count
      → drive w (suc k) (Code (values vs ++ stack) (call index ▹ ε)) locals st ≡ at_frame w stack (results wanted) ε locals (drive w k (Code [] body) (map word vs ++ zeros_of more) st)
  call_goes wanted count vs more body k callee many =
      let c : Option Callee = Some (a_function (int_type count wanted) more body) in
      let here = at (values vs ++ stack) locals st k in
      let takes : length (replicate count I32) ≡ length (values vs) = length-replicate count I32 ∙ sym many ∙ sym (values_length vs) in
      let inside : List Word → Outcome = λ args. onward w body (at [] (args ++ zeros_of more) st k) in
      call_enters w index ε (at (values vs ++ stack) locals st (suc k))
      ∙ ap (λ c. called w c ε here) callee
      ∙ ap (λ n. entered w c (top_of n (values vs ++ stack)) ε (at (below_top n (values vs ++ stack)) locals st k)) takes
      ∙ ap (λ o. entered w c o ε (at (below_top (length (values vs)) (values vs ++ stack)) locals st k)) (top_is (values vs) stack)
      ∙ ap (λ below. entered w c (Some (values vs)) ε (at below locals st k)) (below_is (values vs) stack)
      ∙ ap (λ n. at_frame w stack n ε locals (inside (reverse (values vs)))) (results_many wanted)
      ∙ ap (λ args. at_frame w stack (results wanted) ε locals (inside args)) (reverse-reverse (map word vs))
