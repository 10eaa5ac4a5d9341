-- Straight-line code, and a choice between two pieces of it.
use Rattle.std.proofs.Common.{◌≡◌, ℕ, zero, suc, ◌+◌, false, List, [], ◌∷◌, ◌++◌, Option, Some, refl, sym, ap, ◌∙◌, arith}
use Rattle.sem_words.specs.declared.word.Word.{Word}
use Rattle.sem_words.specs.declared.word.Word.TheVariants.{W32}
use Rattle.wasm_lang.specs.declared.types.ValType.{ValType}
use Rattle.wasm_lang.specs.Instructions.{Plain, const32, const64}
use Rattle.wasm_lang.specs.Modules.{WasmModule}
use Rattle.wasm_lang_exec.specs.Code.{Trees, ε, ◌▹◌, ◌⊕◌, plain, if_block}
use Rattle.wasm_lang_exec.specs.Store.{Store}
use Rattle.wasm_lang_exec.specs.Plain.{Effect, goes, traps, sticks, do_plain}
use Rattle.wasm_lang_exec.specs.Reductions.{Code, arity_of, choose}
use Rattle.wasm_laws_drive.specs.Drive.{Outcome, at, drive, onward}
use Rattle.wasm_laws_drive.specs.Equations.{is_constant, after, at_label}
use Rattle.wasm_laws_drive.proofs.Instructions.{no_code, narrow_constant, wide_constant, plain_instruction, if_chooses}
use Rattle.asm2wasm_translation.specs.Values.{plains}
use Rattle.asm2wasm_laws_run.specs.Straight.{Reached, reached, on_from, effects, paid}
use Rattle.asm2wasm_laws_run.specs.Laws.{RunsStraight, RunsChoice}

pub plains_none : (ps : List Plain) → plains ps ⊕ ε ≡ plains ps
plains_none [] = refl
plains_none (p ∷ ps) = ap (λ t. plain p ▹ t) (plains_none ps)

pub plains_join : (ps qs : List Plain) → plains (ps ++ qs) ≡ plains ps ⊕ plains qs
plains_join [] qs = refl
plains_join (p ∷ ps) qs = ap (λ t. plain p ▹ t) (plains_join ps qs)

module _ (w : WasmModule) where
  -- the effect of an instruction, and then what follows it
  after_it : (e : Effect) (ps : List Plain) (code : Trees) (values locals : List Word) (s : Store) (to : Reached) (n : ℕ) (end : Outcome)
      → on_from e (effects ps) ≡ Some to
      → ((values locals : List Word) (s : Store) → effects ps values locals s ≡ Some to → drive w n (Code values (plains ps ⊕ code)) locals s ≡ end)
      → after e (at values locals s n) (onward w (plains ps ⊕ code)) ≡ end
  after_it (goes values' locals' s') ps code values locals s to n end h next = next values' locals' s' h
  after_it (traps kind) ps code values locals s to n end h next = cc h
  after_it sticks ps code values locals s to n end h next = cc h

  one_more : (p : Plain) (ps : List Plain) (code : Trees) (values locals : List Word) (s : Store) (to : Reached) (k : ℕ) (end : Outcome)
      → is_constant p ≡ false
      → effects (p ∷ ps) values locals s ≡ Some to
      → ((values locals : List Word) (s : Store) → effects ps values locals s ≡ Some to → drive w (paid ps + k) (Code values (plains ps ⊕ code)) locals s ≡ end)
      → drive w (suc (paid ps) + k) (Code values (plains (p ∷ ps) ⊕ code)) locals s ≡ end
  one_more p ps code values locals s to k end is h next =
      let e : suc (paid ps) + k ≡ suc (paid ps + k) = omega arith in
      ap (λ n. drive w n (Code values (plains (p ∷ ps) ⊕ code)) locals s) e
      ∙ plain_instruction w p (plains ps ⊕ code) (at values locals s (suc (paid ps + k))) is
      ∙ after_it (do_plain p values locals s) ps code values locals s to (paid ps + k) end h next

  pub runs : (ps : List Plain) (values locals : List Word) (s : Store) (to : Reached) (code : Trees) (k : ℕ)
      → effects ps values locals s ≡ Some to
      → drive w (paid ps + k) (Code values (plains ps ⊕ code)) locals s ≡ drive w k (Code to.values code) to.locals to.store
  runs [] values locals s to code k h =
      let none : 0 + k ≡ k = omega arith in
      let e : reached values locals s ≡ to = cc h in
      ap (λ n. drive w n (Code values code) locals s) none ∙ ap (λ (t : Reached). drive w k (Code t.values code) t.locals t.store) e
  runs (const32 n ∷ ps) values locals s to code k h =
      narrow_constant w n (plains ps ⊕ code) (at values locals s (paid ps + k)) ∙ runs ps (W32 n ∷ values) locals s to code k h
  runs (const64 n ∷ ps) values locals s to code k h =
      wide_constant w n (plains ps ⊕ code) (at values locals s (paid ps + k)) ∙ runs ps _ locals s to code k h
  runs (p ∷ ps) values locals s to code k h =
      one_more p ps code values locals s to k (drive w k (Code to.values code) to.locals to.store) refl h (λ values locals s h. runs ps values locals s to code k h)

  chosen_code : (c : ℕ) (first second : List Plain) → choose c (plains first) (plains second) ≡ plains (choose c first second)
  chosen_code zero first second = refl
  chosen_code (suc c) first second = refl

  -- inside the block, and out of it
  inside : (r : Option ValType) (chosen : List Plain) (values locals : List Word) (s : Store) (to : Reached) (code : Trees) (k : ℕ)
      → effects chosen [] locals s ≡ Some to
      → at_label w values (arity_of r) ε code (drive w (paid chosen + suc k) (Code [] (plains chosen)) locals s) ≡ drive w k (Code (to.values ++ values) code) to.locals to.store
  inside r chosen values locals s to code k h =
      ap (λ t. at_label w values (arity_of r) ε code (drive w (paid chosen + suc k) (Code [] t) locals s)) (sym (plains_none chosen))
      ∙ ap (at_label w values (arity_of r) ε code) (runs chosen [] locals s to ε (suc k) h ∙ no_code w (at to.values to.locals to.store (suc k)))

  pub chooses : (r : Option ValType) (c : ℕ) (first second chosen : List Plain) (values locals : List Word) (s : Store) (to : Reached) (code : Trees) (k : ℕ)
      → choose c first second ≡ chosen
      → effects chosen [] locals s ≡ Some to
      → drive w (2 + paid chosen + k) (Code (W32 c ∷ values) (if_block r (plains first) (plains second) ▹ code)) locals s ≡ drive w k (Code (to.values ++ values) code) to.locals to.store
  chooses r c first second chosen values locals s to code k is h =
      let n : 2 + paid chosen + k ≡ suc (paid chosen + suc k) = omega arith in
      ap (λ n. drive w n (Code (W32 c ∷ values) (if_block r (plains first) (plains second) ▹ code)) locals s) n
      ∙ if_chooses w r (plains first) (plains second) code (at (W32 c ∷ values) locals s (suc (paid chosen + suc k)))
      ∙ ap (λ t. at_label w values (arity_of r) ε code (drive w (paid chosen + suc k) (Code [] t) locals s)) (chosen_code c first second ∙ ap plains is)
      ∙ inside r chosen values locals s to code k h

pub runs_straight : RunsStraight
runs_straight w ps values locals s to code k h = runs w ps values locals s to code k h

pub runs_choice : RunsChoice
runs_choice w r c first second chosen values locals s to code k is h = chooses w r c first second chosen values locals s to code k is h
