-- Statements of helpers that write, with what comes after them.
use Rattle.std.proofs.Common.{◌≡◌, ℕ, false, List, ◌∷◌, ℤ, refl, sym, subst}
use Rattle.sem_words.specs.declared.js_value.JsValue.{JsValue}
use Rattle.sem_words.specs.declared.js_value.JsValue.TheVariants.{Whole}
use Rattle.sem_words.specs.JsValues.{to_uint32_of}
use Rattle.heap_lang.specs.declared.kind.ViewKind.TheVariants.{U8, I32}
use Rattle.heap_lang.specs.Heap.{store}
use Rattle.asm_lang.specs.Modules.{Stmt}
use Rattle.asm_lang_valid.specs.declared.meaning.Element.TheVariants.{Uint8, Int32}
use Rattle.asm_lang_valid.specs.Scope.{a_view}
use Rattle.asm_lang_valid.specs.Typing.{Scope, named}
use Rattle.asm_lang_exec.specs.Runs as runs
use Rattle.asm_lang_exec.specs.Runs.{Place, Run, wrong, after, and_then, write}
use Rattle.asm_lang_exec.specs.Values.{Calls, write_element}
use Rattle.asm_lang_exec.specs.Meaning.{Completion, eval, normal, unless_left}
use Rattle.wasm2js_translation.specs.Names.{Name, spelled, view_of_bytes, view_of_words}
use Rattle.wasm2js_translation.specs.Words.{Term, write_byte, write_whole, name_of, expr, int_of, simple_statement}
use Rattle.wasm2js_translation.specs.Helpers.{sets}
use Rattle.wasm2js_laws_places.specs.Straight.{Words, value, index_at}
use Rattle.wasm2js_laws_actions.proofs.Reading.{read_then}
use Rattle.wasm2js_laws_actions.proofs.Evaluated.{index_then}
use Rattle.wasm2js_laws_helpers.proofs.Bodies.{run}
use Rattle.wasm2js_laws_preservation.proofs.StoresFound.{Found, expr_read, int_read}

module _ (calls : Calls) (c : Scope) (turns : ℕ) (words : Words) where
  -- what comes after a statement that gives a value
  abbrev pub Onward : (rest : List Stmt) (P : Run Completion → Type 0) → Run JsValue → Type 0
  Onward rest P r = P (after (after r (λ v. runs.gives normal)) (λ d. unless_left d (run calls c turns rest)))

  pub byte_then : (at t : Term) (rest : List Stmt) (p : Place) (P : Run Completion → Type 0) → P wrong → named c (name_of view_of_bytes) ≡ a_view Uint8
      → Found calls c words p at → Found calls c words p t
      → P (run calls c turns rest (record p { heap = store U8 (index_at 0 (value at words p.heap)) (value t words p.heap) p.heap }))
      → P (run calls c turns (simple_statement (write_byte at t) ∷ rest) p)
  byte_then at t rest p P w view kat kt f =
      index_then calls c 0 (expr at) (value at words p.heap) p (Onward rest P) (λ x. and_then (eval false calls c (int_of t)) (λ v. write_element (named c (name_of view_of_bytes)) x v)) refl w
      (expr_read calls c words p at kat)
      (read_then (Onward rest P) (value t words p.heap) p (eval false calls c (int_of t) p) (λ v. write_element (named c (name_of view_of_bytes)) (Whole i) v) w (int_read calls c words p t kt)
      (λ v e. subst (λ m. Onward rest P (write_element m (Whole i) v p)) (sym view)
      (subst (λ y. P (run calls c turns rest (record p { heap = store U8 i y p.heap }))) (sym e) f)))
    where
      i : ℤ
      i = index_at 0 (value at words p.heap)

  pub whole_then : (at t : Term) (rest : List Stmt) (p : Place) (P : Run Completion → Type 0) → P wrong → named c (name_of view_of_words) ≡ a_view Int32
      → Found calls c words p at → Found calls c words p t
      → P (run calls c turns rest (record p { heap = store I32 (index_at 2 (value at words p.heap)) (value t words p.heap) p.heap }))
      → P (run calls c turns (simple_statement (write_whole at t) ∷ rest) p)
  whole_then at t rest p P w view kat kt f =
      index_then calls c 2 (expr at) (value at words p.heap) p (Onward rest P) (λ x. and_then (eval false calls c (int_of t)) (λ v. write_element (named c (name_of view_of_words)) x v)) refl w
      (expr_read calls c words p at kat)
      (read_then (Onward rest P) (value t words p.heap) p (eval false calls c (int_of t) p) (λ v. write_element (named c (name_of view_of_words)) (Whole i) v) w (int_read calls c words p t kt)
      (λ v e. subst (λ m. Onward rest P (write_element m (Whole i) v p)) (sym view)
      (subst (λ y. P (run calls c turns rest (record p { heap = store I32 i y p.heap }))) (sym e) f)))
    where
      i : ℤ
      i = index_at 2 (value at words p.heap)

  -- a variable is set to a value of this word
  pub put_then : (n : Name) (t : Term) (rest : List Stmt) (p : Place) (P : Run Completion → Type 0) → P wrong → Found calls c words p t
      → ((v : JsValue) → to_uint32_of v ≡ value t words p.heap → Onward rest P (write (spelled n) v p)) → P (run calls c turns (sets n t ∷ rest) p)
  put_then n t rest p P w kt f =
      read_then (Onward rest P) (value t words p.heap) p (eval false calls c (int_of t) p) (λ v. write (spelled n) v) w (int_read calls c words p t kt) f
