-- A guarded store.
use Rattle.std.proofs.Common.{◌≡◌, ℕ, zero, suc, ◌+◌, ◌^◌, ◌<◌, ◌≤◌, Bool, true, false, List, [], ◌∷◌, ◌++◌, length, Some, None, refl, sym, ap, ◌∙◌, arith}
use Rattle.std.specs.Prelude.{slice_get, slice_set, nat_lt}
use Rattle.sem_words.specs.declared.word.Word.{Word}
use Rattle.sem_words.specs.declared.word.Word.TheVariants.{W32}
use Rattle.sem_words.specs.declared.word.Rel.TheVariants as rels
use Rattle.heap_lang.specs.Heap.{is_inside, store_bytes}
use Rattle.heap_lang.proofs.RunLemmas.{is_inside_within}
use Rattle.wasm_lang.specs.Instructions as code
use Rattle.wasm_lang.specs.Instructions.{Plain, rel32, local_get, local_set, local_tee}
use Rattle.wasm_lang_exec.specs.Code.{Trees, ε, ◌▹◌, ◌⊕◌, if_block}
use Rattle.wasm_lang_exec.specs.Store.{Store}
use Rattle.wasm_lang_exec.specs.Plain.{flag, pushed, with_local, stored, put_memory}
use Rattle.wasm_lang_exec.specs.Reductions.{Code}
use Rattle.wasm_laws_drive.specs.Drive.{drive}
use Rattle.asm_lang_valid.specs.declared.meaning.Element.{Element}
use Rattle.asm_lang_valid.specs.Scope.{shift_of, a_view}
use Rattle.asm2wasm_translation.specs.Values.{plains, number, access, store_code}
use Rattle.asm2wasm_laws_run.specs.Straight.{reached, on_from, effects, paid}
use Rattle.asm2wasm_laws_heap.specs.Guards.{is_in_heap, stored_memory}
use Rattle.asm2wasm_laws_run.specs.Laws.{store_cost, StoresGuarded}
use Rattle.asm2wasm_laws_run.proofs.Straight.{runs, chooses}

-- ---- locals

pub get_same : {A : Type 0} → (xs : List A) (i : ℕ) (old x : A) → slice_get xs i ≡ Some old → slice_get (slice_set xs i x) i ≡ Some x
get_same [] i old x h = cc h
get_same (y ∷ xs) zero old x h = refl
get_same (y ∷ xs) (suc i) old x h = get_same xs i old x h

pub get_other : {A : Type 0} → (xs : List A) (i j : ℕ) (x : A) → (j ≡ i → ⊥) → slice_get (slice_set xs i x) j ≡ slice_get xs j
get_other [] i j x h = refl
get_other (y ∷ xs) zero zero x h = absurd (h refl)
get_other (y ∷ xs) zero (suc j) x h = refl
get_other (y ∷ xs) (suc i) zero x h = refl
get_other (y ∷ xs) (suc i) (suc j) x h = get_other xs i j x (λ e. h (ap (λ n. suc n) e))

-- ---- the code

-- the value goes into y and the place into x, and the guard is left
abbrev guard : (size x y : ℕ) → List Plain
guard size x y = local_set y ∷ local_tee x ∷ number size ∷ rel32 rels.LtU ∷ []

abbrev arm : Element → (x y : ℕ) → List Plain
arm v x y = local_get x ∷ local_get y ∷ code.store (access v false) (shift_of v) 0 ∷ []

module _ (x y place word : ℕ) (old_x old_y : Word) (locals : List Word) (differ : x ≡ y → ⊥) (at_x : slice_get locals x ≡ Some old_x) (at_y : slice_get locals y ≡ Some old_y) where
  abbrev left : List Word
  left = slice_set (slice_set locals y (W32 word)) x (W32 place)

  x_before : slice_get (slice_set locals y (W32 word)) x ≡ Some old_x
  x_before = get_other locals y x (W32 word) differ ∙ at_x

  x_after : slice_get left x ≡ Some (W32 place)
  x_after = get_same (slice_set locals y (W32 word)) x old_x (W32 place) x_before

  y_after : slice_get left y ≡ Some (W32 word)
  y_after = get_other (slice_set locals y (W32 word)) x y (W32 place) (λ e. differ (sym e)) ∙ get_same locals y old_y (W32 word) at_y

  guarded : (size : ℕ) (values : List Word) (s : Store)
      → effects (guard size x y) (W32 word ∷ W32 place ∷ values) locals s ≡ Some (reached (W32 (flag (nat_lt place size)) ∷ values) left s)
  guarded size values s =
      ap (λ o. on_from (with_local y (W32 word) (W32 place ∷ values) o locals s) (effects (local_tee x ∷ number size ∷ rel32 rels.LtU ∷ []))) at_y
      ∙ ap (λ o. on_from (with_local x (W32 place) (W32 place ∷ values) o (slice_set locals y (W32 word)) s) (effects (number size ∷ rel32 rels.LtU ∷ []))) x_before

  writes : (v : Element) (s : Store) → place + 2 ^ shift_of v ≤ length s.memory
      → effects (arm v x y) [] left s ≡ Some (reached [] left (put_memory (store_bytes place (2 ^ shift_of v) word s.memory) s))
  writes v s fits =
      let k = shift_of v in
      let last = code.store (access v false) k 0 in
      let all : is_inside (place + 0) (2 ^ k) s.memory ≡ true = is_inside_within (place + 0) (2 ^ k) s.memory (omega (arith, fits)) in
      let none : place + 0 ≡ place = omega arith in
      ap (λ o. on_from (pushed o [] left s) (effects (local_get y ∷ last ∷ []))) x_after
      ∙ ap (λ o. on_from (pushed o (W32 place ∷ []) left s) (effects (last ∷ []))) y_after
      ∙ ap (λ b. on_from (stored b (place + 0) (2 ^ k) word [] left s) (effects [])) all
      ∙ ap (λ at. Some (reached [] left (put_memory (store_bytes at (2 ^ k) word s.memory) s))) none

-- the store is the guard, and an if
in_parts : (v : Element) (size x y : ℕ) (after : Trees) → store_code size x y (a_view v) ⊕ after ≡ plains (guard size x y) ⊕ (if_block None (plains (arm v x y)) (plains []) ▹ after)
in_parts v size x y after = refl

pub stores_guarded : StoresGuarded
stores_guarded w v size x y place word old_x old_y values locals s code k there differ at_x at_y =
    by (is_in_heap size place) refl
  where
    by : (inside : Bool) → is_in_heap size place ≡ inside
        → drive w (store_cost inside + k) (Code (W32 word ∷ W32 place ∷ values) (store_code size x y (a_view v) ⊕ code)) locals s
        ≡ drive w k (Code values code) (slice_set (slice_set locals y (W32 word)) x (W32 place)) (put_memory (stored_memory (shift_of v) place word inside s.memory) s)
    by true is =
        let g = guard size x y in
        let a = arm v x y in
        let l = left x y place word old_x old_y locals differ at_x at_y in
        let rest = if_block None (plains a) (plains []) ▹ code in
        let all : store_cost true + k ≡ 3 + (2 + paid a + k) = omega arith in
        let test : effects g (W32 word ∷ W32 place ∷ values) locals s ≡ Some (reached (W32 1 ∷ values) l s)
        = guarded x y place word old_x old_y locals differ at_x at_y size values s ∙ ap (λ b. Some (reached (W32 (flag b) ∷ values) l s)) is in
        let to = reached [] l (put_memory (store_bytes place (2 ^ shift_of v) word s.memory) s) in
        ap (λ n. drive w n (Code (W32 word ∷ W32 place ∷ values) (store_code size x y (a_view v) ⊕ code)) locals s) all
        ∙ ap (λ t. drive w (3 + (2 + paid a + k)) (Code (W32 word ∷ W32 place ∷ values) t) locals s) (in_parts v size x y code)
        ∙ runs w g (W32 word ∷ W32 place ∷ values) locals s (reached (W32 1 ∷ values) l s) rest (2 + paid a + k) test
        ∙ chooses w None 1 a [] a values l s to code k refl (writes x y place word old_x old_y locals differ at_x at_y v s (there is))
    by false is =
        let g = guard size x y in
        let a = arm v x y in
        let l = left x y place word old_x old_y locals differ at_x at_y in
        let rest = if_block None (plains a) (plains []) ▹ code in
        let all : store_cost false + k ≡ 3 + (2 + 0 + k) = omega arith in
        let test : effects g (W32 word ∷ W32 place ∷ values) locals s ≡ Some (reached (W32 0 ∷ values) l s)
        = guarded x y place word old_x old_y locals differ at_x at_y size values s ∙ ap (λ b. Some (reached (W32 (flag b) ∷ values) l s)) is in
        ap (λ n. drive w n (Code (W32 word ∷ W32 place ∷ values) (store_code size x y (a_view v) ⊕ code)) locals s) all
        ∙ ap (λ t. drive w (3 + (2 + 0 + k)) (Code (W32 word ∷ W32 place ∷ values) t) locals s) (in_parts v size x y code)
        ∙ runs w g (W32 word ∷ W32 place ∷ values) locals s (reached (W32 0 ∷ values) l s) rest (2 + 0 + k) test
        ∙ chooses w None 0 a [] [] values l s (reached [] l s) code k refl refl
