-- The first values of a function's locals.
use Rattle.std.proofs.Common.{◌≡◌, ℕ, suc, ◌+◌, Bool, true, false, List, [], ◌∷◌, ◌++◌, length, map, Some, refl, sym, ap, ◌∙◌, subst, arith, append_assoc, length-append}
use Rattle.std.specs.Prelude.{◌==◌, slice_get, slice_set, replicate, if◌then◌else◌}
use Rattle.std.proofs.lemmas.Bool.{eqb-true}
use Rattle.sem_words.specs.declared.word.Word.{Word}
use Rattle.sem_words.specs.declared.word.Word.TheVariants.{W32}
use Rattle.wasm_lang.specs.Instructions.{Plain, local_set}
use Rattle.wasm_lang.specs.Modules.{WasmModule}
use Rattle.wasm_lang_exec.specs.Code.{Trees, ◌⊕◌}
use Rattle.wasm_lang_exec.specs.Store.{Store}
use Rattle.wasm_lang_exec.specs.Plain.{with_local}
use Rattle.wasm_laws_drive.proofs.Sequences.{trees_assoc}
use Rattle.wasm_laws_trees.specs.Spelled.{size}
use Rattle.asm_lang.specs.Modules.{Variable}
use Rattle.asm_lang_valid.specs.Typing.{Scope}
use Rattle.asm2wasm_translation.specs.Values as value
use Rattle.asm2wasm_translation.specs.Values.{plains}
use Rattle.asm2wasm_translation.specs.Bodies.{literal_word, first_value, locals_code}
use Rattle.asm2wasm_laws_run.specs.Straight.{reached, on_from, effects}
use Rattle.asm2wasm_laws_run.proofs.Straight.{runs}
use Rattle.asm2wasm_laws_preservation.proofs.Sizes.{sizes_add}
use Rattle.asm2wasm_laws_simulation.specs.Bodies.Followed.{on_code}
use Rattle.asm2wasm_laws_simulation.proofs.Bodies.Scratched.{Reaches}

abbrev pub literals : (heap : ℕ) (c : Scope) → List Variable → List Word
literals heap c vs = map (λ (v : Variable). W32 (literal_word heap c v.init)) vs

abbrev pub zeros : ℕ → List Word
zeros n = replicate n (W32 0)

get_at : {A : Type 0} → (pre : List A) (x : A) (xs : List A) → slice_get (pre ++ (x ∷ xs)) (length pre) ≡ Some x
get_at [] x xs = refl
get_at (y ∷ ys) x xs = get_at ys x xs

set_at : {A : Type 0} → (pre : List A) (x y : A) (xs : List A) → slice_set (pre ++ (x ∷ xs)) (length pre) y ≡ pre ++ (y ∷ xs)
set_at [] x y xs = refl
set_at (z ∷ zs) x y xs = ap (λ l. z ∷ l) (set_at zs x y xs)

module _ (heap : ℕ) (c : Scope) (w : WasmModule) (more : Trees) (st : Store) where
  -- one local
  first_set : (n : ℕ) (pre xs : List Word) (tail : Trees) → Reaches (size (plains (first_value heap c (length pre) n))) (on_code w [] (plains (first_value heap c (length pre) n) ⊕ tail) (pre ++ (W32 0 ∷ xs)) st) (on_code w [] tail (pre ++ (W32 n ∷ xs)) st)
  first_set n pre xs tail = by (n == 0) refl
    where
      by : (b : Bool) → (n == 0) ≡ b → let ps : List Plain = if b then [] else value.number n ∷ local_set (length pre) ∷ [] in
          Reaches (size (plains ps)) (on_code w [] (plains ps ⊕ tail) (pre ++ (W32 0 ∷ xs)) st) (on_code w [] tail (pre ++ (W32 n ∷ xs)) st)
      by true e = record {
        cost = 0;
        few = omega arith;
        by = λ k. let none : 0 + k ≡ k = omega arith in ap (on_code w [] tail (pre ++ (W32 0 ∷ xs)) st) none ∙ ap (λ m. on_code w [] tail (pre ++ (W32 m ∷ xs)) st k) (sym (eqb-true n 0 e));
      }
      by false e = record {
        cost = 1;
        few = omega arith;
        by = λ k.
            runs w (value.number n ∷ local_set (length pre) ∷ []) [] (pre ++ (W32 0 ∷ xs)) st (reached [] (pre ++ (W32 n ∷ xs)) st) tail k
            (ap (λ o. on_from (with_local (length pre) (W32 n) [] o (pre ++ (W32 0 ∷ xs)) st) (effects [])) (get_at pre (W32 0) xs)
            ∙ ap (λ l. Some (reached [] l st)) (set_at pre (W32 0) (W32 n) xs));
      }

  pub locals_set : (vs : List Variable) (pre scratch : List Word)
      → Reaches (size (locals_code heap c (length pre) vs)) (on_code w [] (locals_code heap c (length pre) vs ⊕ more) (pre ++ (zeros (length vs) ++ scratch)) st) (on_code w [] more (pre ++ (literals heap c vs ++ scratch)) st)
  locals_set [] pre scratch = record { cost = 0; few = omega arith; by = λ k. let none : 0 + k ≡ k = omega arith in ap (on_code w [] more (pre ++ scratch) st) none }
  locals_set (v ∷ vs) pre scratch =
      let n = literal_word heap c v.init in
      let first = plains (first_value heap c (length pre) n) in
      let others = locals_code heap c (suc (length pre)) vs in
      let long : length (pre ++ (W32 n ∷ [])) ≡ suc (length pre) = let e = length-append pre (W32 n ∷ []) in omega (arith, e) in
      let x = first_set n pre (zeros (length vs) ++ scratch) (others ⊕ more) in
      let y = subst (λ i. Reaches (size (locals_code heap c i vs)) (on_code w [] (locals_code heap c i vs ⊕ more) ((pre ++ (W32 n ∷ [])) ++ (zeros (length vs) ++ scratch)) st) (on_code w [] more ((pre ++ (W32 n ∷ [])) ++ (literals heap c vs ++ scratch)) st)) long (locals_set vs (pre ++ (W32 n ∷ [])) scratch) in
      let all = sizes_add first others in
      record {
        cost = x.cost + y.cost;
        few = let a = x.few in let b = y.few in omega (arith, a, b, all);
        by = λ k.
            let m : x.cost + y.cost + k ≡ x.cost + (y.cost + k) = omega arith in
            ap (λ t. on_code w [] t (pre ++ (W32 0 ∷ (zeros (length vs) ++ scratch))) st (x.cost + y.cost + k)) (trees_assoc first others more)
            ∙ ap (on_code w [] (first ⊕ (others ⊕ more)) (pre ++ (W32 0 ∷ (zeros (length vs) ++ scratch))) st) m
            ∙ x.by (y.cost + k)
            ∙ ap (λ l. on_code w [] (others ⊕ more) l st (y.cost + k)) (sym (append_assoc pre (W32 n ∷ []) (zeros (length vs) ++ scratch)))
            ∙ y.by k
            ∙ ap (λ l. on_code w [] more l st k) (append_assoc pre (W32 n ∷ []) (literals heap c vs ++ scratch));
      }
