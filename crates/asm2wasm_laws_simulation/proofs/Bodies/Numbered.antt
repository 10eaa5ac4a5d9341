-- How a long switch finds the number of its first clause.
use Rattle.std.proofs.Common.{◌≡◌, ℕ, zero, suc, ◌+◌, ◌^◌, Bool, true, false, not, List, [], ◌∷◌, Some, None, ℤ, pos, refl, ap, ◌∙◌, subst, arith}
use Rattle.std.specs.Prelude.{◌==◌, slice_get, slice_set, if◌then◌else◌}
use Rattle.sem_words.specs.declared.word.Word.{Word}
use Rattle.sem_words.specs.declared.word.Word.TheVariants.{W32}
use Rattle.sem_words.specs.declared.word.Rel.TheVariants as rels
use Rattle.sem_words.specs.Words.{word_of}
use Rattle.wasm_lang.specs.Instructions.{local_get, local_set, rel32}
use Rattle.wasm_lang_exec.specs.Code.{Trees, ε, ◌▹◌, ◌⊕◌, br_if}
use Rattle.wasm_lang_exec.specs.Store.{Store}
use Rattle.wasm_lang_exec.specs.Plain.{flag, pushed, with_local}
use Rattle.wasm_laws_drive.specs.Drive.{Branch, at, onward}
use Rattle.wasm_laws_drive.proofs.Instructions.{br_if_chooses}
use Rattle.wasm_laws_trees.specs.Spelled.{size}
use Rattle.asm_types.specs.Values.{is_between, least}
use Rattle.asm_lang.specs.Modules.{Clauses, no_clauses, clauses}
use Rattle.asm_lang_valid.specs.Typing.{values, in_range}
use Rattle.asm_lang_exec.specs.Meaning.{is_case, before_case, has_case}
use Rattle.asm2wasm_translation.specs.Values as value
use Rattle.asm2wasm_translation.specs.Values.{plains}
use Rattle.asm2wasm_translation.specs.Bodies.{case_numbers}
use Rattle.asm2wasm_laws_run.specs.Straight.{reached, on_from, effects}
use Rattle.asm2wasm_laws_run.proofs.Straight.{runs}
use Rattle.asm2wasm_laws_run.proofs.Guarded.{get_same, get_other}
use Rattle.asm2wasm_laws_preservation.specs.Kept.{Surroundings}
use Rattle.asm2wasm_laws_simulation.specs.Bodies.Followed.{on_code}
use Rattle.asm2wasm_laws_simulation.proofs.Bodies.Left.{out_to, out_next, no_more}
use Rattle.asm2wasm_laws_simulation.proofs.Bodies.Tested.{chosen_by}
use Rattle.asm2wasm_laws_simulation.proofs.Bodies.Dispatched.{case_range, equal_words}
use Rattle.asm2wasm_laws_simulation.proofs.Bodies.Scratched.{Reaches}

set_twice : {A : Type 0} → (xs : List A) (i : ℕ) (a b : A) → slice_set (slice_set xs i a) i b ≡ slice_set xs i b
set_twice [] i a b = refl
set_twice (x ∷ xs) zero a b = refl
set_twice (x ∷ xs) (suc i) a b = ap (λ l. x ∷ l) (set_twice xs i a b)

module _ (s : Surroundings) (more : Trees) (t number : ℕ) (apart : t ≡ number → ⊥) (z : ℤ) (fits : is_between least (pos (2 ^ 31)) z ≡ true) (to : ℕ) where
  abbrev tests : ℕ → Clauses → Trees
  tests i cs = case_numbers t number i cs ⊕ plains (value.number to ∷ local_set number ∷ [])

  -- the number is set, behind the block
  abbrev Numbered : (most : ℕ) → Trees → List Word → Store → ℕ → Type 0
  Numbered most code l st n = Reaches (1 + most) (λ k. out_to s more (on_code s.target [] code l st k)) (on_code s.target [] more (slice_set l number (W32 n)) st)

  pub numbers : (cs : Clauses) (i : ℕ) → in_range (values cs) ≡ true → (l : List Word) (st : Store) (old : Word) → slice_get l t ≡ Some (W32 (word_of 32 z)) → slice_get l number ≡ Some old
      → Numbered (size (tests i cs)) (tests i cs) l st (if has_case z cs then i + before_case z cs else to)
  numbers no_clauses i h l st old got at_number = record {
    cost = 2;
    few = omega arith;
    by = λ k.
        let n : 2 + k ≡ 1 + (1 + k) = omega arith in
        ap (λ m. out_to s more (on_code s.target [] (tests i no_clauses) l st m)) n
        ∙ ap (out_to s more) (runs s.target (value.number to ∷ local_set number ∷ []) [] l st (reached [] (slice_set l number (W32 to)) st) ε (1 + k)
        (ap (λ o. on_from (with_local number (W32 to) [] o l st) (effects [])) at_number) ∙ no_more s (slice_set l number (W32 to)) st (1 + k))
        ∙ out_next s more (slice_set l number (W32 to)) st k;
  }
  numbers (clauses None ss cs) i h l st old got at_number =
      let n : suc i + before_case z cs ≡ i + suc (before_case z cs) = omega arith in
      subst (λ n. Numbered (size (tests (suc i) cs)) (tests (suc i) cs) l st (if has_case z cs then n else to)) n (numbers cs (suc i) h l st old got at_number)
  numbers (clauses (Some v) ss cs) i h l st old got at_number =
      by (is_case z (Some v)) (equal_words z v fits (case_range v (values cs) h).0)
      (numbers cs (suc i) (case_range v (values cs) h).1 (slice_set l number (W32 i)) st (W32 i) still (get_same l number old (W32 i) at_number))
    where
      rest : Trees
      rest = tests (suc i) cs

      l' : List Word
      l' = slice_set l number (W32 i)

      still : slice_get (slice_set l number (W32 i)) t ≡ Some (W32 (word_of 32 z))
      still = get_other l number t (W32 i) apart ∙ got

      whole : Trees
      whole = plains (value.number i ∷ local_set number ∷ local_get t ∷ value.number (word_of 32 v) ∷ rel32 rels.Eq ∷ []) ⊕ (br_if 0 ▹ rest)

      tested : (b : Bool) → (word_of 32 z == word_of 32 v) ≡ b → (k : ℕ) → on_code s.target [] whole l st (4 + k) ≡ (if b then Branch 0 (at [] l' st k) else onward s.target rest (at [] l' st k))
      tested b e k =
          let n : 4 + k ≡ 3 + suc k = omega arith in
          ap (on_code s.target [] whole l st) n
          ∙ runs s.target (value.number i ∷ local_set number ∷ local_get t ∷ value.number (word_of 32 v) ∷ rel32 rels.Eq ∷ []) [] l st (reached (W32 (flag (word_of 32 z == word_of 32 v)) ∷ []) l' st) (br_if 0 ▹ rest) (suc k)
          (ap (λ o. on_from (with_local number (W32 i) [] o l st) (effects (local_get t ∷ value.number (word_of 32 v) ∷ rel32 rels.Eq ∷ []))) at_number
          ∙ ap (λ o. on_from (pushed o [] l' st) (effects (value.number (word_of 32 v) ∷ rel32 rels.Eq ∷ []))) still)
          ∙ ap (λ b. on_code s.target (W32 (flag b) ∷ []) (br_if 0 ▹ rest) l' st (suc k)) e
          ∙ br_if_chooses s.target 0 rest (at (W32 (flag b) ∷ []) l' st (suc k))
          ∙ chosen_by (flag b) b (Branch 0 (at [] l' st k)) (onward s.target rest (at [] l' st k)) (flagged b)
        where
          flagged : (b : Bool) → (flag b == 0) ≡ not b
          flagged true = refl
          flagged false = refl

      by : (b : Bool) → (word_of 32 z == word_of 32 v) ≡ b → Numbered (size (tests (suc i) cs)) (tests (suc i) cs) (slice_set l number (W32 i)) st (if has_case z cs then suc i + before_case z cs else to)
          → Numbered (size whole) whole l st (if (if b then true else has_case z cs) then i + (if b then 0 else suc (before_case z cs)) else to)
      by true e x = record {
        cost = 4;
        few = omega arith;
        by = λ k. let n : i ≡ i + 0 = omega arith in ap (out_to s more) (tested true e k) ∙ ap (λ n. on_code s.target [] more (slice_set l number (W32 n)) st k) n;
      }
      by false e x =
          let n : suc i + before_case z cs ≡ i + suc (before_case z cs) = omega arith in
          record {
            cost = 4 + x.cost;
            few = let less = x.few in omega (arith, less);
            by = λ k.
                let m : 4 + x.cost + k ≡ 4 + (x.cost + k) = omega arith in
                ap (λ m. out_to s more (on_code s.target [] whole l st m)) m ∙ ap (out_to s more) (tested false e (x.cost + k)) ∙ x.by k
                ∙ ap (λ l. on_code s.target [] more l st k) (set_twice l number (W32 i) (W32 (if has_case z cs then suc i + before_case z cs else to)))
                ∙ ap (λ n. on_code s.target [] more (slice_set l number (W32 (if has_case z cs then n else to))) st k) n;
          }
