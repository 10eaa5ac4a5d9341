-- How a short switch finds its clause.
use Rattle.std.proofs.Common.{◌≡◌, ℕ, suc, ◌+◌, ◌^◌, Bool, true, false, not, List, [], ◌∷◌, Some, None, ℤ, pos, refl, ap, ◌∙◌, subst, arith}
use Rattle.std.specs.Prelude.{◌==◌, slice_get, if◌then◌else◌}
use Rattle.std.proofs.lemmas.Bool.{and_parts}
use Rattle.std.proofs.lemmas.Bool.Decides.{nat_tests}
use Rattle.std.proofs.lemmas.Int.{ints}
use Rattle.sem_words.specs.declared.word.Word.{Word}
use Rattle.sem_words.specs.declared.word.Word.TheVariants.{W32}
use Rattle.sem_words.specs.declared.word.Rel.TheVariants as rels
use Rattle.sem_words.specs.Words.{word_of}
use Rattle.wasm_lang.specs.Instructions.{local_get, rel32}
use Rattle.wasm_lang_exec.specs.Code.{Trees, ε, ◌▹◌, ◌⊕◌, br, br_if}
use Rattle.wasm_lang_exec.specs.Store.{Store}
use Rattle.wasm_lang_exec.specs.Plain.{flag, pushed}
use Rattle.wasm_lang.specs.Modules.{WasmModule}
use Rattle.wasm_laws_drive.specs.Drive.{Branch, at, onward}
use Rattle.wasm_laws_drive.proofs.Instructions.{br_branches, br_if_chooses}
use Rattle.wasm_laws_trees.specs.Spelled.{size}
use Rattle.asm_types.specs.Values.{is_between, least}
use Rattle.asm_lang.specs.Modules.{Clauses, no_clauses, clauses}
use Rattle.asm_lang_valid.specs.Typing.{values, in_range}
use Rattle.asm_lang_exec.specs.Meaning.{is_case, before_case, has_case}
use Rattle.asm2wasm_translation.specs.Values as value
use Rattle.asm2wasm_translation.specs.Values.{plains}
use Rattle.asm2wasm_translation.specs.Bodies.{case_branches}
use Rattle.asm2wasm_laws_run.specs.Straight.{reached, on_from, effects}
use Rattle.asm2wasm_laws_run.proofs.Straight.{runs}
use Rattle.asm2wasm_laws_simulation.specs.Bodies.Followed.{on_code}
use Rattle.asm2wasm_laws_simulation.proofs.Bodies.Tested.{chosen_by}
use Rattle.asm2wasm_laws_simulation.proofs.Bodies.Scratched.{Reaches}

pub case_range : (v : ℤ) (vs : List ℤ) → in_range (v ∷ vs) ≡ true → (is_between least (pos (2 ^ 31)) v ≡ true) × (in_range vs ≡ true)
case_range v vs h = let p = and_parts (is_between least (pos (2 ^ 31)) v) (in_range vs) h in (p.0, p.1)

pub equal_words : (z v : ℤ) → is_between least (pos (2 ^ 31)) z ≡ true → is_between least (pos (2 ^ 31)) v ≡ true → (word_of 32 z == word_of 32 v) ≡ is_case z (Some v)
equal_words z v f g = grind (arith, ints, nat_tests)

module _ (w : WasmModule) (t : ℕ) (z : ℤ) (fits : is_between least (pos (2 ^ 31)) z ≡ true) (to : ℕ) where
  abbrev chain : ℕ → Clauses → Trees
  chain i cs = case_branches t i cs ⊕ (br to ▹ ε)

  abbrev Chained : (most : ℕ) → Trees → List Word → Store → ℕ → Type 0
  Chained most code l st n = Reaches most (on_code w [] code l st) (λ k. Branch n (at [] l st k))

  -- a test of each case in turn, and then a branch for all others
  pub chain_reaches : (cs : Clauses) (i : ℕ) → in_range (values cs) ≡ true → (l : List Word) (st : Store) → slice_get l t ≡ Some (W32 (word_of 32 z))
      → Chained (size (chain i cs)) (chain i cs) l st (if has_case z cs then i + before_case z cs else to)
  chain_reaches no_clauses i h l st got = record {
    cost = 1;
    few = omega arith;
    by = λ k. let one : 1 + k ≡ suc k = omega arith in ap (on_code w [] (br to ▹ ε) l st) one ∙ br_branches w to ε (at [] l st (suc k));
  }
  chain_reaches (clauses None ss cs) i h l st got =
      let n : suc i + before_case z cs ≡ i + suc (before_case z cs) = omega arith in
      subst (λ n. Chained (size (chain (suc i) cs)) (chain (suc i) cs) l st (if has_case z cs then n else to)) n (chain_reaches cs (suc i) h l st got)
  chain_reaches (clauses (Some v) ss cs) i h l st got = by (is_case z (Some v)) (equal_words z v fits (case_range v (values cs) h).0) (chain_reaches cs (suc i) (case_range v (values cs) h).1 l st got)
    where
      rest : Trees
      rest = chain (suc i) cs

      whole : Trees
      whole = plains (local_get t ∷ value.number (word_of 32 v) ∷ rel32 rels.Eq ∷ []) ⊕ (br_if i ▹ rest)

      tests : (b : Bool) → (word_of 32 z == word_of 32 v) ≡ b → (k : ℕ) → on_code w [] whole l st (3 + k) ≡ (if b then Branch i (at [] l st k) else onward w rest (at [] l st k))
      tests b e k =
          let n : 3 + k ≡ 2 + suc k = omega arith in
          ap (on_code w [] whole l st) n
          ∙ runs w (local_get t ∷ value.number (word_of 32 v) ∷ rel32 rels.Eq ∷ []) [] l st (reached (W32 (flag (word_of 32 z == word_of 32 v)) ∷ []) l st) (br_if i ▹ rest) (suc k)
          (ap (λ o. on_from (pushed o [] l st) (effects (value.number (word_of 32 v) ∷ rel32 rels.Eq ∷ []))) got)
          ∙ ap (λ b. on_code w (W32 (flag b) ∷ []) (br_if i ▹ rest) l st (suc k)) e
          ∙ br_if_chooses w i rest (at (W32 (flag b) ∷ []) l st (suc k))
          ∙ chosen_by (flag b) b (Branch i (at [] l st k)) (onward w rest (at [] l st k)) (flagged b)
        where
          flagged : (b : Bool) → (flag b == 0) ≡ not b
          flagged true = refl
          flagged false = refl

      by : (b : Bool) → (word_of 32 z == word_of 32 v) ≡ b → Chained (size (chain (suc i) cs)) (chain (suc i) cs) l st (if has_case z cs then suc i + before_case z cs else to) → Chained (size whole) whole l st (if (if b then true else has_case z cs) then i + (if b then 0 else suc (before_case z cs)) else to)
      by true e x = record {
        cost = 3;
        few = omega arith;
        by = λ k. let n : i ≡ i + 0 = omega arith in tests true e k ∙ ap (λ n. Branch n (at [] l st k)) n;
      }
      by false e x =
          let n : suc i + before_case z cs ≡ i + suc (before_case z cs) = omega arith in
          record {
            cost = 3 + x.cost;
            few = let less = x.few in omega (arith, less);
            by = λ k.
                let m : 3 + x.cost + k ≡ 3 + (x.cost + k) = omega arith in
                ap (on_code w [] whole l st) m ∙ tests false e (x.cost + k) ∙ x.by k ∙ ap (λ n. Branch (if has_case z cs then n else to) (at [] l st k)) n;
          }
