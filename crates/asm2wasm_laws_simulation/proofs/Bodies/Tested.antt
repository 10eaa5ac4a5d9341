-- Conditions: of an if and of a loop.
use Rattle.std.proofs.Common.{◌≡◌, ℕ, zero, suc, ◌+◌, ◌≤◌, Bool, true, false, not, List, [], ◌∷◌, ◌++◌, None, refl, sym, ap, ◌∙◌, subst, arith}
use Rattle.std.specs.Prelude.{◌==◌, if◌then◌else◌}
use Rattle.std.proofs.lemmas.Bool.Decides.{nat_tests}
use Rattle.sem_words.specs.declared.word.Word.{Word}
use Rattle.sem_words.specs.declared.word.Word.TheVariants.{W32}
use Rattle.sem_words.specs.declared.js_value.JsValue.{JsValue}
use Rattle.sem_words.specs.JsValues.{to_uint32_of, truthy_of}
use Rattle.wasm_lang.specs.Instructions.{eqz32}
use Rattle.wasm_lang_exec.specs.Code.{Trees, ε, ◌▹◌, ◌⊕◌, if_block, br_if}
use Rattle.wasm_lang_exec.specs.Store.{Store}
use Rattle.wasm_lang_exec.specs.Plain.{flag}
use Rattle.wasm_lang_exec.specs.Reductions.{Code, choose}
use Rattle.wasm_laws_drive.specs.Drive.{Next, Branch, at, drive, onward}
use Rattle.wasm_laws_drive.proofs.Instructions.{no_code, if_chooses, br_if_chooses}
use Rattle.wasm_laws_trees.specs.Spelled.{size}
use Rattle.asm_types.specs.declared.value_type.ValueType.TheVariants.{Int}
use Rattle.asm_lang_exec.specs.Runs.{Part, and_then, gives}
use Rattle.asm_lang_exec.specs.Meaning.{Completion}
use Rattle.asm2wasm_translation.specs.Bodies.{Label, plainly}
use Rattle.asm2wasm_translation.specs.Values.{one}
use Rattle.asm2wasm_laws_words.proofs.Compared.{words_of_conditions}
use Rattle.asm2wasm_laws_run.specs.Straight.{reached}
use Rattle.asm2wasm_laws_run.proofs.Straight.{runs}
use Rattle.asm2wasm_laws_preservation.specs.Kept.{Fits, word, a_value, Surroundings, Keeps}
use Rattle.asm2wasm_laws_preservation.proofs.Sizes.{sizes_add}
use Rattle.asm2wasm_laws_preservation.proofs.Chosen.{second_size}
use Rattle.asm2wasm_laws_simulation.specs.Bodies.Followed.{Course, on_code, Follows, Any, ends_as, KeepsEnd}
use Rattle.asm2wasm_laws_simulation.proofs.Bodies.Joined.{after_gives, follows_bind, follows_in, follows_more, follows_part, follows_soon, follows_then, follows_kept}
use Rattle.asm2wasm_laws_simulation.proofs.Bodies.Left.{out, out_keeps, leaves_plainly}

-- the word of a condition that holds isn't 0
pub zero_word : (v : JsValue) (b : Bool) → Fits Int v → truthy_of v ≡ b → (to_uint32_of v == 0) ≡ not b
zero_word v b f e = twice (to_uint32_of v == 0) ∙ ap not (sym (words_of_conditions v f) ∙ e)
  where
    twice : (x : Bool) → x ≡ not (not x)
    twice true = refl
    twice false = refl

pub chosen_by : {A : Type 0} (n : ℕ) (b : Bool) (first second : A) → (n == 0) ≡ not b → choose n first second ≡ (if b then first else second)
chosen_by zero true first second e = absurd (cc e)
chosen_by zero false first second e = refl
chosen_by (suc n) true first second e = refl
chosen_by (suc n) false first second e = let some : (suc n == 0) ≡ false = grind (arith, nat_tests) in absurd (cc (sym some ∙ e))

module _ (s : Surroundings) (limit : ℕ) where
  -- ---- an if

  module _ (ls : List Label) (wanted : Bool) (first second : Trees) (c : ℕ) where
    abbrev choice : Trees
    choice = if_block None first second ▹ ε

    inside : (arm : Trees) (part : Part Completion) → choose c first second ≡ arm → size arm + 2 ≤ size choice → KeepsEnd s limit (plainly ∷ ls) wanted arm part
        → Follows s limit (size choice) (on_code s.target (W32 c ∷ []) choice) Any (ends_as ls wanted) part
    inside arm part is few f =
        follows_more s limit Any (ends_as ls wanted) (1 + (size arm + 1)) (size choice) (on_code s.target (W32 c ∷ []) choice) part (omega (arith, few))
        (follows_in s limit Any (ends_as ls wanted) 1 (size arm + 1) (on_code s.target (W32 c ∷ []) choice) (λ l st k. out s (on_code s.target [] arm l st k)) part enters
        (follows_part s limit Any (ends_as ls wanted) (size arm + 1) (λ l st k. out s (on_code s.target [] arm l st k)) (and_then part gives) part (λ p. after_gives (part p))
        (follows_bind s limit (out s) (size arm) 1 (on_code s.target [] arm) Any (ends_as (plainly ∷ ls) wanted) Any (ends_as ls wanted) part gives (out_keeps s ε) f (λ d is. leaves_plainly s limit ls wanted d))))
      where
        enters : (l : List Word) (st : Store) (k : ℕ) → on_code s.target (W32 c ∷ []) choice l st (1 + k) ≡ out s (on_code s.target [] arm l st k)
        enters l st k =
            let e : 1 + k ≡ suc k = omega arith in
            ap (on_code s.target (W32 c ∷ []) choice l st) e ∙ if_chooses s.target None first second ε (at (W32 c ∷ []) l st (suc k))
            ∙ ap (λ t. out s (drive s.target k (Code [] t) l st)) is

    pub follows_choice : (b : Bool) (then_part else_part : Part Completion) → (c == 0) ≡ not b
        → KeepsEnd s limit (plainly ∷ ls) wanted first then_part → KeepsEnd s limit (plainly ∷ ls) wanted second else_part
        → Follows s limit (size choice) (on_code s.target (W32 c ∷ []) choice) Any (ends_as ls wanted) (if b then then_part else else_part)
    follows_choice true then_part else_part e f g = inside first then_part (chosen_by c true first second e) (omega arith) f
    follows_choice false then_part else_part e f g = let more = second_size second in inside second else_part (chosen_by c false first second e) (omega (arith, more)) g

  pub follows_if : (ls : List Label) (wanted : Bool) (code first second : Trees) (test : Part JsValue) (then_part else_part : Part Completion)
      → Keeps s limit 0 [] (Fits Int) a_value code test → KeepsEnd s limit (plainly ∷ ls) wanted first then_part → KeepsEnd s limit (plainly ∷ ls) wanted second else_part
      → KeepsEnd s limit ls wanted (code ⊕ (if_block None first second ▹ ε)) (and_then test (λ v. if truthy_of v then then_part else else_part))
  follows_if ls wanted code first second test then_part else_part k f g =
      let more = if_block None first second ▹ ε in
      subst (λ z. Follows s limit z (on_code s.target [] (code ⊕ more)) Any (ends_as ls wanted) (and_then test (λ v. if truthy_of v then then_part else else_part))) (sym (sizes_add code more))
      (follows_then s limit (size code) (size more) [] code more (Fits Int) (λ v l st k. Next (at (a_value v ++ []) l st k)) Any (ends_as ls wanted) test (λ v. if truthy_of v then then_part else else_part)
      (follows_kept s limit (Fits Int) a_value code test k)
      (λ v fits. follows_choice ls wanted first second (to_uint32_of v) (truthy_of v) then_part else_part (zero_word v (truthy_of v) fits refl) f g))

  -- ---- the condition of a loop: a branch leaves the loop where it doesn't hold

  abbrev pub tested : JsValue → Course
  tested v l st k = if truthy_of v then Next (at [] l st k) else Branch 1 (at [] l st k)

  abbrev leaving : Trees
  leaving = one eqz32 ⊕ (br_if 1 ▹ ε)

  leaves : (v : JsValue) → Fits Int v → (l : List Word) (st : Store) (k : ℕ) → on_code s.target (word v ∷ []) leaving l st (2 + k) ≡ tested v l st k
  leaves v fits l st k = by (to_uint32_of v) (truthy_of v) (zero_word v (truthy_of v) fits refl)
    where
      by : (n : ℕ) (b : Bool) → (n == 0) ≡ not b → on_code s.target (W32 n ∷ []) leaving l st (2 + k) ≡ (if b then Next (at [] l st k) else Branch 1 (at [] l st k))
      by n b e =
          let t : 2 + k ≡ 1 + suc k = omega arith in
          ap (on_code s.target (W32 n ∷ []) leaving l st) t
          ∙ runs s.target (eqz32 ∷ []) (W32 n ∷ []) l st (reached (W32 (flag (n == 0)) ∷ []) l st) (br_if 1 ▹ ε) (suc k) refl
          ∙ ap (λ x. on_code s.target (W32 (flag x) ∷ []) (br_if 1 ▹ ε) l st (suc k)) e
          ∙ br_if_chooses s.target 1 ε (at (W32 (flag (not b)) ∷ []) l st (suc k))
          ∙ last b
        where
          last : (b : Bool) → choose (flag (not b)) (Branch 1 (at [] l st k)) (onward s.target ε (at [] l st k)) ≡ (if b then Next (at [] l st k) else Branch 1 (at [] l st k))
          last true = no_code s.target (at [] l st k)
          last false = refl

  pub follows_test : (code : Trees) (test : Part JsValue) → Keeps s limit 0 [] (Fits Int) a_value code test
      → Follows s limit (size (code ⊕ leaving)) (on_code s.target [] (code ⊕ leaving)) Any tested test
  follows_test code test k =
      subst (λ z. Follows s limit z (on_code s.target [] (code ⊕ leaving)) Any tested test) (sym (sizes_add code leaving))
      (follows_part s limit Any tested (size code + size leaving) (on_code s.target [] (code ⊕ leaving)) (and_then test gives) test (λ p. after_gives (test p))
      (follows_then s limit (size code) (size leaving) [] code leaving (Fits Int) (λ v l st k. Next (at (a_value v ++ []) l st k)) Any tested test gives
      (follows_kept s limit (Fits Int) a_value code test k)
      (λ v fits. follows_soon s limit Any tested 2 (size leaving) (on_code s.target (word v ∷ []) leaving) v (omega arith) tt (leaves v fits))))
