-- A choice between two pieces of code, a value that is dropped, the operands of a chain, and an `or` with 0.
use Rattle.std.proofs.Common.{◌≡◌, ℕ, zero, suc, ◌+◌, ◌≤◌, Bool, true, false, not, List, [], ◌∷◌, ◌++◌, length, Option, Some, pos, refl, sym, ap, ◌∙◌, subst, arith}
use Rattle.std.specs.Prelude.{◌==◌, if◌then◌else◌}
use Rattle.std.proofs.lemmas.Bool.Decides.{nat_tests}
use Rattle.std.specs.Int.Bits.{bit_or, or_zero_r}
use Rattle.sem_words.specs.declared.word.Word.{Word}
use Rattle.sem_words.specs.declared.word.Word.TheVariants.{W32}
use Rattle.sem_words.specs.declared.word.Bin.TheVariants as bins
use Rattle.sem_words.specs.declared.js_value.JsValue.{JsValue}
use Rattle.sem_words.specs.declared.js_value.JsValue.TheVariants.{Whole}
use Rattle.sem_words.specs.declared.js_value.JsOp.TheVariants.{Add, Sub, Or}
use Rattle.sem_words.specs.JsValues.{to_uint32_of}
use Rattle.sem_words.specs.JsOperators.{js_binary_of}
use Rattle.wasm_lang.specs.declared.types.ValType.{ValType}
use Rattle.wasm_lang.specs.Instructions.{bin32, drop_operand}
use Rattle.wasm_lang_exec.specs.Code.{Trees, ε, ◌▹◌, ◌⊕◌, if_block}
use Rattle.wasm_lang_exec.specs.Reductions.{Code, arity_of, choose}
use Rattle.wasm_laws_drive.specs.Drive.{Outcome, Next, at, drive}
use Rattle.wasm_laws_drive.specs.Equations.{at_label}
use Rattle.wasm_laws_drive.proofs.Instructions.{no_code, if_chooses}
use Rattle.wasm_laws_trees.specs.Spelled.{size, else_size}
use Rattle.asm_lang_exec.specs.Runs.{Place, Run, goes, stops, spent, wrong, Part, after, and_then, gives, defined}
use Rattle.asm_lang_exec.specs.Meaning.{link_operator}
use Rattle.asm2wasm_translation.specs.Values as translated
use Rattle.asm2wasm_translation.specs.Values.{one, finished}
use Rattle.asm2wasm_laws_words.proofs.Operated.{words_of_results}
use Rattle.asm2wasm_laws_run.specs.Sim.{Steps, Sim}
use Rattle.asm2wasm_laws_run.specs.Sim as sims
use Rattle.asm2wasm_laws_run.specs.State.{words, store_of, Holds, EndsAlike, AnyValue, run_from}
use Rattle.asm2wasm_laws_run.proofs.Simulated.{comes_in, sim_after, sim_in, sim_more, sim_bind}
use Rattle.asm2wasm_laws_preservation.specs.Kept.{word, a_value, no_value, result, Surroundings, Shown, Keeps}
use Rattle.asm2wasm_laws_preservation.proofs.Joined.{keeps_then, keeps_over, keeps_same, keeps_mapped, keeps_operation}
use Rattle.asm2wasm_laws_preservation.proofs.Operated.{keeps_word}

after_gives : {A : Type 0} → (o : Run A) → after o gives ≡ o
after_gives (goes a p) = refl
after_gives (stops e p) = refl
after_gives (spent p) = refl
after_gives wrong = refl

nothing_more : {A : Type 0} → (xs : List A) → xs ++ [] ≡ xs
nothing_more [] = refl
nothing_more (x ∷ xs) = ap (λ l. x ∷ l) (nothing_more xs)

pub second_size : (t : Trees) → size t ≤ else_size t (size t)
second_size ε = omega arith
second_size (x ▹ t) = omega arith

label_keeps : (s : Surroundings) (stack : List Word) (n : ℕ) → sims.Keeps (at_label s.target stack n ε ε)
label_keeps s stack n = record { ended = λ e st. refl; spent = λ st. refl }

module _ (s : Surroundings) (limit d : ℕ) where
  -- ---- a choice

  module _ {A : Type 0} (r : Option ValType) (c : ℕ) (has : A → Type 0) (on : A → List Word) (first second : Trees) where
    abbrev whole : Trees
    whole = if_block r first second ▹ ε

    inside : (arm : Trees) (part : Part A) → choose c first second ≡ arm → 2 + size arm ≤ size whole → Keeps s limit d [] has on arm part → Keeps s limit d (W32 c ∷ []) has on whole part
    inside arm part is few_more k = record { by = begins }
      where
        begins : (p : Place) (scratch stack : List Word) → Holds s.fixed s.home s.heap s.within p → length scratch ≡ s.scratch → p.units ≤ limit
            → Sim s.worth (EndsAlike s.fixed s.home s.heap) (Shown s d has on scratch stack) (size whole) p.units (run_from s.target s.fixed (W32 c ∷ stack) whole scratch p) (part p)
        begins p scratch stack h many few =
            sim_more s.worth ends A shows (1 + (size arm + 1)) (size whole) p.units entered (part p) (omega (arith, few_more))
            (sim_after s.worth ends A shows 1 (size arm + 1) p.units p.units entered (λ k. around (inner k)) (part p) (comes_in s.worth 1 p.units entered (λ k. around (inner k)) enters)
            (subst (λ o. Sim s.worth ends shows (size arm + 1) p.units (λ k. around (inner k)) o) (after_gives (part p))
            (sim_bind s.worth ends A A (Shown s d has on scratch []) shows around (size arm) 1 p.units inner (part p) gives (label_keeps s stack (arity_of r)) (k.by p scratch [] h many few) leaves)))
          where
            ends : sims.Ends
            ends = EndsAlike s.fixed s.home s.heap

            shows : sims.Shows A
            shows = Shown s d has on scratch stack

            around : Outcome → Outcome
            around = at_label s.target stack (arity_of r) ε ε

            entered : Steps
            entered = run_from s.target s.fixed (W32 c ∷ stack) whole scratch p

            inner : Steps
            inner = run_from s.target s.fixed [] arm scratch p

            enters : (k : ℕ) → entered (1 + k) ≡ around (inner k)
            enters k =
                let e : 1 + k ≡ suc k = omega arith in
                ap entered e
                ∙ if_chooses s.target r first second ε (at (W32 c ∷ stack) (words p.locals ++ scratch) (store_of s.fixed p) (suc k))
                ∙ ap (λ t. around (drive s.target k (Code [] t) (words p.locals ++ scratch) (store_of s.fixed p))) is

            leaves : (a : A) (q : Place) (later : Steps) → Shown s d has on scratch [] a q later → q.units ≤ p.units
                → Sim s.worth ends shows 1 q.units (λ k. around (later k)) (gives a q)
            leaves a q later x le =
                sim_in s.worth ends A shows 1 a q (λ k. around (later k)) (λ k. Next (at (on a ++ stack) (words q.locals ++ x.scratch_then) (store_of s.fixed q) k))
                (record { is = x.is; holds = x.holds; scratch_then = x.scratch_then; as_many = x.as_many; kept = x.kept; shown = λ k. refl })
                (λ k. let e : 1 + k ≡ suc k = omega arith in
                ap (λ n. around (later n)) e ∙ ap around (x.shown (suc k))
                ∙ no_code s.target (at ((on a ++ []) ++ stack) (words q.locals ++ x.scratch_then) (store_of s.fixed q) k)
                ∙ ap (λ vs. Next (at (vs ++ stack) (words q.locals ++ x.scratch_then) (store_of s.fixed q) k)) (nothing_more (on a)))

  pub keeps_chosen : {A : Type 0} (r : Option ValType) (c : ℕ) (b : Bool) (has : A → Type 0) (on : A → List Word) (first second : Trees) (then_part else_part : Part A)
      → b ≡ not (c == 0) → Keeps s limit d [] has on first then_part → Keeps s limit d [] has on second else_part
      → Keeps s limit d (W32 c ∷ []) has on (if_block r first second ▹ ε) (if b then then_part else else_part)
  keeps_chosen r zero b has on first second then_part else_part e k l =
      let more = second_size second in
      subst (λ b. Keeps s limit d (W32 0 ∷ []) has on (if_block r first second ▹ ε) (if b then then_part else else_part)) (sym e) (inside r 0 has on first second second else_part refl (omega (arith, more)) l)
  keeps_chosen r (suc c) b has on first second then_part else_part e k l =
      let some : (suc c == 0) ≡ false = grind (arith, nat_tests) in
      subst (λ b. Keeps s limit d (W32 (suc c) ∷ []) has on (if_block r first second ▹ ε) (if b then then_part else else_part)) (sym (e ∙ ap not some)) (inside r (suc c) has on first second first then_part refl (omega arith) k)

  -- ---- a value that isn't wanted

  pub keeps_dropped : (from : List Word) (has : JsValue → Type 0) (code : Trees) (part : Part JsValue) → Keeps s limit d from has a_value code part → Keeps s limit d from has no_value (code ⊕ one drop_operand) part
  keeps_dropped from has code part k =
      keeps_same s limit d from has no_value (code ⊕ one drop_operand) (and_then part gives) part (λ p. after_gives (part p))
      (keeps_then s limit d from has a_value has no_value code (one drop_operand) part gives k
      (λ v g. keeps_operation s limit d (a_value v) has no_value (drop_operand ∷ []) v g (λ stack locals store. refl)))

  pub keeps_finished : (wanted : Bool) (has : JsValue → Type 0) (code : Trees) (part : Part JsValue) → Keeps s limit d [] has a_value code part → Keeps s limit d [] has (result wanted) (finished wanted code) part
  keeps_finished true has code part k = k
  keeps_finished false has code part k = keeps_dropped [] has code part k

  -- ---- chains

  pub keeps_link : (minus : Bool) (v : JsValue) (has : JsValue → Type 0) (code rest : Trees) (part : Part JsValue) (go : JsValue → Part JsValue)
      → Keeps s limit d [] has a_value code part
      → ((x : JsValue) → Keeps s limit d (word x ∷ []) AnyValue a_value rest (go x))
      → Keeps s limit d (word v ∷ []) AnyValue a_value (code ⊕ (one (bin32 (translated.link_operator minus)) ⊕ rest)) (and_then part (λ w. and_then (defined (js_binary_of (link_operator minus) v w)) go))
  keeps_link minus v has code rest part go k next =
      keeps_then s limit d (word v ∷ []) has (λ w. word w ∷ word v ∷ []) AnyValue a_value code (one (bin32 (translated.link_operator minus)) ⊕ rest) part (λ w. and_then (defined (js_binary_of (link_operator minus) v w)) go)
      (keeps_over s limit d (word v ∷ []) has a_value code part k)
      (λ w g. keeps_then s limit d (word w ∷ word v ∷ []) AnyValue a_value AnyValue a_value (one (bin32 (translated.link_operator minus))) rest (defined (js_binary_of (link_operator minus) v w)) go (by minus w) (λ x t. next x))
    where
      by : (minus : Bool) (w : JsValue) → Keeps s limit d (word w ∷ word v ∷ []) AnyValue a_value (one (bin32 (translated.link_operator minus))) (defined (js_binary_of (link_operator minus) v w))
      by true w = keeps_word s limit d Sub bins.Sub v w refl
      by false w = keeps_word s limit d Add bins.Add v w refl

  -- ---- `|0`

  same_word : (v x : JsValue) → js_binary_of Or v (Whole (pos 0)) ≡ Some x → word v ≡ word x
  same_word v x e =
      let ok = words_of_results Or bins.Or v (Whole (pos 0)) x refl e in
      let n : bit_or (to_uint32_of v) 0 ≡ to_uint32_of x = cc ok in
      ap W32 (sym (or_zero_r (to_uint32_of v)) ∙ n)

  -- where the right operand gives 0 at once
  pub keeps_or_zero : (has : JsValue → Type 0) (code : Trees) (part none : Part JsValue) → ((p : Place) → none p ≡ goes (Whole (pos 0)) p)
      → Keeps s limit d [] has a_value code part → Keeps s limit d [] AnyValue a_value code (and_then part (λ v. and_then none (λ w. defined (js_binary_of Or v w))))
  keeps_or_zero has code part none e k =
      keeps_same s limit d [] AnyValue a_value code (and_then part (λ v. defined (js_binary_of Or v (Whole (pos 0))))) (and_then part (λ v. and_then none (λ w. defined (js_binary_of Or v w))))
      (λ p. go (part p))
      (keeps_mapped s limit d has code part (λ v. js_binary_of Or v (Whole (pos 0))) (λ v x g. same_word v x) k)
    where
      go : (o : Run JsValue) → after o (λ v. defined (js_binary_of Or v (Whole (pos 0)))) ≡ after o (λ v. and_then none (λ w. defined (js_binary_of Or v w)))
      go (goes v p) = ap (λ o. after o (λ w. defined (js_binary_of Or v w))) (sym (e p))
      go (stops end p) = refl
      go (spent p) = refl
      go wrong = refl
