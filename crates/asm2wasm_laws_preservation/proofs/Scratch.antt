-- Guards, which keep operands in two scratch locals and choose between two pieces of straight-line code.
use Rattle.std.proofs.Common.{◌≡◌, ℕ, zero, suc, ◌+◌, ◌≤◌, List, [], ◌∷◌, ◌++◌, length, take, Option, Some, refl, sym, ap, ◌∙◌, subst, arith}
use Rattle.std.specs.Prelude.{slice_get, slice_set}
use Rattle.std.proofs.lemmas.List.{length-set, take-set-le}
use Rattle.sem_words.specs.declared.word.Word.{Word}
use Rattle.sem_words.specs.declared.word.Word.TheVariants.{W32}
use Rattle.sem_words.specs.declared.word.Bin.{Bin}
use Rattle.sem_words.specs.declared.js_value.JsValue.{JsValue}
use Rattle.sem_words.specs.Words.{bin_of}
use Rattle.wasm_lang.specs.declared.types.ValType.{ValType}
use Rattle.wasm_lang.specs.Instructions.{Plain, local_get, local_set, bin32}
use Rattle.wasm_lang_exec.specs.Code.{Trees, ε, ◌▹◌, ◌⊕◌, if_block}
use Rattle.wasm_lang_exec.specs.Store.{Store}
use Rattle.wasm_lang_exec.specs.Plain.{answer32, pushed, with_local}
use Rattle.wasm_lang_exec.specs.Reductions.{choose}
use Rattle.wasm_laws_drive.specs.Drive.{Next, at}
use Rattle.wasm_laws_drive.proofs.Instructions.{no_code}
use Rattle.wasm_laws_trees.specs.Spelled.{size, else_size}
use Rattle.asm_lang_exec.specs.Runs.{Place, goes, Part}
use Rattle.asm2wasm_translation.specs.Numbers.{first_scratch}
use Rattle.asm2wasm_translation.specs.Values.{plains}
use Rattle.asm2wasm_laws_run.specs.Sim.{Sim, Ends}
use Rattle.asm2wasm_laws_run.specs.Straight.{reached, on_from, effects, paid}
use Rattle.asm2wasm_laws_run.specs.State.{words, store_of, Holds, EndsAlike, AnyValue, run_from}
use Rattle.asm2wasm_laws_run.proofs.Simulated.{sim_in, sim_more}
use Rattle.asm2wasm_laws_run.proofs.Straight.{runs, chooses}
use Rattle.asm2wasm_laws_run.proofs.Chained.{get_past, set_past, is_there, locals_length}
use Rattle.asm2wasm_laws_run.proofs.Guarded.{get_same, get_other}
use Rattle.asm2wasm_laws_preservation.specs.Kept.{a_value, Surroundings, Shown, Keeps}
use Rattle.asm2wasm_laws_preservation.proofs.Sizes.{sizes_add}
use Rattle.asm2wasm_laws_preservation.proofs.Joined.{paid_all}
use Rattle.asm2wasm_laws_preservation.proofs.Chosen.{second_size}

chosen_size : (c : ℕ) (first second : List Plain) → paid (choose c first second) ≤ size (plains first) + (else_size (plains second) (size (plains second)) + 0)
chosen_size zero first second = let a = paid_all second in let b = second_size (plains second) in omega (arith, a, b)
chosen_size (suc c) first second = let a = paid_all first in omega (arith, a)

module _ (s : Surroundings) (limit d : ℕ) where
  -- ---- a guard, and a choice by it

  pub record Guarding (from : List Word) (guard first second : List Plain) (part : Part JsValue) (p : Place) (scratch stack : List Word) : Type 0 where
    pub value : JsValue
    pub is : part p ≡ goes value p
    pub flag : ℕ
    pub scratch_then : List Word
    pub as_many : length scratch_then ≡ length scratch
    pub kept : take d scratch_then ≡ take d scratch
    pub test : effects guard (from ++ stack) (words p.locals ++ scratch) (store_of s.fixed p) ≡ Some (reached (W32 flag ∷ stack) (words p.locals ++ scratch_then) (store_of s.fixed p))
    pub does : effects (choose flag first second) [] (words p.locals ++ scratch_then) (store_of s.fixed p) ≡ Some (reached (a_value value) (words p.locals ++ scratch_then) (store_of s.fixed p))

  pub keeps_guarding : (from : List Word) (r : Option ValType) (guard first second : List Plain) (part : Part JsValue)
      → ((p : Place) (scratch stack : List Word) → Holds s.fixed s.home s.heap s.within p → length scratch ≡ s.scratch → Guarding from guard first second part p scratch stack)
      → Keeps s limit d from AnyValue a_value (plains guard ⊕ (if_block r (plains first) (plains second) ▹ ε)) part
  keeps_guarding from r guard first second part f = record { by = begins }
    where
      code : Trees
      code = plains guard ⊕ (if_block r (plains first) (plains second) ▹ ε)

      ends : Ends
      ends = EndsAlike s.fixed s.home s.heap

      begins : (p : Place) (scratch stack : List Word) → Holds s.fixed s.home s.heap s.within p → length scratch ≡ s.scratch → p.units ≤ limit
          → Sim s.worth ends (Shown s d AnyValue a_value scratch stack) (size code) p.units (run_from s.target s.fixed (from ++ stack) code scratch p) (part p)
      begins p scratch stack h many few =
          let x = f p scratch stack h many in
          let chosen = choose x.flag first second in
          let cost = paid guard + (2 + paid chosen) in
          let r' = run_from s.target s.fixed (from ++ stack) code scratch p in
          let st = store_of s.fixed p in
          let ls = words p.locals ++ x.scratch_then in
          let a = paid_all guard in
          let b = chosen_size x.flag first second in
          let both = sizes_add (plains guard) (if_block r (plains first) (plains second) ▹ ε) in
          let shows = Shown s d AnyValue a_value scratch stack in
          subst (λ o. Sim s.worth ends shows (size code) p.units r' o) (sym x.is)
          (sim_more s.worth ends JsValue shows cost (size code) p.units r' (goes x.value p) (omega (arith, a, b, both))
          (sim_in s.worth ends JsValue shows cost x.value p r' (λ k. Next (at (a_value x.value ++ stack) ls st k))
          (record { is = tt; holds = h; scratch_then = x.scratch_then; as_many = x.as_many; kept = x.kept; shown = λ k. refl })
          (λ k. let e : cost + k ≡ paid guard + (2 + paid chosen + k) = omega arith in
          ap r' e
          ∙ runs s.target guard (from ++ stack) (words p.locals ++ scratch) st (reached (W32 x.flag ∷ stack) ls st) (if_block r (plains first) (plains second) ▹ ε) (2 + paid chosen + k) x.test
          ∙ chooses s.target r x.flag first second chosen stack ls st (reached (a_value x.value) ls st) ε k refl x.does
          ∙ no_code s.target (at (a_value x.value ++ stack) ls st k))))

  -- ---- two scratch locals

  abbrev pub scratch_x : ℕ
  scratch_x = first_scratch s.within + d

  abbrev pub scratch_y : ℕ
  scratch_y = first_scratch s.within + suc d

  module _ (p : Place) (scratch : List Word) (h : Holds s.fixed s.home s.heap s.within p) where
    abbrev pub all_locals : List Word → List Word
    all_locals sc = words p.locals ++ sc

    pub there : (sc : List Word) (i : ℕ) → suc i ≤ length sc → (v : Word) × (slice_get (all_locals sc) (first_scratch s.within + i) ≡ Some v)
    there sc i le =
        let v = is_there sc i le in
        let count = locals_length s.within p.locals h.locals in
        (v.0, ap (λ c. slice_get (all_locals sc) (c + i)) (sym count) ∙ get_past (words p.locals) sc i ∙ v.1)

    pub put : (sc : List Word) (i : ℕ) (v : Word) → slice_set (all_locals sc) (first_scratch s.within + i) v ≡ all_locals (slice_set sc i v)
    put sc i v =
        let count = locals_length s.within p.locals h.locals in
        ap (λ c. slice_set (all_locals sc) (c + i) v) (sym count) ∙ set_past (words p.locals) sc i v

    pub got : (sc : List Word) (i : ℕ) (v : Word) → suc i ≤ length sc → slice_get (all_locals (slice_set sc i v)) (first_scratch s.within + i) ≡ Some v
    got sc i v le =
        let old = there sc i le in
        ap (λ ls. slice_get ls (first_scratch s.within + i)) (sym (put sc i v)) ∙ get_same (all_locals sc) (first_scratch s.within + i) old.0 v old.1

    -- the scratch locals with two operands in them
    abbrev pub both_in : Word → Word → List Word
    both_in a b = slice_set (slice_set scratch (suc d) b) d a

    module _ (enough : d + 2 ≤ length scratch) (a b : Word) where
      as_many_y : length (slice_set scratch (suc d) b) ≡ length scratch
      as_many_y = length-set scratch (suc d) b

      pub as_many_both : length (both_in a b) ≡ length scratch
      as_many_both = length-set (slice_set scratch (suc d) b) d a ∙ as_many_y

      pub kept_both : take d (both_in a b) ≡ take d scratch
      kept_both = take-set-le d (slice_set scratch (suc d) b) d a (omega (arith, enough)) ∙ take-set-le d scratch (suc d) b (omega (arith, enough))

      pub got_x : slice_get (all_locals (both_in a b)) scratch_x ≡ Some a
      got_x = got (slice_set scratch (suc d) b) d a (let e = as_many_y in omega (arith, e, enough))

      pub got_y : slice_get (all_locals (both_in a b)) scratch_y ≡ Some b
      got_y =
          ap (λ ls. slice_get ls scratch_y) (sym (put (slice_set scratch (suc d) b) d a))
          ∙ get_other (all_locals (slice_set scratch (suc d) b)) scratch_x scratch_y a (λ e. absurd (omega (arith, e)))
          ∙ got scratch (suc d) b (omega (arith, enough))

      -- both operands go from the stack into them, and the second one is left
      pub both_taken : (more : List Plain) (stack : List Word) (st : Store)
          → effects (local_set scratch_y ∷ local_set scratch_x ∷ local_get scratch_y ∷ more) (b ∷ a ∷ stack) (all_locals scratch) st ≡ effects more (b ∷ stack) (all_locals (both_in a b)) st
      both_taken more stack st =
          let old_y = there scratch (suc d) (omega (arith, enough)) in
          let old_x = there (slice_set scratch (suc d) b) d (let e = as_many_y in omega (arith, e, enough)) in
          ap (λ o. on_from (with_local scratch_y b (a ∷ stack) o (all_locals scratch) st) (effects (local_set scratch_x ∷ local_get scratch_y ∷ more))) old_y.1
          ∙ ap (λ ls. effects (local_set scratch_x ∷ local_get scratch_y ∷ more) (a ∷ stack) ls st) (put scratch (suc d) b)
          ∙ ap (λ o. on_from (with_local scratch_x a stack o (all_locals (slice_set scratch (suc d) b)) st) (effects (local_get scratch_y ∷ more))) old_x.1
          ∙ ap (λ ls. effects (local_get scratch_y ∷ more) stack ls st) (put (slice_set scratch (suc d) b) d a)
          ∙ ap (λ o. on_from (pushed o stack (all_locals (both_in a b)) st) (effects more)) got_y

    -- an instruction on both
    pub both_used : (enough : d + 2 ≤ length scratch) (op : Bin) (m n : ℕ) (st : Store)
        → effects (local_get scratch_x ∷ local_get scratch_y ∷ bin32 op ∷ []) [] (all_locals (both_in (W32 m) (W32 n))) st
        ≡ on_from (answer32 (bin_of 32 op m n) [] (all_locals (both_in (W32 m) (W32 n))) st) (effects [])
    both_used enough op m n st =
        let ls = all_locals (both_in (W32 m) (W32 n)) in
        ap (λ o. on_from (pushed o [] ls st) (effects (local_get scratch_y ∷ bin32 op ∷ []))) (got_x enough (W32 m) (W32 n))
        ∙ ap (λ o. on_from (pushed o (W32 m ∷ []) ls st) (effects (bin32 op ∷ []))) (got_y enough (W32 m) (W32 n))
