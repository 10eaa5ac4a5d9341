-- Constants and other plain instructions, by what the code says of them.
use Rattle.std.proofs.Common.{◌≡◌, ℕ, suc, ◌+◌, Bool, true, false, not, List, ◌∷◌, ◌++◌, Some, None, length, take, drop, refl, sym, ap, subst, ◌∙◌}
use Rattle.std.proofs.Math.Seq.{take-append_seam}
use Rattle.std.specs.Prelude.{slice_get}
use Rattle.sem_words.specs.declared.word.Word.{Word}
use Rattle.sem_words.specs.declared.word.TrapKind.{TrapKind}
use Rattle.session_lang.specs.Observation.{trapped}
use Rattle.wasm_lang.specs.Instructions as flat
use Rattle.wasm_lang.specs.Instructions.{Instruction, Plain, const32, const64}
use Rattle.wasm_lang.specs.Modules.{WasmModule}
use Rattle.wasm_lang_exec.specs.Store.{Store}
use Rattle.wasm_lang_exec.specs.Plain.{goes, traps, sticks}
use Rattle.wasm_laws_drive.specs.Drive.{Outcome, Ended, Stuck}
use Rattle.wasm_laws_drive.specs.Equations.{is_constant}
use Rattle.wasm_run_plain.specs.Forms.{instruction_effect}
use Rattle.wasm_laws_machine.specs.Machine.{MachinePlain}
use Rattle.wasm_laws_machine.specs.Meaning.{Shows, Runs}
use Rattle.wasm_run_machine.specs.Kinds.{is_free, constant_in, is_paid_plain}
use Rattle.wasm_run_machine.proofs.Done.{narrow_does, wide_does, plain_does, plain_is_trap, plain_is_stuck}

some_is : {A : Type 0} {x y : A} → Some x ≡ Some y → x ≡ y
some_is h = cc h

not_true : (b : Bool) → not b ≡ true → b ≡ false
not_true true h = cc h
not_true false h = refl

-- ---- constants

constant_is_plain : (p : Plain) → constant_in (flat.plain p) ≡ None → is_constant p ≡ false
constant_is_plain (const32 n) h = cc h
constant_is_plain (const64 n) h = cc h
constant_is_plain p h = refl

pub no_constant : (i : Instruction) → constant_in i ≡ None → is_free i ≡ false
no_constant (flat.plain p) h = constant_is_plain p h
no_constant i h = refl

pub no_constant_there : (body : List Instruction) (at : ℕ) (i j : Instruction) → slice_get body at ≡ Some j → constant_in j ≡ None → slice_get body at ≡ Some i → is_free i ≡ false
no_constant_there body at i j got none other = subst (λ i. is_free i ≡ false) (some_is (sym got ∙ other)) (no_constant j none)

pub free_is_not : (body : List Instruction) (at : ℕ) (i j : Instruction) → slice_get body at ≡ Some j → slice_get body at ≡ Some i → is_free i ≡ false → is_free j ≡ true → ⊥
free_is_not body at i j got other free constant = let e : true ≡ false = sym constant ∙ ap is_free (some_is (sym got ∙ other)) ∙ free in cc e

-- ---- other plain instructions

-- what a slice of a whole vector leaves of it
pub refilled : (n : ℕ) (ws vs : List Word) → length ws ≡ n → take n (ws ++ drop (length ws) vs) ≡ ws
refilled n ws vs e = subst (λ (k : ℕ). take k (ws ++ drop (length ws) vs) ≡ ws) e (take-append_seam ws (drop (length ws) vs))

pub record IsPaid (i : Instruction) : Type 0 where
  pub plain : Plain
  pub is : i ≡ flat.plain plain
  pub paid : is_constant plain ≡ false

pub paid_is : (i : Instruction) → is_paid_plain i ≡ true → IsPaid i
paid_is (flat.plain p) h = record { plain = p; is = refl; paid = not_true (is_constant p) h }
paid_is flat.unreachable h = cc h
paid_is (flat.block r) h = cc h
paid_is (flat.loop r) h = cc h
paid_is (flat.if_block r) h = cc h
paid_is flat.else_mark h = cc h
paid_is flat.end_mark h = cc h
paid_is (flat.br l) h = cc h
paid_is (flat.br_if l) h = cc h
paid_is (flat.br_table ls l) h = cc h
paid_is flat.return h = cc h
paid_is (flat.call f) h = cc h
paid_is (flat.call_indirect t) h = cc h

module _ (bodies : ℕ → List Instruction) (m : WasmModule) where
  plain_constant : (v : MachinePlain) (n : ℕ) (r : Outcome) (body : List Instruction) (p : Plain) (word : Word) (values below : List Word)
      → constant_in (flat.plain p) ≡ Some word → values ≡ word ∷ v.values → below ≡ v.below → bodies v.function ≡ body → slice_get body v.at ≡ Some (flat.plain p)
      → Runs bodies m v n r → Runs bodies m (record v { values = values; below = below; at = v.at + 1 }) n r
  plain_constant v n r body (const32 c) word values below is vs bs same got s =
      narrow_does bodies m v n c r body values below (vs ∙ ap (λ w. w ∷ v.values) (sym (some_is is))) bs same got s
  plain_constant v n r body (const64 c) word values below is vs bs same got s =
      wide_does bodies m v n c r body values below (vs ∙ ap (λ w. w ∷ v.values) (sym (some_is is))) bs same got s
  plain_constant v n r body p word values below is vs bs same got s = cc is

  pub constant_does : (v : MachinePlain) (n : ℕ) (r : Outcome) (body : List Instruction) (i : Instruction) (word : Word) (values below : List Word)
      → constant_in i ≡ Some word → values ≡ word ∷ v.values → below ≡ v.below → bodies v.function ≡ body → slice_get body v.at ≡ Some i
      → Runs bodies m v n r → Runs bodies m (record v { values = values; below = below; at = v.at + 1 }) n r
  constant_does v n r body (flat.plain p) word values below is vs bs same got s = plain_constant v n r body p word values below is vs bs same got s
  constant_does v n r body i word values below is vs bs same got s = cc is

  pub goes_on : (v : MachinePlain) (n : ℕ) (r : Outcome) (body : List Instruction) (i : Instruction) (values below locals : List Word) (store : Store)
      → is_paid_plain i ≡ true → goes values locals store ≡ instruction_effect i v.values v.locals v.store → below ≡ v.below
      → bodies v.function ≡ body → slice_get body v.at ≡ Some i → Runs bodies m v (suc n) r
      → Shows bodies m (record v { values = values; below = below; locals = locals; at = v.at + 1; store = store }) n r
  goes_on v n r body i values below locals store paid does bs same got s =
      let p = paid_is i paid in
      plain_does bodies m v n r body p.plain values below locals store p.paid (sym (does ∙ ap (λ i. instruction_effect i v.values v.locals v.store) p.is)) bs same (got ∙ ap Some p.is) s

  pub traps_there : (v : MachinePlain) (n : ℕ) (r : Outcome) (body : List Instruction) (i : Instruction) (kind : TrapKind) (store : Store)
      → is_paid_plain i ≡ true → traps kind ≡ instruction_effect i v.values v.locals v.store → store ≡ v.store
      → bodies v.function ≡ body → slice_get body v.at ≡ Some i → Runs bodies m v (suc n) r → r ≡ Ended (trapped kind) store
  traps_there v n r body i kind store paid does keeps same got s =
      let p = paid_is i paid in
      plain_is_trap bodies m v n r body p.plain kind p.paid (sym (does ∙ ap (λ i. instruction_effect i v.values v.locals v.store) p.is)) same (got ∙ ap Some p.is) s ∙ ap (Ended (trapped kind)) (sym keeps)

  pub sticks_there : (v : MachinePlain) (n : ℕ) (r : Outcome) (body : List Instruction) (i : Instruction) (store : Store)
      → is_paid_plain i ≡ true → sticks ≡ instruction_effect i v.values v.locals v.store → store ≡ v.store
      → bodies v.function ≡ body → slice_get body v.at ≡ Some i → Runs bodies m v (suc n) r → r ≡ Stuck store
  sticks_there v n r body i store paid does keeps same got s =
      let p = paid_is i paid in
      plain_is_stuck bodies m v n r body p.plain p.paid (sym (does ∙ ap (λ i. instruction_effect i v.values v.locals v.store) p.is)) same (got ∙ ap Some p.is) s ∙ ap Stuck (sym keeps)
