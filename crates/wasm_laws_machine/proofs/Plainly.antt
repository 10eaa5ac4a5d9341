-- Instructions that open, close and leave nothing.
use Rattle.std.proofs.Common.{◌≡◌, ℕ, suc, ◌+◌, false, List, [], ◌∷◌, refl, sym, ap, subst, ◌∙◌}
use Rattle.sem_words.specs.declared.word.Word.{Word}
use Rattle.sem_words.specs.declared.word.Word.TheVariants.{W32, W64}
use Rattle.sem_words.specs.declared.word.TrapKind.{TrapKind}
use Rattle.sem_words.specs.declared.word.TrapKind.TheVariants as kinds
use Rattle.session_lang.specs.Observation.{trapped}
use Rattle.wasm_lang.specs.Instructions.{Instruction, Plain, const32, const64}
use Rattle.wasm_lang.specs.Modules.{WasmModule}
use Rattle.wasm_lang_exec.specs.Code.{plain, unreachable, Tree, ◌▹◌}
use Rattle.wasm_lang_exec.specs.Store.{Store}
use Rattle.wasm_lang_exec.specs.Plain.{Effect, goes, traps, sticks, do_plain}
use Rattle.wasm_laws_drive.specs.Drive.{Outcome, Ended, Stuck}
use Rattle.wasm_laws_drive.specs.Equations.{after, is_constant}
use Rattle.wasm_laws_drive.proofs.Instructions.{narrow_constant, wide_constant}
use Rattle.wasm_laws_drive.specs.Contexts.{closed}
use Rattle.wasm_laws_drive.specs.Steps.{goes_with}
use Rattle.wasm_laws_drive.proofs.Stepping.{plain_step, unreachable_step}
use Rattle.wasm_run_flat.specs.Places.{code_at, after_at, Stands}
use Rattle.wasm_run_flat.specs.Laws.{IsNext}
use Rattle.wasm_laws_machine.specs.Machine.{EnclosingPlain, MachinePlain, state_of, targets_of}
use Rattle.wasm_laws_machine.specs.Meaning.{IsEnclosed, code_in, codes_in, IsPlace, Encloses, Shows, Runs}

module _ (bodies : ℕ → List Instruction) where
  -- ---- a place of a function

  pub place_stands : (es : List EnclosingPlain) (f at : ℕ) → IsEnclosed es → IsPlace bodies es f at → Stands (bodies f) at (targets_of es)
  place_stands [] f at h p = absurd h
  place_stands (e ∷ es) f at h p = p

  pub is_place : (es : List EnclosingPlain) (f at : ℕ) → Stands (bodies f) at (targets_of es) → IsPlace bodies es f at
  is_place [] f at p = tt
  is_place (e ∷ es) f at p = p

  pub code_is : (es : List EnclosingPlain) (f at : ℕ) → IsEnclosed es → code_in bodies es f at ≡ code_at (bodies f) at
  code_is [] f at h = absurd h
  code_is (e ∷ es) f at h = refl

  pub codes_are : (es : List EnclosingPlain) (f at : ℕ) → IsEnclosed es → codes_in bodies es f at ≡ after_at (bodies f) at
  codes_are [] f at h = absurd h
  codes_are (e ∷ es) f at h = refl

  module _ (m : WasmModule) where
    -- from one instruction to the next, with the same blocks around
    pub next_shows : (v : MachinePlain) (n k : ℕ) (r : Outcome) (x : Tree) (values below locals : List Word) (store : Store)
        → below ≡ v.below
        → (s : Runs bodies m v n r) → IsNext (bodies v.function) v.at (v.at + 1) (targets_of v.enclosing) x
        → r ≡ goes_with m s.1.around (code_at (bodies v.function) (v.at + 1)) (record { values = values; locals = locals; store = store; left = k })
        → Shows bodies m (record v { values = values; below = below; locals = locals; at = v.at + 1; store = store }) k r
    next_shows v n k r x values below locals store same (inside, s) next comes =
        let codes : codes_in bodies v.enclosing v.function v.at ≡ codes_in bodies v.enclosing v.function (v.at + 1) =
        codes_are v.enclosing v.function v.at inside ∙ next.after ∙ sym (codes_are v.enclosing v.function (v.at + 1) inside) in
        record {
          around = s.around;
          is_place = is_place v.enclosing v.function (v.at + 1) next.stands;
          round = subst (λ b. Encloses bodies v.enclosing v.function (codes_in bodies v.enclosing v.function (v.at + 1)) b s.around) (sym same)
              (subst (λ cs. Encloses bodies v.enclosing v.function cs v.below s.around) codes s.round);
          holds = comes ∙ ap (λ code. goes_with m s.around code (record { values = values; locals = locals; store = store; left = k })) (sym (code_is v.enclosing v.function (v.at + 1) inside));
        }

    -- what is shown is what comes of the instruction and of those after it
    pub comes_of : (v : MachinePlain) (n : ℕ) (r : Outcome) (x : Tree) (s : Runs bodies m v n r) → IsNext (bodies v.function) v.at (v.at + 1) (targets_of v.enclosing) x
        → r ≡ goes_with m s.1.around (x ▹ code_at (bodies v.function) (v.at + 1)) (state_of v n)
    comes_of v n r x (inside, s) next =
        s.holds ∙ ap (λ code. goes_with m s.around code (state_of v n)) (code_is v.enclosing v.function v.at inside ∙ next.code)

    -- ---- constants

    pub narrow_shows : (v : MachinePlain) (n c : ℕ) (r : Outcome) (values below : List Word) → values ≡ W32 c ∷ v.values → below ≡ v.below
        → Runs bodies m v n r → IsNext (bodies v.function) v.at (v.at + 1) (targets_of v.enclosing) (plain (const32 c))
        → Shows bodies m (record v { values = values; below = below; at = v.at + 1 }) n r
    narrow_shows v n c r values below vs same s next =
        let code = code_at (bodies v.function) (v.at + 1) in
        next_shows v n n r (plain (const32 c)) values below v.locals v.store same s next
        (comes_of v n r (plain (const32 c)) s next ∙ ap (closed m s.1.around) (narrow_constant m c code (state_of v n))
        ∙ ap (λ vs. goes_with m s.1.around code (record { values = vs; locals = v.locals; store = v.store; left = n })) (sym vs))

    pub wide_shows : (v : MachinePlain) (n c : ℕ) (r : Outcome) (values below : List Word) → values ≡ W64 c ∷ v.values → below ≡ v.below
        → Runs bodies m v n r → IsNext (bodies v.function) v.at (v.at + 1) (targets_of v.enclosing) (plain (const64 c))
        → Shows bodies m (record v { values = values; below = below; at = v.at + 1 }) n r
    wide_shows v n c r values below vs same s next =
        let code = code_at (bodies v.function) (v.at + 1) in
        next_shows v n n r (plain (const64 c)) values below v.locals v.store same s next
        (comes_of v n r (plain (const64 c)) s next ∙ ap (closed m s.1.around) (wide_constant m c code (state_of v n))
        ∙ ap (λ vs. goes_with m s.1.around code (record { values = vs; locals = v.locals; store = v.store; left = n })) (sym vs))

    -- ---- other plain instructions, whose reduction is paid

    plain_comes : (v : MachinePlain) (n : ℕ) (r : Outcome) (p : Plain) (e : Effect) → is_constant p ≡ false → do_plain p v.values v.locals v.store ≡ e
        → (s : Runs bodies m v (suc n) r) → IsNext (bodies v.function) v.at (v.at + 1) (targets_of v.enclosing) (plain p)
        → r ≡ after e (state_of v n) (goes_with m s.1.around (code_at (bodies v.function) (v.at + 1)))
    plain_comes v n r p e is does s next =
        comes_of v (suc n) r (plain p) s next ∙ plain_step m s.1.around p (code_at (bodies v.function) (v.at + 1)) (state_of v (suc n)) is
        ∙ ap (λ e. after e (state_of v n) (goes_with m s.1.around (code_at (bodies v.function) (v.at + 1)))) does

    pub plain_shows : (v : MachinePlain) (n : ℕ) (r : Outcome) (p : Plain) (values below locals : List Word) (store : Store)
        → is_constant p ≡ false → do_plain p v.values v.locals v.store ≡ goes values locals store → below ≡ v.below
        → Runs bodies m v (suc n) r → IsNext (bodies v.function) v.at (v.at + 1) (targets_of v.enclosing) (plain p)
        → Shows bodies m (record v { values = values; below = below; locals = locals; at = v.at + 1; store = store }) n r
    plain_shows v n r p values below locals store is does same s next =
        next_shows v (suc n) n r (plain p) values below locals store same s next (plain_comes v n r p (goes values locals store) is does s next)

    pub plain_traps : (v : MachinePlain) (n : ℕ) (r : Outcome) (p : Plain) (kind : TrapKind)
        → is_constant p ≡ false → do_plain p v.values v.locals v.store ≡ traps kind
        → Runs bodies m v (suc n) r → IsNext (bodies v.function) v.at (v.at + 1) (targets_of v.enclosing) (plain p)
        → r ≡ Ended (trapped kind) v.store
    plain_traps v n r p kind is does s next = plain_comes v n r p (traps kind) is does s next

    pub plain_sticks : (v : MachinePlain) (n : ℕ) (r : Outcome) (p : Plain)
        → is_constant p ≡ false → do_plain p v.values v.locals v.store ≡ sticks
        → Runs bodies m v (suc n) r → IsNext (bodies v.function) v.at (v.at + 1) (targets_of v.enclosing) (plain p)
        → r ≡ Stuck v.store
    plain_sticks v n r p is does s next = plain_comes v n r p sticks is does s next

    pub unreachable_traps : (v : MachinePlain) (n : ℕ) (r : Outcome)
        → Runs bodies m v (suc n) r → IsNext (bodies v.function) v.at (v.at + 1) (targets_of v.enclosing) unreachable
        → r ≡ Ended (trapped kinds.Unreachable) v.store
    unreachable_traps v n r s next =
        comes_of v (suc n) r unreachable s next ∙ unreachable_step m s.1.around (code_at (bodies v.function) (v.at + 1)) (state_of v (suc n))
