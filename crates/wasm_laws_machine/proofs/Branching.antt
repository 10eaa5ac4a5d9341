-- Blocks and functions that are left: by their ends, by branches and by returns.
use Rattle.std.proofs.Common.{◌≡◌, ℕ, zero, suc, ◌+◌, List, [], ◌∷◌, ◌++◌, Option, Some, None, length, drop, refl, sym, ap, subst, ◌∙◌, append_assoc, arith}
use Rattle.std.specs.Prelude.{slice_get}
use Rattle.sem_words.specs.declared.word.Word.{Word}
use Rattle.wasm_lang.specs.Instructions.{Instruction}
use Rattle.wasm_lang.specs.Modules.{WasmModule}
use Rattle.wasm_lang_exec.specs.Code.{return, Trees, ε, ◌⊕◌}
use Rattle.wasm_lang_exec.specs.Reductions.{top_of}
use Rattle.wasm_laws_drive.specs.Drive.{State, Outcome, Next, Branch, Leave, Stuck, onward}
use Rattle.wasm_laws_drive.specs.Equations.{take_values, over}
use Rattle.wasm_laws_drive.proofs.Instructions.{no_code}
use Rattle.wasm_laws_drive.specs.Contexts.{Surrounding, closed}
use Rattle.wasm_laws_drive.specs.Steps.{goes_with, to_caller}
use Rattle.wasm_laws_drive.proofs.Closing.{stuck_stays}
use Rattle.wasm_laws_drive.proofs.Stepping.{return_step, end_of_label, end_of_frame, branch_to_label, branch_out_of_frame, return_out_of_frame}
use Rattle.wasm_run_flat.specs.Places.{code_at, after_at, continuation, place_of, Stands}
use Rattle.wasm_run_flat.specs.Laws.{IsNext, IsLeft, IsDone, IsBranch, BranchGoesOn}
use Rattle.wasm_laws_machine.specs.Machine.{LabelPlain, FramePlain, EnclosingPlain, of_label, of_frame, MachinePlain, state_of, targets_of}
use Rattle.wasm_laws_machine.specs.Meaning.{IsBelow, IsEnclosed, IsLabel, IsFrame, code_in, codes_in, IsPlace, Encloses, Within, Shows, Runs, Branches, Returns}
use Rattle.wasm_laws_machine.specs.Carrying.{IsCarried, Carries, ComesDown}
use Rattle.wasm_laws_machine.proofs.Plainly.{place_stands, is_place, code_is, codes_are, comes_of}

head_of_drop : {A : Type 0} (n : ℕ) (xs ys : List A) (y : A) → y ∷ ys ≡ drop n xs → slice_get xs n ≡ Some y
head_of_drop zero [] ys y h = cc h
head_of_drop zero (x ∷ xs) ys y h = cc h
head_of_drop (suc n) [] ys y h = cc h
head_of_drop (suc n) (x ∷ xs) ys y h = head_of_drop n xs ys y h

tail_of_drop : {A : Type 0} (n : ℕ) (xs ys : List A) (y : A) → y ∷ ys ≡ drop n xs → ys ≡ drop (n + 1) xs
tail_of_drop zero [] ys y h = cc h
tail_of_drop zero (x ∷ xs) ys y h = cc h
tail_of_drop (suc n) [] ys y h = cc h
tail_of_drop (suc n) (x ∷ xs) ys y h =
    let e : suc n + 1 ≡ suc (n + 1) = omega arith in
    tail_of_drop n xs ys y h ∙ ap (λ k. drop k (x ∷ xs)) (sym e)

deeper : (floor outer : ℕ) (below over rest values last : List Word) → IsBelow floor below over rest → IsBelow outer rest values last → IsBelow outer below (over ++ values) last
deeper floor outer below over rest values last h k = record { parts = h.parts ∙ ap (λ r. over ++ r) k.parts ∙ sym (append_assoc over values last); count = k.count }

module _ (bodies : ℕ → List Instruction) (m : WasmModule) where
  -- what encloses the machine, as one list or another that is the same
  pub shows_with : (v : MachinePlain) (es : List EnclosingPlain) (n : ℕ) (r : Outcome) → v.enclosing ≡ es → Shows bodies m v n r → Shows bodies m (record v { enclosing = es }) n r
  shows_with v es n r h s = subst (λ es. Shows bodies m (record v { enclosing = es }) n r) h s

  pub runs_with : (v : MachinePlain) (e : EnclosingPlain) (es : List EnclosingPlain) (n : ℕ) (r : Outcome) → v.enclosing ≡ e ∷ es → Shows bodies m v n r → Runs bodies m (record v { enclosing = e ∷ es }) n r
  runs_with v e es n r h s = (tt, shows_with v (e ∷ es) n r h s)

  -- back at the host
  pub shows_finished : (v : MachinePlain) (n : ℕ) (r : Outcome) → v.enclosing ≡ [] → Shows bodies m v n r → r ≡ Next (state_of v n)
  shows_finished v n r h s =
      let t : Shows bodies m (record v { enclosing = [] }) n r = shows_with v [] n r h s in
      t.holds ∙ ap (λ around. closed m around (onward m ε (state_of v n))) t.round ∙ no_code m (state_of v n)

  -- ---- a block is left

  -- the code at the place of the block that is left stands for what the label has after it
  in_outer : (v : MachinePlain) (es : List EnclosingPlain) (n : ℕ) (r : Outcome) (values below rest : List Word) (at : ℕ) (code : Trees) (codes : List Trees) (outer : List Surrounding)
      → IsEnclosed es → Stands (bodies v.function) at (targets_of es)
      → code ≡ code_at (bodies v.function) at → codes ≡ after_at (bodies v.function) at
      → below ≡ rest → Encloses bodies es v.function codes rest outer
      → r ≡ goes_with m outer code (record { values = values; locals = v.locals; store = v.store; left = n })
      → Shows bodies m (record v { values = values; below = below; at = at; enclosing = es }) n r
  in_outer v es n r values below rest at code codes outer inside place code_here codes_here bs round comes = record {
    around = outer;
    is_place = is_place bodies es v.function at place;
    round = subst (λ cs. Encloses bodies es v.function cs below outer) (codes_here ∙ sym (codes_are bodies es v.function at inside)) (subst (λ b. Encloses bodies es v.function codes b outer) (sym bs) round);
    holds = comes ∙ ap (λ code. goes_with m outer code (record { values = values; locals = v.locals; store = v.store; left = n })) (code_here ∙ sym (code_is bodies es v.function at inside));
  }

  -- the end of a block
  pub label_ends : (v : MachinePlain) (b : LabelPlain) (es : List EnclosingPlain) (n : ℕ) (r : Outcome) (values below : List Word) (place : ℕ)
      → v.enclosing ≡ of_label b ∷ es → ComesDown b.floor v.values v.below values below
      → IsLeft (bodies v.function) v.at place (targets_of es)
      → Shows bodies m v (suc n) r
      → Shows bodies m (record v { values = values; below = below; at = place; enclosing = es }) n r
  label_ends v b es n r values below place h down left shown =
      let s : Shows bodies m (record v { enclosing = of_label b ∷ es }) (suc n) r = shows_with v (of_label b ∷ es) (suc n) r h shown in
      let l : IsLabel b (bodies v.function) (code_at (bodies v.function) place) v.below s.around es (Encloses bodies es v.function (after_at (bodies v.function) place)) =
      subst (λ cs. Encloses bodies (of_label b ∷ es) v.function cs v.below s.around) left.after s.round in
      let came = down l.values l.rest l.operands in
      in_outer v es n r values below l.rest place (code_at (bodies v.function) place) (after_at (bodies v.function) place) l.outer l.is_inside left.stands refl refl came.1 l.round
      (s.holds ∙ ap (λ code. goes_with m s.around code (state_of v (suc n))) left.code
      ∙ ap (λ around. goes_with m around ε (state_of v (suc n))) l.stands_for
      ∙ end_of_label m l.outer l.values b.arity (continuation (bodies v.function) b.target) (code_at (bodies v.function) place) (state_of v (suc n))
      ∙ ap (λ vs. goes_with m l.outer (code_at (bodies v.function) place) (record { values = vs; locals = v.locals; store = v.store; left = n })) (sym came.0))

  -- ---- a function is left

  -- back in the caller
  pub returned : MachinePlain → FramePlain → List EnclosingPlain → List Word → List Word → MachinePlain
  returned v f es values below = record v { values = values; below = below; locals = f.locals; function = f.function; at = f.at; enclosing = es }

  pub frame_ends : (v : MachinePlain) (f : FramePlain) (es : List EnclosingPlain) (n : ℕ) (r : Outcome) (values below : List Word)
      → v.enclosing ≡ of_frame f ∷ es → ComesDown f.floor v.values v.below values below
      → IsDone (bodies v.function) v.at
      → Shows bodies m v (suc n) r
      → Shows bodies m (record v { values = values; below = below; locals = f.locals; function = f.function; at = f.at; enclosing = es }) n r
  frame_ends v f es n r values below h down done shown =
      let s : Shows bodies m (record v { enclosing = of_frame f ∷ es }) (suc n) r = shows_with v (of_frame f ∷ es) (suc n) r h shown in
      let l : IsFrame f (code_in bodies es f.function f.at) v.below s.around (IsPlace bodies es f.function f.at) (Encloses bodies es f.function (codes_in bodies es f.function f.at)) =
      subst (λ cs. Encloses bodies (of_frame f ∷ es) v.function cs v.below s.around) done.after s.round in
      let came = down l.values l.rest l.operands in
      record {
        around = l.outer;
        is_place = l.is_place;
        round = subst (λ b. Encloses bodies es f.function (codes_in bodies es f.function f.at) b l.outer) (sym came.1) l.round;
        holds = s.holds ∙ ap (λ code. goes_with m s.around code (state_of v (suc n))) done.code
            ∙ ap (λ around. goes_with m around ε (state_of v (suc n))) l.stands_for
            ∙ end_of_frame m l.outer l.values f.arity (code_in bodies es f.function f.at) f.locals (state_of v (suc n))
            ∙ ap (λ vs. goes_with m l.outer (code_in bodies es f.function f.at) (record { values = vs; locals = f.locals; store = v.store; left = n })) (sym came.0);
      }

  -- ---- a branch

  pub branch_begins : (v : MachinePlain) (n k : ℕ) (r : Outcome) (values below : List Word)
      → IsEnclosed v.enclosing → below ≡ v.below → Within bodies v (λ around. r ≡ closed m around (Branch k (record { values = values; locals = v.locals; store = v.store; left = n })))
      → Branches bodies m (record v { values = values; below = below }) (length below) k n r
  branch_begins v n k r values below inside bs s = record {
    is_inside = inside;
    codes = after_at (bodies v.function) v.at;
    around = s.around;
    over = [];
    rest = below;
    operands = record { parts = refl; count = refl };
    round = subst (λ b. Encloses bodies v.enclosing v.function (after_at (bodies v.function) v.at) b s.around) (sym bs)
        (subst (λ cs. Encloses bodies v.enclosing v.function cs v.below s.around) (codes_are bodies v.enclosing v.function v.at inside) s.round);
    holds = (record { gone = 0; targets = targets_of v.enclosing; is_place = place_stands bodies v.enclosing v.function v.at inside s.is_place; are_codes = refl; are_targets = refl }, s.holds);
  }

  branches_with : (v : MachinePlain) (es : List EnclosingPlain) (floor k n : ℕ) (r : Outcome) → v.enclosing ≡ es → Branches bodies m v floor k n r → Branches bodies m (record v { enclosing = es }) floor k n r
  branches_with v es floor k n r h s = subst (λ es. Branches bodies m (record v { enclosing = es }) floor k n r) h s

  -- out of a label that it doesn't go to
  pub branch_passes : (v : MachinePlain) (b : LabelPlain) (es : List EnclosingPlain) (floor k n : ℕ) (r : Outcome)
      → v.enclosing ≡ of_label b ∷ es → Branches bodies m v floor (suc k) n r → Branches bodies m (record v { enclosing = es }) b.floor k n r
  branch_passes v b es floor k n r h shown = go (branches_with v (of_label b ∷ es) floor (suc k) n r h shown)
    where
      passed : (s : Branches bodies m (record v { enclosing = of_label b ∷ es }) floor (suc k) n r) (codes : List Trees) → s.codes ≡ codes
          → Encloses bodies (of_label b ∷ es) v.function codes s.rest s.around → Branches bodies m (record v { enclosing = es }) b.floor k n r
      passed s [] is l = absurd l
      passed s (code ∷ codes) is l = record {
        is_inside = l.is_inside;
        codes = codes;
        around = l.outer;
        over = s.over ++ l.values;
        rest = l.rest;
        operands = deeper floor b.floor v.below s.over s.rest l.values l.rest s.operands l.operands;
        round = l.round;
        holds = (
          record {
            gone = s.holds.0.gone + 1;
            targets = s.holds.0.targets;
            is_place = s.holds.0.is_place;
            are_codes = tail_of_drop s.holds.0.gone (after_at (bodies v.function) v.at) codes code (sym is ∙ s.holds.0.are_codes);
            are_targets = tail_of_drop s.holds.0.gone s.holds.0.targets (targets_of es) b.target s.holds.0.are_targets;
          },
          s.holds.1 ∙ ap (λ around. closed m around (Branch (suc k) (state_of v n))) l.stands_for,
        );
      }

      go : Branches bodies m (record v { enclosing = of_label b ∷ es }) floor (suc k) n r → Branches bodies m (record v { enclosing = es }) b.floor k n r
      go s = passed s s.codes refl s.round

  values_taken : (o : Option (List Word)) (top : List Word) (t : State) (go : List Word → Outcome) → o ≡ Some top → take_values o t go ≡ go top
  values_taken o top t go h = ap (λ o. take_values o t go) h

  -- to the label itself
  pub branch_lands : BranchGoesOn → (v : MachinePlain) (b : LabelPlain) (es : List EnclosingPlain) (floor n : ℕ) (r : Outcome) (values below : List Word)
      → v.enclosing ≡ of_label b ∷ es → Carries b.arity floor b.floor v.values v.below values below
      → Branches bodies m v floor 0 n r
      → Shows bodies m (record v { values = values; below = below; at = place_of b.target; enclosing = es }) n r
  branch_lands law v b es floor n r values below h carries shown = go (branches_with v (of_label b ∷ es) floor 0 n r h shown)
    where
      landed : (s : Branches bodies m (record v { enclosing = of_label b ∷ es }) floor 0 n r) (codes : List Trees) → s.codes ≡ codes
          → Encloses bodies (of_label b ∷ es) v.function codes s.rest s.around → Shows bodies m (record v { values = values; below = below; at = place_of b.target; enclosing = es }) n r
      landed s [] is l = absurd l
      landed s (code ∷ codes) is l =
          let body = bodies v.function in
          let o = s.holds.0 in
          let to : IsBranch body v.at o.gone o.targets b.target = law body v.at o.targets o.gone b.target o.is_place (head_of_drop o.gone o.targets (targets_of es) b.target o.are_targets) in
          let came : slice_get (after_at body v.at) o.gone ≡ Some code = head_of_drop o.gone (after_at body v.at) codes code (sym is ∙ o.are_codes) in
          let next : to.next ≡ code = cc (to.was_next, came) in
          let moved : IsCarried b.arity v.values l.values l.rest values below = carries s.over s.rest l.values l.rest s.operands l.operands in
          let place : Stands body (place_of b.target) (targets_of es) = subst (Stands body (place_of b.target)) (sym (tail_of_drop o.gone o.targets (targets_of es) b.target o.are_targets)) to.stands in
          let codes_here : codes ≡ after_at body (place_of b.target) = tail_of_drop o.gone (after_at body v.at) codes code (sym is ∙ o.are_codes) ∙ sym to.after in
          let code_here : continuation body b.target ⊕ code ≡ code_at body (place_of b.target) = ap (λ c. continuation body b.target ⊕ c) (sym next) ∙ sym to.code in
          in_outer v es n r values below l.rest (place_of b.target) (continuation body b.target ⊕ code) codes l.outer l.is_inside place code_here codes_here moved.others l.round
          (s.holds.1 ∙ ap (λ around. closed m around (Branch 0 (state_of v n))) l.stands_for
          ∙ branch_to_label m l.outer l.values b.arity (continuation body b.target) code (state_of v n)
          ∙ values_taken (top_of b.arity v.values) moved.top (state_of v n) (λ top. goes_with m l.outer (continuation body b.target ⊕ code) (over l.values top (state_of v n))) moved.is_top
          ∙ ap (λ vs. goes_with m l.outer (continuation body b.target ⊕ code) (record { values = vs; locals = v.locals; store = v.store; left = n })) (sym moved.values))

      go : Branches bodies m (record v { enclosing = of_label b ∷ es }) floor 0 n r → Shows bodies m (record v { values = values; below = below; at = place_of b.target; enclosing = es }) n r
      go s = landed s s.codes refl s.round

  pub branch_sticks : (v : MachinePlain) (b : LabelPlain) (es : List EnclosingPlain) (floor n : ℕ) (r : Outcome)
      → v.enclosing ≡ of_label b ∷ es → top_of b.arity v.values ≡ None → Branches bodies m v floor 0 n r → r ≡ Stuck v.store
  branch_sticks v b es floor n r h none shown = go (branches_with v (of_label b ∷ es) floor 0 n r h shown)
    where
      landed : (s : Branches bodies m (record v { enclosing = of_label b ∷ es }) floor 0 n r) (codes : List Trees)
          → Encloses bodies (of_label b ∷ es) v.function codes s.rest s.around → r ≡ Stuck v.store
      landed s [] l = absurd l
      landed s (code ∷ codes) l =
          s.holds.1 ∙ ap (λ around. closed m around (Branch 0 (state_of v n))) l.stands_for
          ∙ branch_to_label m l.outer l.values b.arity (continuation (bodies v.function) b.target) code (state_of v n)
          ∙ ap (λ o. take_values o (state_of v n) (λ top. goes_with m l.outer (continuation (bodies v.function) b.target ⊕ code) (over l.values top (state_of v n)))) none

      go : Branches bodies m (record v { enclosing = of_label b ∷ es }) floor 0 n r → r ≡ Stuck v.store
      go s = landed s s.codes s.round

  -- past the frame there is nothing to branch to
  pub branch_is_lost : (v : MachinePlain) (f : FramePlain) (es : List EnclosingPlain) (floor k n : ℕ) (r : Outcome)
      → v.enclosing ≡ of_frame f ∷ es → Branches bodies m v floor (suc k) n r → r ≡ Stuck v.store
  branch_is_lost v f es floor k n r h shown = go (branches_with v (of_frame f ∷ es) floor (suc k) n r h shown)
    where
      lost : (s : Branches bodies m (record v { enclosing = of_frame f ∷ es }) floor (suc k) n r) (codes : List Trees)
          → Encloses bodies (of_frame f ∷ es) v.function codes s.rest s.around → r ≡ Stuck v.store
      lost s [] l = s.holds.1 ∙ ap (λ around. closed m around (Branch (suc k) (state_of v n))) l.stands_for ∙ stuck_stays m l.outer v.store
      lost s (code ∷ codes) l = absurd l

      go : Branches bodies m (record v { enclosing = of_frame f ∷ es }) floor (suc k) n r → r ≡ Stuck v.store
      go s = lost s s.codes s.round

  pub branch_is_inside : (v : MachinePlain) (floor k n : ℕ) (r : Outcome) → v.enclosing ≡ [] → Branches bodies m v floor k n r → ⊥
  branch_is_inside v floor k n r h s = subst IsEnclosed h s.is_inside

  -- ---- a return

  returns_with : (v : MachinePlain) (es : List EnclosingPlain) (floor n : ℕ) (r : Outcome) → v.enclosing ≡ es → Returns bodies m v floor n r → Returns bodies m (record v { enclosing = es }) floor n r
  returns_with v es floor n r h s = subst (λ es. Returns bodies m (record v { enclosing = es }) floor n r) h s

  pub return_is_inside : (v : MachinePlain) (floor n : ℕ) (r : Outcome) → v.enclosing ≡ [] → Returns bodies m v floor n r → ⊥
  return_is_inside v floor n r h s = subst IsEnclosed h s.is_inside

  pub return_begins : (v : MachinePlain) (n : ℕ) (r : Outcome) → Runs bodies m v (suc n) r → IsNext (bodies v.function) v.at (v.at + 1) (targets_of v.enclosing) return
      → Returns bodies m v (length v.below) n r
  return_begins v n r (inside, s) next = record {
    is_inside = inside;
    codes = codes_in bodies v.enclosing v.function v.at;
    around = s.around;
    over = [];
    rest = v.below;
    operands = record { parts = refl; count = refl };
    round = s.round;
    holds = comes_of bodies m v (suc n) r return (inside, s) next ∙ return_step m s.around (code_at (bodies v.function) (v.at + 1)) (state_of v (suc n));
  }

  pub return_passes : (v : MachinePlain) (b : LabelPlain) (es : List EnclosingPlain) (floor n : ℕ) (r : Outcome)
      → v.enclosing ≡ of_label b ∷ es → Returns bodies m v floor n r → Returns bodies m (record v { enclosing = es }) b.floor n r
  return_passes v b es floor n r h shown = go (returns_with v (of_label b ∷ es) floor n r h shown)
    where
      passed : (s : Returns bodies m (record v { enclosing = of_label b ∷ es }) floor n r) (codes : List Trees)
          → Encloses bodies (of_label b ∷ es) v.function codes s.rest s.around → Returns bodies m (record v { enclosing = es }) b.floor n r
      passed s [] l = absurd l
      passed s (code ∷ codes) l = record {
        is_inside = l.is_inside;
        codes = codes;
        around = l.outer;
        over = s.over ++ l.values;
        rest = l.rest;
        operands = deeper floor b.floor v.below s.over s.rest l.values l.rest s.operands l.operands;
        round = l.round;
        holds = s.holds ∙ ap (λ around. closed m around (Leave (state_of v n))) l.stands_for;
      }

      go : Returns bodies m (record v { enclosing = of_label b ∷ es }) floor n r → Returns bodies m (record v { enclosing = es }) b.floor n r
      go s = passed s s.codes s.round

  -- the frame gives its results to the caller
  left_frame : (v : MachinePlain) (f : FramePlain) (es : List EnclosingPlain) (floor n : ℕ) (r : Outcome) (values below over rest : List Word) (around : List Surrounding)
      → IsBelow floor v.below over rest → Carries f.arity floor f.floor v.values v.below values below
      → (l : IsFrame f (code_in bodies es f.function f.at) rest around (IsPlace bodies es f.function f.at) (Encloses bodies es f.function (codes_in bodies es f.function f.at)))
      → r ≡ take_values (top_of f.arity v.values) (state_of v n) (λ top. to_caller m l.outer l.values (code_in bodies es f.function f.at) f.locals top (state_of v n))
      → Shows bodies m (record v { values = values; below = below; locals = f.locals; function = f.function; at = f.at; enclosing = es }) n r
  left_frame v f es floor n r values below over rest around under carries l comes =
      let moved : IsCarried f.arity v.values l.values l.rest values below = carries over rest l.values l.rest under l.operands in
      record {
        around = l.outer;
        is_place = l.is_place;
        round = subst (λ b. Encloses bodies es f.function (codes_in bodies es f.function f.at) b l.outer) (sym moved.others) l.round;
        holds = comes
            ∙ values_taken (top_of f.arity v.values) moved.top (state_of v n) (λ top. to_caller m l.outer l.values (code_in bodies es f.function f.at) f.locals top (state_of v n)) moved.is_top
            ∙ ap (λ vs. goes_with m l.outer (code_in bodies es f.function f.at) (record { values = vs; locals = f.locals; store = v.store; left = n })) (sym moved.values);
      }

  stuck_frame : (v : MachinePlain) (n : ℕ) (r : Outcome) (arity : ℕ) (go : List Word → Outcome) → top_of arity v.values ≡ None
      → r ≡ take_values (top_of arity v.values) (state_of v n) go → r ≡ Stuck v.store
  stuck_frame v n r arity go none comes = comes ∙ ap (λ o. take_values o (state_of v n) go) none

  pub return_lands : (v : MachinePlain) (f : FramePlain) (es : List EnclosingPlain) (floor n : ℕ) (r : Outcome) (values below : List Word)
      → v.enclosing ≡ of_frame f ∷ es → Carries f.arity floor f.floor v.values v.below values below
      → Returns bodies m v floor n r
      → Shows bodies m (record v { values = values; below = below; locals = f.locals; function = f.function; at = f.at; enclosing = es }) n r
  return_lands v f es floor n r values below h carries shown = go (returns_with v (of_frame f ∷ es) floor n r h shown)
    where
      landed : (s : Returns bodies m (record v { enclosing = of_frame f ∷ es }) floor n r) (codes : List Trees)
          → Encloses bodies (of_frame f ∷ es) v.function codes s.rest s.around
          → Shows bodies m (record v { values = values; below = below; locals = f.locals; function = f.function; at = f.at; enclosing = es }) n r
      landed s [] l = left_frame v f es floor n r values below s.over s.rest s.around s.operands carries l
          (s.holds ∙ ap (λ around. closed m around (Leave (state_of v n))) l.stands_for ∙ return_out_of_frame m l.outer l.values f.arity (code_in bodies es f.function f.at) f.locals (state_of v n))
      landed s (code ∷ codes) l = absurd l

      go : Returns bodies m (record v { enclosing = of_frame f ∷ es }) floor n r
          → Shows bodies m (record v { values = values; below = below; locals = f.locals; function = f.function; at = f.at; enclosing = es }) n r
      go s = landed s s.codes s.round

  pub return_sticks : (v : MachinePlain) (f : FramePlain) (es : List EnclosingPlain) (floor n : ℕ) (r : Outcome)
      → v.enclosing ≡ of_frame f ∷ es → top_of f.arity v.values ≡ None → Returns bodies m v floor n r → r ≡ Stuck v.store
  return_sticks v f es floor n r h none shown = go (returns_with v (of_frame f ∷ es) floor n r h shown)
    where
      landed : (s : Returns bodies m (record v { enclosing = of_frame f ∷ es }) floor n r) (codes : List Trees) → Encloses bodies (of_frame f ∷ es) v.function codes s.rest s.around → r ≡ Stuck v.store
      landed s [] l = stuck_frame v n r f.arity (λ top. to_caller m l.outer l.values (code_in bodies es f.function f.at) f.locals top (state_of v n)) none
          (s.holds ∙ ap (λ around. closed m around (Leave (state_of v n))) l.stands_for ∙ return_out_of_frame m l.outer l.values f.arity (code_in bodies es f.function f.at) f.locals (state_of v n))
      landed s (code ∷ codes) l = absurd l

      go : Returns bodies m (record v { enclosing = of_frame f ∷ es }) floor n r → r ≡ Stuck v.store
      go s = landed s s.codes s.round

  -- a branch to the outermost label of a function is a return
  pub branch_is_return : (v : MachinePlain) (f : FramePlain) (es : List EnclosingPlain) (floor n : ℕ) (r : Outcome)
      → v.enclosing ≡ of_frame f ∷ es → Branches bodies m v floor 0 n r → Returns bodies m v floor n r
  branch_is_return v f es floor n r h shown = go (branches_with v (of_frame f ∷ es) floor 0 n r h shown)
    where
      same : (s : Branches bodies m (record v { enclosing = of_frame f ∷ es }) floor 0 n r) (codes : List Trees) → s.codes ≡ codes → Encloses bodies (of_frame f ∷ es) v.function codes s.rest s.around
          → Returns bodies m (record v { enclosing = of_frame f ∷ es }) floor n r
      same s [] is l = record {
        is_inside = tt;
        codes = s.codes;
        around = s.around;
        over = s.over;
        rest = s.rest;
        operands = s.operands;
        round = s.round;
        holds = s.holds.1 ∙ ap (λ around. closed m around (Branch 0 (state_of v n))) l.stands_for
            ∙ branch_out_of_frame m l.outer l.values f.arity (code_in bodies es f.function f.at) f.locals (state_of v n)
            ∙ sym (return_out_of_frame m l.outer l.values f.arity (code_in bodies es f.function f.at) f.locals (state_of v n))
            ∙ ap (λ around. closed m around (Leave (state_of v n))) (sym l.stands_for);
      }
      same s (code ∷ codes) is l = absurd l

      go : Branches bodies m (record v { enclosing = of_frame f ∷ es }) floor 0 n r → Returns bodies m v floor n r
      go s = subst (λ es. Returns bodies m (record v { enclosing = es }) floor n r) (sym h) (same s s.codes refl s.round)
