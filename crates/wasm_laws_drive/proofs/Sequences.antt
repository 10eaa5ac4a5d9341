-- Code, and then more code: the reductions of the first, and then those of the second.
use Rattle.std.proofs.Common.{◌≡◌, ℕ, zero, suc, List, [], ◌∷◌, Option, Some, None, Bool, true, false, refl, sym, ap, ◌∙◌}
use Rattle.std.specs.Prelude.{reverse, slice_get, if◌then◌else◌}
use Rattle.sem_words.specs.declared.word.Word.{Word}
use Rattle.sem_words.specs.declared.word.Word.TheVariants.{W32, W64}
use Rattle.sem_words.specs.declared.word.TrapKind.TheVariants as kinds
use Rattle.session_lang.specs.Observation.{trapped}
use Rattle.session_lang.specs.Imports.{ImportAnswer, goes_on, ends, answer_import}
use Rattle.wasm_lang.specs.declared.types.ValType.{ValType}
use Rattle.wasm_lang.specs.Instructions.{const32, const64}
use Rattle.wasm_lang.specs.Modules.{WasmModule}
use Rattle.wasm_lang_exec.specs.Code.{unreachable, block, loop, if_block, br, br_if, br_table, return, call, call_indirect, plain, Trees, ε, ◌▹◌, ◌⊕◌}
use Rattle.wasm_lang_exec.specs.Store.{Store}
use Rattle.wasm_lang_exec.specs.Plain.{Effect, goes, traps, sticks, do_plain}
use Rattle.wasm_lang_exec.specs.Reductions.{Callee, an_import, a_function, callee_at, params_of, top_of, below_top, of_type, Config, Code, Label, Frame, Reduct, to, is_values, branches, returns, stops, is_stuck, after_answer, enter, do_call, call_entry, after_effect, leave, reduce_code, reduce_label, reduce_frame, reduce, choose}
use Rattle.wasm_laws_drive.specs.Drive.{halted, driven, drive, onward}
use Rattle.wasm_laws_drive.specs.Equations.{then_on}
use Rattle.wasm_laws_drive.specs.Laws.{Sequence}

pub trees_assoc : (a b c : Trees) → (a ⊕ b) ⊕ c ≡ a ⊕ (b ⊕ c)
trees_assoc ε b c = refl
trees_assoc (i ▹ a) b c = ap (λ x. i ▹ x) (trees_assoc a b c)

-- more code after a configuration's
abbrev extend : Config → Trees → Config
extend (Code values a) b = Code values (a ⊕ b)
extend (Label values n continuation inside a) b = Label values n continuation inside (a ⊕ b)
extend (Frame values n locals inside a) b = Frame values n locals inside (a ⊕ b)

module _ (m : WasmModule) (b : Trees) where
  -- the reduct, where more code follows
  abbrev more : Reduct → List Word → Store → Reduct
  more (to c l s') locals s = to (extend c b) l s'
  more (is_values values) locals s = reduce_code m b values locals s
  more (branches k values) locals s = branches k values
  more (returns values) locals s = returns values
  more (stops e s') locals s = stops e s'
  more is_stuck locals s = is_stuck

  effect_more : (e : Effect) (a : Trees) (locals : List Word) (s : Store) → after_effect e (a ⊕ b) s ≡ more (after_effect e a s) locals s
  effect_more (goes values l s') a locals s = refl
  effect_more (traps kind) a locals s = refl
  effect_more sticks a locals s = refl

  choice_more : (c l : ℕ) (values : List Word) (a : Trees) (locals : List Word) (s : Store)
      → choose c (branches l values) (to (Code values (a ⊕ b)) locals s) ≡ more (choose c (branches l values) (to (Code values a) locals s)) locals s
  choice_more zero l values a locals s = refl
  choice_more (suc c) l values a locals s = refl

  answer_more : (x : ImportAnswer) (results : List ValType) (values : List Word) (a : Trees) (locals : List Word) (s : Store)
      → after_answer x results values (a ⊕ b) locals s ≡ more (after_answer x results values a locals s) locals s
  answer_more (ends e) results values a locals s = refl
  answer_more (goes_on g) results values a locals s = refl

  enter_more : (c : Option Callee) (arguments : Option (List Word)) (values : List Word) (a : Trees) (locals : List Word) (s : Store)
      → enter c arguments values (a ⊕ b) locals s ≡ more (enter c arguments values a locals s) locals s
  enter_more (Some (an_import name f)) (Some arguments) values a locals s = answer_more (answer_import name (reverse arguments) s.replies) f.results values a locals s
  enter_more (Some (a_function f more body)) (Some arguments) values a locals s = refl
  enter_more c arguments values a locals s = refl

  call_more : (c : Option Callee) (values : List Word) (a : Trees) (locals : List Word) (s : Store)
      → do_call c values (a ⊕ b) locals s ≡ more (do_call c values a locals s) locals s
  call_more c values a locals s = enter_more c (top_of (params_of c) values) (below_top (params_of c) values) a locals s

  typed_more : (is : Bool) (c : Option Callee) (values : List Word) (a : Trees) (locals : List Word) (s : Store)
      → (if is then do_call c values (a ⊕ b) locals s else stops (trapped kinds.OtherType) s)
      ≡ more (if is then do_call c values a locals s else stops (trapped kinds.OtherType) s) locals s
  typed_more true c values a locals s = call_more c values a locals s
  typed_more false c values a locals s = refl

  entry_more : (type : ℕ) (e : Option (Option ℕ)) (values : List Word) (a : Trees) (locals : List Word) (s : Store)
      → call_entry m type e values (a ⊕ b) locals s ≡ more (call_entry m type e values a locals s) locals s
  entry_more type (Some (Some f)) values a locals s = typed_more (of_type (slice_get m.types type) (callee_at m f)) (callee_at m f) values a locals s
  entry_more type (Some None) values a locals s = refl
  entry_more type None values a locals s = refl

  code_more : (a : Trees) (values locals : List Word) (s : Store) → reduce_code m (a ⊕ b) values locals s ≡ more (reduce_code m a values locals s) locals s
  code_more ε values locals s = refl
  code_more (plain (const32 n) ▹ a) values locals s = code_more a (W32 n ∷ values) locals s
  code_more (plain (const64 n) ▹ a) values locals s = code_more a (W64 n ∷ values) locals s
  code_more (plain p ▹ a) values locals s = effect_more (do_plain p values locals s) a locals s
  code_more (unreachable ▹ a) values locals s = refl
  code_more (block r body ▹ a) values locals s = refl
  code_more (loop r body ▹ a) values locals s = refl
  code_more (if_block r x y ▹ a) [] locals s = refl
  code_more (if_block r x y ▹ a) (W32 c ∷ values) locals s = refl
  code_more (if_block r x y ▹ a) (W64 c ∷ values) locals s = refl
  code_more (br l ▹ a) values locals s = refl
  code_more (br_if l ▹ a) [] locals s = refl
  code_more (br_if l ▹ a) (W32 c ∷ values) locals s = choice_more c l values a locals s
  code_more (br_if l ▹ a) (W64 c ∷ values) locals s = refl
  code_more (br_table ls d ▹ a) [] locals s = refl
  code_more (br_table ls d ▹ a) (W32 i ∷ values) locals s = refl
  code_more (br_table ls d ▹ a) (W64 i ∷ values) locals s = refl
  code_more (return ▹ a) values locals s = refl
  code_more (call f ▹ a) values locals s = call_more (callee_at m f) values a locals s
  code_more (call_indirect t ▹ a) [] locals s = refl
  code_more (call_indirect t ▹ a) (W32 i ∷ values) locals s = entry_more t (slice_get s.table i) values a locals s
  code_more (call_indirect t ▹ a) (W64 i ∷ values) locals s = refl

  leave_more : (o : Option (List Word)) (values : List Word) (a : Trees) (locals : List Word) (s : Store)
      → leave m o values (a ⊕ b) locals s ≡ more (leave m o values a locals s) locals s
  leave_more None values a locals s = refl
  leave_more (Some top) values a locals s = refl

  label_more : (r : Reduct) (values : List Word) (n : ℕ) (continuation a : Trees) (locals : List Word) (s : Store)
      → reduce_label m r values n continuation (a ⊕ b) locals s ≡ more (reduce_label m r values n continuation a locals s) locals s
  label_more (to c l s') values n continuation a locals s = refl
  label_more (is_values top) values n continuation a locals s = refl
  label_more (branches zero top) values n continuation a locals s =
      ap (λ x. leave m (top_of n top) values x locals s) (sym (trees_assoc continuation a b)) ∙ leave_more (top_of n top) values (continuation ⊕ a) locals s
  label_more (branches (suc k) top) values n continuation a locals s = refl
  label_more (returns top) values n continuation a locals s = refl
  label_more (stops e s') values n continuation a locals s = refl
  label_more is_stuck values n continuation a locals s = refl

  frame_more : (r : Reduct) (values : List Word) (n : ℕ) (a : Trees) (locals : List Word) (s : Store)
      → reduce_frame m r values n (a ⊕ b) locals s ≡ more (reduce_frame m r values n a locals s) locals s
  frame_more (to c l s') values n a locals s = refl
  frame_more (is_values top) values n a locals s = refl
  frame_more (branches zero top) values n a locals s = leave_more (top_of n top) values a locals s
  frame_more (branches (suc k) top) values n a locals s = refl
  frame_more (returns top) values n a locals s = leave_more (top_of n top) values a locals s
  frame_more (stops e s') values n a locals s = refl
  frame_more is_stuck values n a locals s = refl

  reduce_more : (c : Config) (locals : List Word) (s : Store) → reduce m (extend c b) locals s ≡ more (reduce m c locals s) locals s
  reduce_more (Code values a) locals s = code_more a values locals s
  reduce_more (Label values n continuation inside a) locals s = label_more (reduce m inside locals s) values n continuation a locals s
  reduce_more (Frame values n inner inside a) locals s = frame_more (reduce m inside inner s) values n a locals s

  drive_extend : (n : ℕ) (c : Config) (locals : List Word) (s : Store) → drive m n (extend c b) locals s ≡ then_on (drive m n c locals s) (onward m b)
  drive_extend zero c locals s = ap (λ r. halted r locals s) (reduce_more c locals s) ∙ go (reduce m c locals s)
    where
      go : (r : Reduct) → halted (more r locals s) locals s ≡ then_on (halted r locals s) (onward m b)
      go (to c l s') = refl
      go (is_values values) = refl
      go (branches k values) = refl
      go (returns values) = refl
      go (stops e s') = refl
      go is_stuck = refl
  drive_extend (suc n) c locals s = ap (λ r. driven (drive m n) n r locals s) (reduce_more c locals s) ∙ go (drive_extend n) (reduce m c locals s)
    where
      go : ((c : Config) (l : List Word) (s : Store) → drive m n (extend c b) l s ≡ then_on (drive m n c l s) (onward m b))
          → (r : Reduct) → driven (drive m n) n (more r locals s) locals s ≡ then_on (driven (drive m n) n r locals s) (onward m b)
      go before (to c l s') = before c l s'
      go before (is_values values) = refl
      go before (branches k values) = refl
      go before (returns values) = refl
      go before (stops e s') = refl
      go before is_stuck = refl

pub sequence : Sequence
sequence m code more t = drive_extend m more t.left (Code t.values code) t.locals t.store
