-- Code whose calls by an entry name types of the module, and configurations of such code: what a valid module runs.
use Rattle.std.proofs.Common.{◌≡◌, ℕ, zero, suc, ◌<◌, Bool, true, false, List, [], ◌∷◌, ◌++◌, length, Option, Some, None, Result, Ok, refl, sym, ap, ◌∙◌}
use Rattle.std.specs.Prelude.{slice_get, reverse, if◌then◌else◌}
use Rattle.std.proofs.lemmas.Option.{slice_get_within}
use Rattle.sem_words.specs.declared.word.Word.{Word}
use Rattle.sem_words.specs.declared.word.TrapKind.TheVariants as kinds
use Rattle.session_lang.specs.Observation.{trapped}
use Rattle.session_lang.specs.Imports.{ImportAnswer, goes_on, ends, answer_import}
use Rattle.wasm_lang.specs.declared.types.ValType.{ValType}
use Rattle.wasm_lang.specs.declared.types.ValType.TheVariants.{I32}
use Rattle.wasm_lang.specs.Instructions as flat
use Rattle.wasm_lang.specs.Instructions.{Instruction}
use Rattle.wasm_lang.specs.Modules.{FunctionType, WasmModule}
use Rattle.wasm_lang_valid.specs.declared.rule.Rule.{Rule}
use Rattle.wasm_lang_valid.specs.declared.rule.Rule.TheVariants.{NoType, NoTable}
use Rattle.wasm_lang_valid.specs.Typing.{Context, Shape, found, onward, unless, call_shape, result_of, listed, inside}
use Rattle.wasm_lang_exec.specs.Code.{unreachable, block, loop, if_block, br, br_if, br_table, return, call, call_indirect, plain, Trees, ε, ◌▹◌, ◌⊕◌}
use Rattle.wasm_lang_exec.specs.Store.{Store}
use Rattle.wasm_lang_exec.specs.Plain.{Effect, goes, traps, sticks}
use Rattle.wasm_lang_exec.specs.Reductions.{Callee, an_import, a_function, callee_at, params_of, top_of, below_top, of_type, Config, Code, Label, Frame, Reduct, to, is_values, branches, returns, stops, is_stuck, after_answer, enter, do_call, call_entry, after_effect, choose, leave, reduce_label, reduce_frame}
use Rattle.wasm_laws_sound.specs.Laws.{IsWhole}
use Rattle.wasm_laws_sound.specs.Configurations.{within}
use Rattle.wasm_laws_sound.specs.Trees.{IsTyped}
use Rattle.wasm_laws_sound.proofs.Functions.{functions_are_typed}
use Rattle.wasm_link_laws_sessions.specs.Each.{EachIn}
use Rattle.wasm_link_laws_sessions.proofs.Configurations.{each_joins}
use Rattle.wasm_link_laws_alone.proofs.TableStays.{Keeps}

module _ (m : WasmModule) where
  abbrev pub NamesType : Instruction → Type 0
  NamesType (flat.call_indirect t) = t < length m.types
  NamesType i = Unit {0}

  abbrev pub FineCode : Trees → Type 0
  FineCode code = EachIn NamesType code

  abbrev pub IsFine : Config → Type 0
  IsFine (Code values code) = FineCode code
  IsFine (Label values n more inside code) = FineCode more × IsFine inside × FineCode code
  IsFine (Frame values n inner inside code) = IsFine inside × FineCode code

  -- what comes of a configuration, over a table of this length
  abbrev pub IsFineReduct : ℕ → Reduct → Type 0
  IsFineReduct n (to c locals s) = IsFine c × (length s.table ≡ n)
  IsFineReduct n r = Unit {0}

  -- ---- code of a valid module

  named_type : {B : Type 0} → (o : Option FunctionType) (f : FunctionType → Shape) (g : Shape → Result B Rule) (y : B) → onward (found NoType o f) g ≡ Ok y → (t : FunctionType) × (o ≡ Some t)
  named_type None f g y e = absurd (cc e)
  named_type (Some t) f g y e = (t, refl)

  fine_typed : (c : Context) → c.types ≡ m.types → (code : Trees) (before after : List ValType) → IsTyped c code before after → FineCode code
  fine_typed c same ε before after h = tt
  fine_typed c same (block r body ▹ code) before after h = (tt, fine_typed (inside r c) same body [] (listed r) h.0, fine_typed c same code (listed r ++ before) after h.1)
  fine_typed c same (loop r body ▹ code) before after h = (tt, fine_typed (inside None c) same body [] (listed r) h.0, fine_typed c same code (listed r ++ before) after h.1)
  fine_typed c same (if_block r first second ▹ code) before after h =
      (tt, fine_typed (inside r c) same first [] (listed r) h.2, fine_typed (inside r c) same second [] (listed r) h.3, fine_typed c same code (listed r ++ h.0) after h.4)
  fine_typed c same (unreachable ▹ code) before after h = (tt, fine_typed c same code (h.gives ++ h.below) after h.goes_on)
  fine_typed c same (br l ▹ code) before after h = (tt, fine_typed c same code (h.gives ++ h.below) after h.goes_on)
  fine_typed c same (br_if l ▹ code) before after h = (tt, fine_typed c same code (h.gives ++ h.below) after h.goes_on)
  fine_typed c same (br_table ls d ▹ code) before after h = (tt, fine_typed c same code (h.gives ++ h.below) after h.goes_on)
  fine_typed c same (return ▹ code) before after h = (tt, fine_typed c same code (h.gives ++ h.below) after h.goes_on)
  fine_typed c same (call f ▹ code) before after h = (tt, fine_typed c same code (h.gives ++ h.below) after h.goes_on)
  fine_typed c same (plain p ▹ code) before after h = (tt, fine_typed c same code (h.gives ++ h.below) after h.goes_on)
  fine_typed c same (call_indirect t ▹ code) before after h =
      let it = named_type (slice_get c.types t) (call_shape (I32 ∷ [])) (unless c.table NoTable) h.form h.has_form in
      (slice_get_within m.types t it.0 (ap (λ ts. slice_get ts t) (sym same) ∙ it.1), fine_typed c same code (h.gives ++ h.below) after h.goes_on)

  -- the body of what is called
  abbrev FineCallee : Option Callee → Type 0
  FineCallee (Some (a_function t more body)) = FineCode body
  FineCallee c = Unit {0}

  fine_callee : IsWhole m → (f : ℕ) → FineCallee (callee_at m f)
  fine_callee whole f = by (callee_at m f) refl
    where
      by : (c : Option Callee) → callee_at m f ≡ c → FineCallee c
      by None e = tt
      by (Some (an_import name t)) e = tt
      by (Some (a_function t more body)) e =
          fine_typed (within m (t.params ++ more) (result_of t ∷ []) (result_of t)) refl body [] (listed (result_of t)) ((functions_are_typed m whole).are_typed f (a_function t more body) e).1

  -- ---- what becomes of a configuration

  module _ (locals : List Word) (s : Store) where
    abbrev n : ℕ
    n = length s.table

    pub fine_effect : (e : Effect) (code : Trees) → FineCode code → Keeps s.table e → IsFineReduct n (after_effect e code s)
    fine_effect (goes values ls s1) code h k = (h, ap length k)
    fine_effect (traps kind) code h k = tt
    fine_effect sticks code h k = tt

    pub fine_chosen : (c : ℕ) (first second : Trees) → FineCode first → FineCode second → FineCode (choose c first second)
    fine_chosen zero first second h k = k
    fine_chosen (suc c) first second h k = h

    pub fine_choice : (c l : ℕ) (values : List Word) (code : Trees) → FineCode code → IsFineReduct n (choose c (branches l values) (to (Code values code) locals s))
    fine_choice zero l values code h = (h, refl)
    fine_choice (suc c) l values code h = tt

    fine_answer : (a : ImportAnswer) (results : List ValType) (values : List Word) (code : Trees) → FineCode code → IsFineReduct n (after_answer a results values code locals s)
    fine_answer (ends e) results values code h = tt
    fine_answer (goes_on g) results values code h = (h, refl)

    fine_entered : (c : Option Callee) (o : Option (List Word)) (values : List Word) (code : Trees) → FineCallee c → FineCode code → IsFineReduct n (enter c o values code locals s)
    fine_entered None o values code h k = tt
    fine_entered (Some (an_import name t)) None values code h k = tt
    fine_entered (Some (an_import name t)) (Some arguments) values code h k = fine_answer (answer_import name (reverse arguments) s.replies) t.results values code k
    fine_entered (Some (a_function t more body)) None values code h k = tt
    fine_entered (Some (a_function t more body)) (Some arguments) values code h k = ((h, k), refl)

    pub fine_call : IsWhole m → (f : ℕ) (values : List Word) (code : Trees) → FineCode code → IsFineReduct n (do_call (callee_at m f) values code locals s)
    fine_call whole f values code h = fine_entered (callee_at m f) (top_of (params_of (callee_at m f)) values) (below_top (params_of (callee_at m f)) values) code (fine_callee whole f) h

    pub fine_entry : IsWhole m → (t : ℕ) (o : Option (Option ℕ)) (values : List Word) (code : Trees) → FineCode code → IsFineReduct n (call_entry m t o values code locals s)
    fine_entry whole t None values code h = tt
    fine_entry whole t (Some None) values code h = tt
    fine_entry whole t (Some (Some f)) values code h = by (of_type (slice_get m.types t) (callee_at m f))
      where
        by : (b : Bool) → IsFineReduct n (if b then do_call (callee_at m f) values code locals s else stops (trapped kinds.OtherType) s)
        by true = fine_call whole f values code h
        by false = tt

    fine_left : (o : Option (List Word)) (values : List Word) (code : Trees) → FineCode code → IsFineReduct n (leave m o values code locals s)
    fine_left None values code h = tt
    fine_left (Some vs) values code h = (h, refl)

    pub fine_label : (r : Reduct) (values : List Word) (arity : ℕ) (more code : Trees) → FineCode more → FineCode code → IsFineReduct n r → IsFineReduct n (reduce_label m r values arity more code locals s)
    fine_label (to c ls s1) values arity more code h k it = ((h, it.0, k), it.1)
    fine_label (is_values vs) values arity more code h k it = (k, refl)
    fine_label (branches zero vs) values arity more code h k it = fine_left (top_of arity vs) values (more ⊕ code) (each_joins NamesType more code h k)
    fine_label (branches (suc j) vs) values arity more code h k it = tt
    fine_label (returns vs) values arity more code h k it = tt
    fine_label (stops e s1) values arity more code h k it = tt
    fine_label is_stuck values arity more code h k it = tt

    pub fine_frame : (r : Reduct) (values : List Word) (arity : ℕ) (code : Trees) → FineCode code → IsFineReduct n r → IsFineReduct n (reduce_frame m r values arity code locals s)
    fine_frame (to c inner s1) values arity code k it = ((it.0, k), it.1)
    fine_frame (is_values vs) values arity code k it = (k, refl)
    fine_frame (branches zero vs) values arity code k it = fine_left (top_of arity vs) values code k
    fine_frame (branches (suc j) vs) values arity code k it = tt
    fine_frame (returns vs) values arity code k it = fine_left (top_of arity vs) values code k
    fine_frame (stops e s1) values arity code k it = tt
    fine_frame is_stuck values arity code k it = tt
