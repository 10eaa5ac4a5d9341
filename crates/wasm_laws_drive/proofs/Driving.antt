-- The reductions of a configuration: through a label, through a frame, and what one instruction does.
use Rattle.std.proofs.Common.{◌≡◌, ℕ, zero, suc, List, Option, Some, None, refl}
use Rattle.sem_words.specs.declared.word.Word.{Word}
use Rattle.wasm_lang.specs.Modules.{WasmModule}
use Rattle.wasm_lang_exec.specs.Code.{Trees, ◌⊕◌}
use Rattle.wasm_lang_exec.specs.Store.{Store}
use Rattle.wasm_lang_exec.specs.Reductions.{top_of, Config, Label, Frame, Reduct, to, is_values, branches, returns, stops, is_stuck, leave, reduce_label, reduce_frame, reduce}
use Rattle.wasm_laws_drive.specs.Drive.{Spent, at, halted, driven, drive, onward}
use Rattle.wasm_laws_drive.specs.Equations.{take_values, over, after, at_label, back, at_frame}
use Rattle.wasm_laws_drive.specs.Laws.{ThroughLabel, ThroughFrame}

module _ (m : WasmModule) where
  -- ---- labels

  module _ (values : List Word) (n : ℕ) (continuation code : Trees) where
    leave_none : (o : Option (List Word)) (after : Trees) (locals : List Word) (s : Store) → halted (leave m o values after locals s) locals s ≡ Spent s
    leave_none None after locals s = refl
    leave_none (Some top) after locals s = refl

    leave_label : (k : ℕ) (o : Option (List Word)) (after : Trees) (inner locals : List Word) (s : Store)
        → driven (drive m k) k (leave m o values after locals s) locals s ≡ take_values o (at inner locals s k) (λ top. onward m after (over values top (at inner locals s k)))
    leave_label k None after inner locals s = refl
    leave_label k (Some top) after inner locals s = refl

    label_none : (r : Reduct) (locals : List Word) (s : Store) → halted (reduce_label m r values n continuation code locals s) locals s ≡ at_label m values n continuation code (halted r locals s)
    label_none (to c l s') locals s = refl
    label_none (is_values top) locals s = refl
    label_none (branches zero top) locals s = leave_none (top_of n top) (continuation ⊕ code) locals s
    label_none (branches (suc k) top) locals s = refl
    label_none (returns top) locals s = refl
    label_none (stops e s') locals s = refl
    label_none is_stuck locals s = refl

    label_some : (k : ℕ) (r : Reduct) (locals : List Word) (s : Store)
        → ((c : Config) (l : List Word) (s : Store) → drive m k (Label values n continuation c code) l s ≡ at_label m values n continuation code (drive m k c l s))
        → driven (drive m k) k (reduce_label m r values n continuation code locals s) locals s ≡ at_label m values n continuation code (driven (drive m k) k r locals s)
    label_some k (to c l s') locals s before = before c l s'
    label_some k (is_values top) locals s before = refl
    label_some k (branches zero top) locals s before = leave_label k (top_of n top) (continuation ⊕ code) top locals s
    label_some k (branches (suc j) top) locals s before = refl
    label_some k (returns top) locals s before = refl
    label_some k (stops e s') locals s before = refl
    label_some k is_stuck locals s before = refl

    pub drive_label : (k : ℕ) (c : Config) (locals : List Word) (s : Store) → drive m k (Label values n continuation c code) locals s ≡ at_label m values n continuation code (drive m k c locals s)
    drive_label zero c locals s = label_none (reduce m c locals s) locals s
    drive_label (suc k) c locals s = label_some k (reduce m c locals s) locals s (drive_label k)

  -- ---- frames

  module _ (values : List Word) (n : ℕ) (code : Trees) (locals : List Word) where
    return_none : (o : Option (List Word)) (s : Store) → halted (leave m o values code locals s) locals s ≡ Spent s
    return_none None s = refl
    return_none (Some top) s = refl

    leave_frame : (k : ℕ) (o : Option (List Word)) (top inner : List Word) (s : Store)
        → driven (drive m k) k (leave m o values code locals s) locals s ≡ take_values o (at top inner s k) (λ top'. back m values code locals top' (at top inner s k))
    leave_frame k None top inner s = refl
    leave_frame k (Some top') top inner s = refl

    frame_none : (r : Reduct) (inner : List Word) (s : Store) → halted (reduce_frame m r values n code locals s) locals s ≡ at_frame m values n code locals (halted r inner s)
    frame_none (to c l s') inner s = refl
    frame_none (is_values top) inner s = refl
    frame_none (branches zero top) inner s = return_none (top_of n top) s
    frame_none (branches (suc k) top) inner s = refl
    frame_none (returns top) inner s = return_none (top_of n top) s
    frame_none (stops e s') inner s = refl
    frame_none is_stuck inner s = refl

    frame_some : (k : ℕ) (r : Reduct) (inner : List Word) (s : Store)
        → ((c : Config) (l : List Word) (s : Store) → drive m k (Frame values n l c code) locals s ≡ at_frame m values n code locals (drive m k c l s))
        → driven (drive m k) k (reduce_frame m r values n code locals s) locals s ≡ at_frame m values n code locals (driven (drive m k) k r inner s)
    frame_some k (to c l s') inner s before = before c l s'
    frame_some k (is_values top) inner s before = refl
    frame_some k (branches zero top) inner s before = leave_frame k (top_of n top) top inner s
    frame_some k (branches (suc j) top) inner s before = refl
    frame_some k (returns top) inner s before = leave_frame k (top_of n top) top inner s
    frame_some k (stops e s') inner s before = refl
    frame_some k is_stuck inner s before = refl

    pub drive_frame : (k : ℕ) (c : Config) (inner : List Word) (s : Store) → drive m k (Frame values n inner c code) locals s ≡ at_frame m values n code locals (drive m k c inner s)
    drive_frame zero c inner s = frame_none (reduce m c inner s) inner s
    drive_frame (suc k) c inner s = frame_some k (reduce m c inner s) inner s (drive_frame k)

pub through_label : ThroughLabel
through_label m n values arity continuation inside code locals s = drive_label m values arity continuation code n inside locals s

pub through_frame : ThroughFrame
through_frame m n values arity inner inside code locals s = drive_frame m values arity code locals n inside inner s
