-- One reduction of a pair from any configuration, and those of the linked module.
use Rattle.std.proofs.Common.{◌≡◌, ℕ, ◌+◌, ◌<◌, List, length, sym, subst}
use Rattle.sem_words.specs.declared.word.Word.{Word}
use Rattle.wasm_lang.specs.Instructions.{Instruction}
use Rattle.wasm_lang.specs.Modules.{WasmModule}
use Rattle.wasm_lang_exec.specs.Code.{unreachable, block, loop, if_block, br, br_if, br_table, return, call, call_indirect, plain, Trees, ε, ◌▹◌, ◌⊕◌}
use Rattle.wasm_lang_exec.specs.Store.{Store}
use Rattle.wasm_lang_exec.specs.Reductions.{callee_at, Config, Code, Label, Frame}
use Rattle.wasm_link_laws_sessions.specs.Each.{EachIn}
use Rattle.wasm_link_lang.specs.Pairs.{Pair, all_types, called}
use Rattle.wasm_link_lang.specs.Reductions.{entries, reduce}
use Rattle.wasm_link_code.specs.Numbers.{number}
use Rattle.wasm_link_code.specs.Code.{outside}
use Rattle.wasm_link_laws_sessions.specs.Alike.{IsFunction, KeepsGlobals, InRange, IsAlike, IsAlikeCallee}
use Rattle.wasm_link_laws_sessions.proofs.Steps.{Holds, Follows, inside_label}
use Rattle.wasm_link_laws_sessions.proofs.Frames.{inside_frame}
use Rattle.wasm_link_laws_sessions.proofs.Reducing.{reduces}
use Rattle.wasm_link_laws_sessions.proofs.Guards.{guarded}

-- what holds of each instruction of code and of more code holds of each of both
module _ (P : Instruction → Type 0) where
  pub each_joins : (a b : Trees) → EachIn P a → EachIn P b → EachIn P (a ⊕ b)
  each_joins ε b p q = q
  each_joins (block r body ▹ code) b p q = (p.0, p.1, each_joins code b p.2 q)
  each_joins (loop r body ▹ code) b p q = (p.0, p.1, each_joins code b p.2 q)
  each_joins (if_block r first second ▹ code) b p q = (p.0, p.1, p.2, each_joins code b p.3 q)
  each_joins (unreachable ▹ code) b p q = (p.0, each_joins code b p.1 q)
  each_joins (br l ▹ code) b p q = (p.0, each_joins code b p.1 q)
  each_joins (br_if l ▹ code) b p q = (p.0, each_joins code b p.1 q)
  each_joins (br_table ls d ▹ code) b p q = (p.0, each_joins code b p.1 q)
  each_joins (return ▹ code) b p q = (p.0, each_joins code b p.1 q)
  each_joins (call f ▹ code) b p q = (p.0, each_joins code b p.1 q)
  each_joins (call_indirect t ▹ code) b p q = (p.0, each_joins code b p.1 q)
  each_joins (plain x ▹ code) b p q = (p.0, each_joins code b p.1 q)

module _ (w : Pair) (m : WasmModule) (g : ℕ) (order : List Word → List Word) (keeps : KeepsGlobals w g order)
    (callees : (a : ℕ) → IsFunction w a → IsAlikeCallee w g (called w a) (callee_at m (number w a)))
    (types : m.types ≡ all_types w) (small : entries w.first + entries w.second < outside) where
  pub follows : (c : Config) (locals room : List Word) (s : Store) (c' : Config) → IsAlike w g c (length locals) (length room) c' → Holds w m g order s
      → Follows w m g order (reduce w c locals s) c' locals room s
  follows (Code values code) locals room s c' alike holds =
      subst (λ c'. Follows w m g order (reduce w (Code values code) locals s) c' locals room s) (sym alike.1)
      (reduces w m g order keeps callees locals room code values s alike.0 holds
      (λ t code values fine. guarded w m g order callees types small locals room t code values s fine holds))
  follows (Label values n more inside code) locals room s c' alike holds =
      subst (λ c'. Follows w m g order (reduce w (Label values n more inside code) locals s) c' locals room s) (sym alike.4)
      (inside_label w m g order locals room values n more code alike.0 alike.1 (each_joins (InRange w g (length locals) (length room)) more code alike.0 alike.1)
      (reduce w inside locals s) alike.2 s holds (follows inside locals room s alike.2 alike.3 holds))
  follows (Frame values n inner inside code) locals room s c' alike holds =
      subst (λ c'. Follows w m g order (reduce w (Frame values n inner inside code) locals s) c' locals room s) (sym alike.4)
      (inside_frame w m g order locals room inner alike.1 values n code alike.0 (reduce w inside inner s) alike.2 s holds
      (follows inside inner alike.1 s alike.2 alike.3 holds))
