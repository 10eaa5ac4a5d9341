-- What holds of the reductions of a pair and of the module that it is linked to.
use Rattle.std.specs.Prelude.{ℕ, List, length}
use Rattle.sem_words.specs.declared.word.Word.{Word}
use Rattle.wasm_lang_exec.specs.Store.{Store}
use Rattle.wasm_lang_exec.specs.Reductions.{Config, callee_at}
use Rattle.wasm_link_lang.specs.Pairs.{Pair, called}
use Rattle.wasm_link_lang.specs.Reductions.{reduce}
use Rattle.wasm_link_code.specs.Numbers.{number}
use Rattle.wasm_link_code.specs.Linked.{linked}
use Rattle.wasm_link_laws_modules.specs.Laws.{IsLinkable}
use Rattle.wasm_link_laws_sessions.specs.Alike.{IsFunction, KeepsGlobals, IsAlike, IsAlikeCallee}
use Rattle.wasm_link_laws_sessions.specs.Globals.{in_order, global_count}
use Rattle.wasm_link_laws_sessions.specs.Follows.{Holds, Follows}

-- each global of the pair is read and written at its new number
abbrev pub GlobalsAreKept : Type 0
GlobalsAreKept = (w : Pair) → KeepsGlobals w (global_count w) (in_order w)

-- What the number of a function calls in the linked module stands for what its address calls in the pair: an import for itself, and a function for
-- one whose code is moved, whose numbers are all in range, and which has at least one local more where its code has a guard.
abbrev pub CalleesAreAlike : Type 0
CalleesAreAlike = (w : Pair) → IsLinkable w → (a : ℕ) → IsFunction w a → IsAlikeCallee w (global_count w) (called w a) (callee_at (linked w) (number w a))

-- One reduction of the pair, whatever it comes to, is followed by the linked module from each configuration that stands for the pair's.
abbrev pub ReductionsAreFollowed : Type 0
ReductionsAreFollowed =
    (w : Pair) → IsLinkable w
    → (c : Config) (locals room : List Word) (s : Store) (c' : Config)
    → IsAlike w (global_count w) c (length locals) (length room) c' → Holds w (linked w) (global_count w) (in_order w) s
    → Follows w (linked w) (global_count w) (in_order w) (reduce w c locals s) c' locals room s
