-- What a session that was linked has.
use Rattle.std.specs.Prelude.{◌≡◌, ℕ, List, map, Option, None}
use Rattle.std.specs.Borrow.{Bor}
use Rattle.sem_words.specs.Lists.{list_items}
use Rattle.heap_lang.specs.Heap.{IsHeapLength}
use Rattle.session_lang.specs.Script.{ScriptPlain}
use Rattle.asm_tree.specs.declared.tree.Module.{Module as Tree}
use Rattle.asm_tree.specs.Views.{module_view}
use Rattle.asm_lang_valid.specs.Refusal.{IsAccepted}
use Rattle.asm_lang_exec.specs.Fits.{misfit}
use Rattle.asm_run_code.specs.Modules as code
use Rattle.asm_run_emit_bodies.specs.Flats.{flat_view}
use Rattle.asm_run_emit_bodies.specs.declared.modules.Codes.{Codes}
use Rattle.asm_run_steps.specs.Worlds.{world_of}
use Rattle.asm_run_steps.specs.declared.world.World.{World}
use Rattle.asm_run_steps.specs.Linked.{names_of}
use Rattle.asm_run_state.specs.Globals.{first_world}
use Rattle.asm_run_state.specs.Session.{callees_of}

-- a module, the length of its heap, and the script that it is run with
pub record SessionPlain : Type 0 where
  pub code : Tree
  pub size : ℕ
  pub script : ScriptPlain

-- an accepted module with its flat code and the names of its foreign members, a script that fits it with the functions that its calls
-- name, and where its session begins, before units are given
pub record IsLinked (m : Tree) (size : ℕ) (script : ScriptPlain) (codes : Codes) (members : List (Bor (List ℕ))) (callees : List (Option ℕ)) (world : World) : Type 0 where
  pub accepted : IsAccepted (module_view m)
  pub fits : misfit (module_view m) size script ≡ None
  pub long : IsHeapLength size
  pub functions : map flat_view (list_items codes.functions) ≡ (code.codes_of (module_view m)).functions
  pub tables : map (λ t. list_items t) (list_items codes.tables) ≡ (code.codes_of (module_view m)).tables
  pub members_are : names_of members ≡ (code.codes_of (module_view m)).members
  pub callees_are : callees ≡ callees_of (module_view m) script.calls
  pub begins : world_of world ≡ first_world (module_view m) size script 0
