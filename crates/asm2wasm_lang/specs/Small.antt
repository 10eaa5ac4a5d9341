-- A module of asm.js that is small, and has nothing that its translation would import, tabulate or branch by.
use Rattle.std.specs.Prelude.{◌≡◌, ◌≤◌, Bool, true, false, [], length, All}
use Rattle.asm_lang.specs.Trees.{Init, foreign_int, foreign_double, member}
use Rattle.asm_lang.specs.Heights.{module_height}
use Rattle.asm_lang.specs.Modules.{Stmt, block, if_only, if_else, while_loop, do_while, for_loop, labelled, switches, Stmts, no_stmts, stmts, Variable, Function, Module}
use Rattle.asm_lang_valid.specs.Scope.{is_foreign}
use Rattle.asm_lang_valid.specs.Rows.{function_count}

-- a declaration asks for a member of the foreign object: an int, a double or a function
abbrev pub is_foreign_member : Module → Init → Bool
is_foreign_member m (foreign_int f p) = true
is_foreign_member m (foreign_double f p) = true
is_foreign_member m (member f p) = is_foreign m f
is_foreign_member m _ = false

abbrev mutual
  pub HasNoSwitch : Stmt → Type 0
  HasNoSwitch (block ss) = HaveNoSwitch ss
  HasNoSwitch (if_only e s) = HasNoSwitch s
  HasNoSwitch (if_else e s r) = HasNoSwitch s × HasNoSwitch r
  HasNoSwitch (while_loop e s) = HasNoSwitch s
  HasNoSwitch (do_while s e) = HasNoSwitch s
  HasNoSwitch (for_loop x y z s) = HasNoSwitch s
  HasNoSwitch (labelled ns s) = HasNoSwitch s
  HasNoSwitch (switches e cs) = ⊥
  HasNoSwitch _ = Unit {0}

  pub HaveNoSwitch : Stmts → Type 0
  HaveNoSwitch no_stmts = Unit {0}
  HaveNoSwitch (stmts s ss) = HasNoSwitch s × HaveNoSwitch ss

-- the nodes of a function are itself, its parameters and locals, and those of its body
pub record IsSmall (m : Module) : Type 0 where
  pub no_table : m.tables ≡ []
  pub no_switch : All (λ (f : Function). HaveNoSwitch f.body) m.functions
  pub no_foreign_member : All (λ (v : Variable). is_foreign_member m v.init ≡ false) m.globals
  pub functions : length m.functions ≤ 10000
  pub globals : length m.globals ≤ 1000
  pub height : module_height m ≤ 50
  pub nodes : All (λ (f : Function). function_count f ≤ 1000) m.functions
