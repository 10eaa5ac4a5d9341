use Rattle.std.proofs.Common.{◌≡◌, ℕ, List, take}
use Rattle.asm_lang_valid.specs.Scope.{is_in}
use Rattle.asm_short_tree.specs.Looking.{names_in}
use Rattle.asm_short_modules.specs.Using.{has_name}
use Rattle.asm_short_modules.proofs.used.set_of.Given as goal

abbrev pub invariant-loop-name : goal.invariant-loop-name
invariant-loop-name l = (n : List ℕ) → has_name l.set n ≡ is_in n (names_in (take l.name-index l.names))
