use Rattle.std.proofs.Common.{◌≡◌, ℕ, List, map, take}
use Rattle.asm_short_lang.specs.Sequence.{numbered}
use Rattle.asm_short_tree.specs.Looking.{new_names}
use Rattle.asm_short_modules.proofs.locals.numbered_names.Given as goal

abbrev pub invariant-loop-number : goal.invariant-loop-number
invariant-loop-number l = (kept : List ℕ) → new_names kept l.news.items ≡ map numbered (take l.number-index l.numbers)
