use Rattle.std.proofs.Common.{◌≡◌, ◌≤◌, ◌++◌, map, length}
use Rattle.asm_short_lang.specs.Sequence.{numbered}
use Rattle.asm_short_lang.specs.Renaming.{given_names}
use Rattle.asm_short_tree.specs.Looking.{new_names, names_in}
use Rattle.asm_short_modules.specs.NewDeclared.{lent, lent_or_nothing}
use Rattle.asm_short_modules.proofs.Handed.{handed_from}
use Rattle.asm_short_modules.proofs.modules.given.Given as goal

abbrev pub invariant-loop-old : goal.invariant-loop-old
invariant-loop-old l = record {
  within : l.next ≤ length l.numbers;
  handed : new_names (lent_or_nothing l.kept) l.news.items ++ handed_from l.kept l.olds l.numbers l.old-index l.next ≡ given_names (lent l.kept) (names_in l.olds) (map numbered l.numbers);
}
