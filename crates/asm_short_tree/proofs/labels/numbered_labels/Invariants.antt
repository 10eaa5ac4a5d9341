use Rattle.std.proofs.Common.{◌≡◌, map, take, drop}
use Rattle.asm_tree.specs.Views.{texts_view}
use Rattle.asm_short_lang.specs.Sequence.{numbered}
use Rattle.asm_short_tree.specs.Bodies.{old_labels, new_labels}
use Rattle.asm_short_tree.proofs.labels.numbered_labels.Given as goal

abbrev pub invariant-loop-i : goal.invariant-loop-i
invariant-loop-i l = record {
  olds : old_labels l.labels.items ≡ texts_view (take l.i l.names);
  news : new_labels l.labels.items ≡ take l.i (drop l.before (map numbered l.fresh));
}
