use Rattle.std.proofs.Common.{◌≡◌, drop}
use Rattle.std.specs.List.{fold}
use Rattle.asm_tree.specs.Views.{texts_view}
use Rattle.key_hashes.specs.Hashes.{with_key}
use Rattle.asm_validate_nodes.proofs.labels.add_names.Given as goal

abbrev pub invariant-loop-name : goal.invariant-loop-name
invariant-loop-name l = fold with_key l.fn.seed (texts_view l.names) ≡ fold with_key l.seed (texts_view (drop l.name-index l.names))
