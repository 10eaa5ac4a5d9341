use Rattle.bridge_cmd.proofs.Translated.{same_lengths}
use Rattle.bridge_cmd.proofs.making.written.Goals as goal

pub translate_module-requires : goal.translate_module-requires
translate_module-requires c = record { length = same_lengths c.args.heap.bytes c.args.heap.allowed }
