use Rattle.std.proofs.Common.{codes}
use Rattle.std.specs.Prelude.{decimal}
use Rattle.cmd_gen.proofs.Lines.{five_parts}
use Rattle.cmd_gen.proofs.text.push_back.Goals as goal

pub returns : goal.returns
returns c =
    five_parts c.args.text.now.items c.extend_from_slice.new.self.items c.push_number.new.text.items c.extend_from_slice-2.new.self.items c.push_number-2.new.text.items c.extend_from_slice-3.new.self.items
    (codes "(x)|0)+") (decimal c.args.number) (codes "|0;H[") (decimal c.args.number) (codes "]=x;return x|0;}\n") c.in_ok-extend_from_slice.ensures.items c.in_ok-push_number.ensures
    c.in_ok-extend_from_slice-2.ensures.items c.in_ok-push_number-2.ensures c.in_ok-extend_from_slice-3.ensures.items
