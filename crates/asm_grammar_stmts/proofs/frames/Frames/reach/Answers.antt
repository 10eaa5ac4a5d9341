use Rattle.std.proofs.Common.{reverse}
use Rattle.asm_grammar_stmts.specs.Reach.{reach_view}
use Rattle.asm_grammar_stmts.proofs.Rising.{reach_is}
use Rattle.asm_grammar_stmts.proofs.frames.Frames.reach.Goals as goal

pub returns : goal.returns
returns c = reach_is (reverse c.args.self.now.entries.items) (reach_view c.args.self.now.reach) c.args.self.now.risen
