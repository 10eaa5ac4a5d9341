use Rattle.asm_grammar_nodes.specs.Rises.{rise_view}
use Rattle.asm_grammar_exprs.specs.Reach.{reach_view}
use Rattle.asm_grammar_exprs.proofs.Rising.{counted_rise}
use Rattle.asm_grammar_exprs.proofs.frames.Frames.rise.Goals as goal

pub returns : goal.returns
returns c = λ k r round h. counted_rise c.args.self.now.entries.items (reach_view c.args.self.now.reach) (rise_view c.within.result) (rise_view c.args.outer) r k c.args.self.now.risen c.within.ensures round h
