use Rattle.asm_grammar_exprs.specs.Frames.{frames_list}
use Rattle.asm_grammar_exprs.proofs.Steps.{ok_map, item_around}
use Rattle.asm_grammar_exprs.proofs.item.itemed.Goals as goal

pub returns : goal.returns
returns c = ok_map c.push.result (λ r is k es same. item_around c.args.level c.args.so_far c.args.listing (frames_list c.args.frames) (frames_list r) k es is same) c.push.ensures
