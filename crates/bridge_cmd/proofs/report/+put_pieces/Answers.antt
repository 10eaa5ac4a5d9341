use Rattle.bridge_lang.specs.Sinks.{seen}
use Rattle.bridge_cmd.proofs.Gaining.{on_err}
use Rattle.bridge_cmd.proofs.Pieces.{cut_in_the_rest}
use Rattle.bridge_cmd.proofs.report.+put_pieces.Goals as goal

pub returns-in_err-put_pieces-in-len1-up-clause-front : goal.returns-in_err-put_pieces-in-len1-up-clause-front
returns-in_err-put_pieces-in-len1-up-clause-front g t c =
    on_err c.from_residual-in_err-put_pieces-in-len1-up.result
    (cut_in_the_rest c.args.pieces.now _ c.as_bytes.result.now _
    (seen (g.E.Sink.told c.put_all.new.sink) (g.E.Sink.faults c.put_all.new.sink)) _
    c.in-len1-up.len_at_least c.as_bytes.ensures.value
    c.in_ok-put_all-in-len1-up.ensures.all c.in_ok-put_all-in-len1-up.ensures.faults
    c.in_err-put_pieces-in-len1-up.ensures.front)
