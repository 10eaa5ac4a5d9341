use Rattle.bridge_cmd.proofs.report.put_row.Goals as goal

pub returns-clause-whole : goal.returns-clause-whole
returns-clause-whole g c = rw (← c.format-number.ensures.text) c.put_pieces.ensures.whole

pub returns-clause-front : goal.returns-clause-front
returns-clause-front g c = rw (← c.format-number.ensures.text) c.put_pieces.ensures.front
