use Rattle.bridge_cmd.proofs.report.put_invalid.Goals as goal

pub returns-clause-whole : goal.returns-clause-whole
returns-clause-whole g c =
    rw (← c.rule_number.ensures, ← c.section_number.ensures, ← c.format.ensures.text, ← c.format-2.ensures.text, ← c.format-3.ensures.text, ← c.format-4.ensures.text) c.put_pieces.ensures.whole

pub returns-clause-front : goal.returns-clause-front
returns-clause-front g c =
    rw (← c.rule_number.ensures, ← c.section_number.ensures, ← c.format.ensures.text, ← c.format-2.ensures.text, ← c.format-3.ensures.text, ← c.format-4.ensures.text) c.put_pieces.ensures.front
