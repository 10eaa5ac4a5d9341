use Rattle.sem_words.specs.Lists.{list_items}
use Rattle.wat_read_rows.proofs.Types.{are_none}
use Rattle.wat_read_rows.proofs.heads.are_none.Goals as goal

pub returns : goal.returns
returns c = are_none c.is_empty.result (list_items c.args.types.now) c.is_empty.ensures
