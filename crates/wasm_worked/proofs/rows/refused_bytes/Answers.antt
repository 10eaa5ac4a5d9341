use Rattle.wasm_worked.proofs.Modules.{cut_is_refused, short_is_invalid}
use Rattle.wasm_worked.proofs.rows.refused_bytes.Goals as goal

pub returns-clause-cut : goal.returns-clause-cut
returns-clause-cut c = cut_is_refused

pub returns-clause-short : goal.returns-clause-short
returns-clause-short c = short_is_invalid
