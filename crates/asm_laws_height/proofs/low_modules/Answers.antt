use Rattle.std.proofs.Common.{arith}
use Rattle.asm_lang.specs.Machine.{at_start}
use Rattle.asm_laws_height.proofs.Within.{start_kept}
use Rattle.asm_laws_height.proofs.Limits.{low_read, low_found, peak_within}
use Rattle.asm_laws_height.proofs.low_modules.Goals as goal

pub returns-clause-low_read : goal.returns-clause-low_read
returns-clause-low_read c = λ limit xs m e le. low_read limit xs at_start m start_kept e le

pub returns-clause-low_found : goal.returns-clause-low_found
returns-clause-low_found c = λ limit xs m e. let r = low_found limit xs at_start m (omega arith) e in r.0

pub returns-clause-low_within : goal.returns-clause-low_within
returns-clause-low_within c = λ limit xs m e. let r = low_found limit xs at_start m (omega arith) e in r.1

pub returns-clause-peak_within : goal.returns-clause-peak_within
returns-clause-peak_within c = peak_within
