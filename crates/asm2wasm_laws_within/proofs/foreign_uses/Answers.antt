use Rattle.std.proofs.Common.{◌≡◌, true}
use Rattle.asm_lang_valid.specs.LimitRows.{is_among}
use Rattle.asm2wasm_laws_within.proofs.Marks.{uses_split, same_calls_are_equal}
use Rattle.asm2wasm_laws_within.proofs.Within.{uses_are_listed}
use Rattle.asm2wasm_laws_within.proofs.foreign_uses.Goals as goal

pub returns-clause-listed : goal.returns-clause-listed
returns-clause-listed c = uses_are_listed

pub returns-clause-parts : goal.returns-clause-parts
returns-clause-parts c = λ fs ms ns h. uses_split (λ f. is_among f fs ≡ true) ms ns h

pub returns-clause-equal : goal.returns-clause-equal
returns-clause-equal c = same_calls_are_equal
