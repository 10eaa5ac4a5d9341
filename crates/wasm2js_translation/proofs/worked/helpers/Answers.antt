use Rattle.std.specs.Prelude.{refl}
use Rattle.std.specs.Fmt.{digits}
use Rattle.asm_lang_tokens.specs.Forms.{is_punctuator}
use Rattle.wasm2js_translation.proofs.worked.helpers.Goals as goal

pub returns-clause-shift : goal.returns-clause-shift
unfolding is_punctuator digits
returns-clause-shift c = refl

pub returns-clause-rotation : goal.returns-clause-rotation
unfolding is_punctuator digits
returns-clause-rotation c = refl

pub returns-clause-zeros : goal.returns-clause-zeros
unfolding is_punctuator digits
returns-clause-zeros c = refl

pub returns-clause-bits : goal.returns-clause-bits
unfolding is_punctuator digits
returns-clause-bits c = refl

pub returns-clause-quotient : goal.returns-clause-quotient
unfolding is_punctuator digits
returns-clause-quotient c = refl

pub returns-clause-load : goal.returns-clause-load
unfolding is_punctuator digits
returns-clause-load c = refl

pub returns-clause-copy : goal.returns-clause-copy
unfolding is_punctuator digits
returns-clause-copy c = refl

pub returns-clause-fill : goal.returns-clause-fill
unfolding is_punctuator digits
returns-clause-fill c = refl
