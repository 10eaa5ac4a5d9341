use Rattle.std.specs.Prelude.{refl}
use Rattle.std.specs.Fmt.{digits}
use Rattle.asm_lang_tokens.specs.Forms.{is_punctuator}
use Rattle.wasm2js_translation.proofs.worked.turns_by_a_constant.Goals as goal

pub returns-clause-left : goal.returns-clause-left
unfolding is_punctuator digits
returns-clause-left c = refl

pub returns-clause-far_left : goal.returns-clause-far_left
unfolding is_punctuator digits
returns-clause-far_left c = refl

pub returns-clause-signed : goal.returns-clause-signed
unfolding is_punctuator digits
returns-clause-signed c = refl

pub returns-clause-far_signed : goal.returns-clause-far_signed
unfolding is_punctuator digits
returns-clause-far_signed c = refl

pub returns-clause-far_right : goal.returns-clause-far_right
unfolding is_punctuator digits
returns-clause-far_right c = refl

pub returns-clause-round_left : goal.returns-clause-round_left
unfolding is_punctuator digits
returns-clause-round_left c = refl

pub returns-clause-round_right : goal.returns-clause-round_right
unfolding is_punctuator digits
returns-clause-round_right c = refl

pub returns-clause-by_none : goal.returns-clause-by_none
unfolding is_punctuator digits
returns-clause-by_none c = refl
