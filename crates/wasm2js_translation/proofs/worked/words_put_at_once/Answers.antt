use Rattle.std.specs.Prelude.{refl}
use Rattle.std.specs.Fmt.{digits}
use Rattle.asm_lang_tokens.specs.Forms.{is_punctuator}
use Rattle.wasm2js_translation.proofs.worked.words_put_at_once.Goals as goal

pub returns-clause-set : goal.returns-clause-set
unfolding is_punctuator digits
returns-clause-set c = refl

pub returns-clause-kept_too : goal.returns-clause-kept_too
unfolding is_punctuator digits
returns-clause-kept_too c = refl

pub returns-clause-after_the_old_word : goal.returns-clause-after_the_old_word
unfolding is_punctuator digits
returns-clause-after_the_old_word c = refl

pub returns-clause-not_next : goal.returns-clause-not_next
unfolding is_punctuator digits
returns-clause-not_next c = refl

pub returns-clause-dropped : goal.returns-clause-dropped
unfolding is_punctuator digits
returns-clause-dropped c = refl
