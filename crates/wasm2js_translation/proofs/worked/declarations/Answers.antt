use Rattle.std.specs.Prelude.{refl}
use Rattle.std.specs.Fmt.{digits}
use Rattle.asm_lang_tokens.specs.Forms.{is_punctuator}
use Rattle.hex.specs.Hex.{encode_with}
use Rattle.wasm2js_translation.proofs.worked.declarations.Goals as goal

pub returns-clause-variables : goal.returns-clause-variables
unfolding is_punctuator digits
returns-clause-variables c = refl

pub returns-clause-views : goal.returns-clause-views
unfolding is_punctuator digits
returns-clause-views c = refl

pub returns-clause-segment : goal.returns-clause-segment
unfolding is_punctuator digits
returns-clause-segment c = refl

pub returns-clause-start : goal.returns-clause-start
unfolding is_punctuator digits
returns-clause-start c = refl

pub returns-clause-narrow_import : goal.returns-clause-narrow_import
unfolding is_punctuator digits
returns-clause-narrow_import c = refl

pub returns-clause-wide_import : goal.returns-clause-wide_import
unfolding is_punctuator digits
returns-clause-wide_import c = refl

pub returns-clause-exports : goal.returns-clause-exports
unfolding is_punctuator digits encode_with
returns-clause-exports c = refl
