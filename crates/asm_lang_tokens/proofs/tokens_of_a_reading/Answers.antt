use Rattle.std.proofs.Common.{refl}
use Rattle.asm_lang_tokens.proofs.Readings.{places_of, forms_of, joined_of}
use Rattle.asm_lang_tokens.proofs.tokens_of_a_reading.Goals as goal

pub returns-clause-places : goal.returns-clause-places
returns-clause-places c = λ source r h. places_of source h refl

pub returns-clause-forms : goal.returns-clause-forms
returns-clause-forms c = λ source r h. forms_of h

pub returns-clause-joined : goal.returns-clause-joined
returns-clause-joined c = λ source r h. joined_of h
