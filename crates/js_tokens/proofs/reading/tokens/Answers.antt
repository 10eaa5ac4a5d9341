use Rattle.std.proofs.Common.{refl}
use Rattle.std.specs.List.{AllByRecursion}
use Rattle.asm_lang_tokens.specs.Text.{IsAt, HasForm, IsJoined}
use Rattle.asm_lang_tokens.proofs.Readings.{places_of, forms_of, joined_of}
use Rattle.js_tokens.proofs.GoingOn.{of_found, tells}
use Rattle.js_tokens.proofs.reading.tokens.Goals as goal

pub returns-clause-only : goal.returns-clause-only
returns-clause-only c = λ r h. tells c.args.source.now c.all_tokens.result r c.all_tokens.ensures.found c.all_tokens.ensures.fault h

pub returns-clause-places : goal.returns-clause-places
returns-clause-places c = of_found c.args.source.now (AllByRecursion (IsAt c.args.source.now)) c.all_tokens.result (λ r h. places_of c.args.source.now h refl) c.all_tokens.ensures.found

pub returns-clause-forms : goal.returns-clause-forms
returns-clause-forms c = of_found c.args.source.now (AllByRecursion HasForm) c.all_tokens.result (λ r h. forms_of h) c.all_tokens.ensures.found

pub returns-clause-joined : goal.returns-clause-joined
returns-clause-joined c = of_found c.args.source.now (IsJoined c.args.source.now) c.all_tokens.result (λ r h. joined_of h) c.all_tokens.ensures.found
