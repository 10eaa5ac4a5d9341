use Rattle.std.proofs.Common.{◌≡◌, sym, subst, ap, ◌∙◌}
use Rattle.std.specs.Prelude.{None}
use Rattle.wasm_lang_valid.specs.Validity.{IsValidModule}
use Rattle.wasm_link_lang.specs.Pairs.{Pair}
use Rattle.wasm_link_lang.specs.Refusal.{refusal}
use Rattle.wasm_link_code.specs.Linked.{linked}
use Rattle.wasm_link.proofs.linking.link_module.Goals as goal

pub linked_with-requires-clause-first : goal.linked_with-requires-clause-first
linked_with-requires-clause-first c = subst (λ (w : Pair). IsValidModule w.first) (sym c.in_ok-numbers.ensures.exactly.1) c.module-first.ensures.valid

pub linked_with-requires-clause-second : goal.linked_with-requires-clause-second
linked_with-requires-clause-second c = subst (λ (w : Pair). IsValidModule w.second) (sym c.in_ok-numbers.ensures.exactly.1) c.module-second.ensures.valid

pub linked_with-requires-clause-linked : goal.linked_with-requires-clause-linked
linked_with-requires-clause-linked c = subst (λ (w : Pair). refusal w ≡ None) (sym c.in_ok-numbers.ensures.exactly.1) c.in_ok-numbers.ensures.exactly.0

pub returns : goal.returns
returns c = record { exactly = (c.in_ok-numbers.ensures.exactly.0, c.in_ok-module.ensures ∙ ap linked c.in_ok-numbers.ensures.exactly.1) }
