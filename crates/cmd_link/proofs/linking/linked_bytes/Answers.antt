use Rattle.std.proofs.Common.{◌≡◌, sym, subst, ap, ◌∙◌}
use Rattle.std.specs.Prelude.{None}
use Rattle.wasm_lang_valid.specs.Validity.{IsValidModule}
use Rattle.wasm_link_lang.specs.Pairs.{Pair}
use Rattle.wasm_binary_write.specs.Spelling.{spelling}
use Rattle.wasm_link_lang.specs.Refusal.{refusal}
use Rattle.wasm_link_code.specs.Linked.{linked}
use Rattle.cmd_link.proofs.linking.linked_bytes.Goals as goal

pub written_with-requires-clause-first : goal.written_with-requires-clause-first
written_with-requires-clause-first c = subst (λ (w : Pair). IsValidModule w.first) (sym c.in_ok-numbers.ensures.exactly.1) c.module-first.ensures.valid

pub written_with-requires-clause-second : goal.written_with-requires-clause-second
written_with-requires-clause-second c = subst (λ (w : Pair). IsValidModule w.second) (sym c.in_ok-numbers.ensures.exactly.1) c.module-second.ensures.valid

pub written_with-requires-clause-linked : goal.written_with-requires-clause-linked
written_with-requires-clause-linked c = subst (λ (w : Pair). refusal w ≡ None) (sym c.in_ok-numbers.ensures.exactly.1) c.in_ok-numbers.ensures.exactly.0

pub returns : goal.returns
returns c = (c.in_ok-numbers.ensures.exactly.0, c.in_ok-output.ensures ∙ ap (λ w. spelling (linked w)) c.in_ok-numbers.ensures.exactly.1)
