use Rattle.std.proofs.Common.{◌≡◌, sym, subst}
use Rattle.std.specs.Prelude.{None, MatchResult}
use Rattle.wasm_link_lang.specs.Pairs.{Pair}
use Rattle.wasm_link_lang.specs.Refusal.{refusal}
use Rattle.wasm_link_rows.specs.Faults.{IsLinkFault}
use Rattle.wasm_link_rows.proofs.Chained.{refused_by_memory}
use Rattle.wasm_link_rows.proofs.checking.check.Goals as goal

pub returns-in-Some : goal.returns-in-Some
returns-in-Some c = record { exactly = refused_by_memory (record { first = c.args.first.now; second = c.args.second.now }) c.in-Some.refused (sym c.in-Some.ensures) }

pub returns : goal.returns
returns c = record { exactly = subst (λ (w : Pair). MatchResult c.after_memory.result (λ n. (refusal w ≡ None) × (n ≡ w)) (IsLinkFault w)) c.in_ok-bindings.ensures c.after_memory.ensures }
