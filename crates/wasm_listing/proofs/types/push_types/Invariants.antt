use Rattle.std.proofs.Common.{◌≡◌, ◌++◌, take}
use Rattle.bridge_lang.specs.Listing.{others_text}
use Rattle.wasm_listing.proofs.types.push_types.Given as goal

abbrev pub invariant-loop-kind : goal.invariant-loop-kind
invariant-loop-kind l = l.out.items ≡ l.initial.out.items ++ others_text (take l.kind-index l.others)
