-- The signatures that the code tells.
use Rattle.std.specs.Prelude.{List, map}
use Rattle.indexmap.specs.IndexSet.{IndexSet}
use Rattle.asm_lang_valid.specs.Scope as scopes
use Rattle.asm_validate_limits.specs.declared.calls.ForeignCall.{ForeignCall as CodeCall}
use Rattle.asm2wasm_numbers.specs.declared.signatures.Signature.{Signature}

abbrev pub signature_said : Signature → scopes.Signature
signature_said s = record { params = s.params; result = s.result }

abbrev pub asked : CodeCall → scopes.Signature
asked f = record { params = f.params; result = f.result }

-- in the order in which they came
abbrev pub said : {S : Type 0} → IndexSet Signature S → List scopes.Signature
said s = map signature_said s.keys
