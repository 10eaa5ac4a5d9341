-- The signature that the code tells.
use Rattle.asm_lang_valid.specs.Scope as scopes
use Rattle.asm_validate.specs.declared.checked.Signature.{Signature}

abbrev pub signature_said : Signature → scopes.Signature
signature_said s = record { params = s.params; result = s.result }
