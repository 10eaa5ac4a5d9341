-- Signatures of the code as those of the definitions.
use Rattle.std.specs.Prelude.{Option, Some, None}
use Rattle.asm_lang_valid.specs.Scope.{Signature}
use Rattle.asm_validate_exprs.specs.declared.signatures.Signature.{Signature as CodeSignature}

abbrev pub signature_view : CodeSignature → Signature
signature_view s = record { params = s.params; result = s.result }

abbrev pub signature_option : Option CodeSignature → Option Signature
signature_option None = None
signature_option (Some s) = Some (signature_view s)
