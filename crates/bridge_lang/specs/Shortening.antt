-- What `shorten` writes.
use Rattle.std.specs.Prelude.{◌≡◌, ℕ, List}
use Rattle.asm_lang.specs.Modules.{Module}
use Rattle.asm_lang.specs.Printing.{canonical_text}
use Rattle.asm_lang_valid.specs.Texts.{IsAcceptedText}
use Rattle.asm_short_lang.specs.Short.{IsShort, IsSameOutside}

-- the canonical text of the module's short form, which is accepted, is the same to its callers, and is its own short form
pub record IsShortened (m : Module) (output : List ℕ) : Type 0 where
  pub short : Module
  pub is_short : IsShort m short
  pub printed : output ≡ canonical_text short
  pub accepted : IsAcceptedText output short
  pub outside : IsSameOutside m short
  pub again : (t : Module) → IsShort short t → t ≡ short
