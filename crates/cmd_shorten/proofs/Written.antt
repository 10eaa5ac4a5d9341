-- What is written of a short form.
use Rattle.std.proofs.Common.{◌≡◌, ℕ, List, sym, subst}
use Rattle.asm_lang.specs.Heights.{IsWellFormed}
use Rattle.asm_lang.specs.Modules.{Module}
use Rattle.asm_lang.specs.Printing.{canonical_text}
use Rattle.asm_lang.specs.Texts.{SaysModule}
use Rattle.asm_lang_valid.specs.Refusal.{IsAccepted}
use Rattle.asm_lang_valid.specs.Texts.{IsAcceptedText}
use Rattle.asm_short_lang.specs.Short.{IsShort, IsSameOutside}
use Rattle.bridge_lang.specs.Shortening.{IsShortened}

abbrev pub SaysAgain : Type 0
SaysAgain = (m : Module) → IsWellFormed m → (places : List ℕ) × SaysModule (canonical_text m) m places

pub written : SaysAgain → (m s : Module) (output : List ℕ) → IsShort m s → IsAccepted s → IsWellFormed s → IsSameOutside m s → ((t : Module) → IsShort s t → t ≡ s) → output ≡ canonical_text s → IsShortened m output
written says_again m s output is_short accepted well_formed outside again printed =
    let says = says_again s well_formed in
    let text : IsAcceptedText (canonical_text s) s = record { places = says.0; says = says.1; accepted = accepted } in
    record {
      short = s;
      is_short = is_short;
      printed = printed;
      accepted = subst (λ bytes. IsAcceptedText bytes s) (sym printed) text;
      outside = outside;
      again = again;
    }
