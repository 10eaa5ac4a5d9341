-- A text and its short form.
use Rattle.std.specs.Prelude.{ℕ, List}
use Rattle.asm_lang.specs.Modules.{Module}
use Rattle.asm_lang_valid.specs.Texts.{IsAcceptedText}
use Rattle.bridge_lang.specs.Shortening.{IsShortened}

-- the text is accepted, and the output is the short form of its module
pub record IsShortenedText (text output : List ℕ) : Type 0 where
  pub «module» : Module
  pub accepted : IsAcceptedText text «module»
  pub shortened : IsShortened «module» output
