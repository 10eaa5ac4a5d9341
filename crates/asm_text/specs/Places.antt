-- Faults of tokens as faults of their text. Only private contracts name these.
use Rattle.std.specs.Prelude.{◌≡◌, ◌⊎◌, List, Ok}
use Rattle.asm_lang_tokens.specs.Text.{PlacedToken}
use Rattle.js_tokens.specs.declared.fault.TokenFault.{TokenFault}
use Rattle.js_tokens.specs.declared.fault.TokenFault.TheVariants as token_faults
use Rattle.js_tokens.specs.declared.scanner.Scanner.{Scanner}
use Rattle.js_tokens.specs.Left.{IsLeft, IsFirstFault}
use Rattle.asm_grammar.specs.declared.fault.ParseFault.{ParseFault}
use Rattle.asm_grammar.specs.declared.fault.ParseFault.TheVariants as parse_faults
use Rattle.asm_text.specs.declared.fault.TextFault.{TextFault}
use Rattle.asm_text.specs.declared.fault.TextFault.TheVariants as faults

abbrev pub of_reading : TokenFault → TextFault
of_reading (token_faults.NonAscii at) = faults.NonAscii at
of_reading (token_faults.BadToken at) = faults.BadToken at
of_reading (token_faults.OpenComment at) = faults.OpenComment at
of_reading (token_faults.LiteralForm at) = faults.LiteralForm at
of_reading token_faults.Memory = faults.Memory

abbrev pub of_parsing : ParseFault → TextFault
of_parsing (parse_faults.LiteralForm at) = faults.LiteralForm at
of_parsing (parse_faults.Grammar at) = faults.Grammar at
of_parsing (parse_faults.NoUseAsm at) = faults.NoUseAsm at
of_parsing (parse_faults.Height at) = faults.Height at
of_parsing parse_faults.Memory = faults.Memory

-- the parser's fault, where what is left of the text is tokens, or else the first fault of what is left
abbrev pub IsStopped : Scanner → ParseFault → TextFault → Type 0
IsStopped rest e f = ((ts : List PlacedToken) × IsLeft rest (Ok ts) × (f ≡ of_parsing e)) ⊎ ((d : TokenFault) × IsFirstFault rest d × (f ≡ of_reading d))
