-- Tokens and faults of the code as those of the lexical grammar.
use Rattle.std.specs.Prelude.{◌≡◌, ℕ, List, map, Result, Ok, Err}
use Rattle.std.specs.Global.{Vec}
use Rattle.js_tokens.specs.declared.token.TokenKind.{TokenKind}
use Rattle.js_tokens.specs.declared.token.TokenKind.TheVariants as kinds
use Rattle.js_tokens.specs.declared.token.Token.{Token}
use Rattle.js_tokens.specs.declared.fault.TokenFault.{TokenFault}
use Rattle.js_tokens.specs.declared.fault.TokenFault.TheVariants as faults
use Rattle.asm_lang_tokens.specs.Forms.{Kind, name, number, decimal, quoted, punctuator}
use Rattle.asm_lang_tokens.specs.Text.{non_ascii, bad_token, open_comment, literal_form, PlacedToken, Reading, HasFault}

abbrev pub kind_view : TokenKind → Kind
kind_view kinds.Name = name
kind_view (kinds.Number n) = number n
kind_view kinds.Decimal = decimal
kind_view kinds.Quoted = quoted
kind_view kinds.Punct = punctuator

-- a token without where its text lies in memory
abbrev pub placed_token : Token → PlacedToken
placed_token t = record { kind = kind_view t.kind; text = t.text.now; at = t.at; line_before = t.line_before }

abbrev pub placed_tokens : List Token → List PlacedToken
placed_tokens ts = map placed_token ts

-- the text's fault, or want of memory
abbrev pub IsFault : List ℕ → TokenFault → Type 0
IsFault source (faults.NonAscii at) = HasFault source non_ascii at
IsFault source (faults.BadToken at) = HasFault source bad_token at
IsFault source (faults.OpenComment at) = HasFault source open_comment at
IsFault source (faults.LiteralForm at) = HasFault source literal_form at
IsFault source faults.Memory = Unit {0}

-- what was returned is this, unless memory ran out
abbrev pub Tells : Reading → Result (Vec Token) TokenFault → Type 0
Tells r (Ok v) = r ≡ Ok (placed_tokens v.items)
Tells r (Err (faults.NonAscii at)) = r ≡ Err (record { fault = non_ascii; at = at })
Tells r (Err (faults.BadToken at)) = r ≡ Err (record { fault = bad_token; at = at })
Tells r (Err (faults.OpenComment at)) = r ≡ Err (record { fault = open_comment; at = at })
Tells r (Err (faults.LiteralForm at)) = r ≡ Err (record { fault = literal_form; at = at })
Tells r (Err faults.Memory) = Unit {0}
