-- Writing pieces one after the other. Only private contracts name these.
use Rattle.std.specs.Prelude.{ℕ, Bool, true, false, List, [], ◌∷◌, ◌++◌, codes, ◌==◌, if◌then◌else◌}
use Rattle.wasm_lang.specs.declared.types.MemOp.{MemOp}
use Rattle.wasm_lang.specs.Modules.{FunctionBody}
use Rattle.wat_lang.specs.Tokens.{opens, closes, string, atom}
use Rattle.wat_lang.specs.Words.{is_whole, narrow_bits, sign_suffix}
use Rattle.wat_lang.specs.Printing.{Piece, token, line_end, string_text, space_if, number, numbers, group, types_group}
use Rattle.wat_print.specs.declared.output.Output.{Output}

-- the bytes so far, and whether the next token stands a space apart
pub record Written : Type 0 where
  pub bytes : List ℕ
  pub apart : Bool

abbrev pub written : Output → Written
written out = record { bytes = out.bytes.items; apart = out.apart }

abbrev pub at_start : Written
at_start = record { bytes = []; apart = false }

unfoldable pub put_piece : Written → Piece → Written
put_piece w (token opens) = record { bytes = (w.bytes ++ space_if w.apart) ++ 40 ∷ []; apart = false }
put_piece w (token closes) = record { bytes = w.bytes ++ 41 ∷ []; apart = true }
put_piece w (token (string value)) = record { bytes = (w.bytes ++ space_if w.apart) ++ string_text value; apart = true }
put_piece w (token (atom bytes)) = record { bytes = (w.bytes ++ space_if w.apart) ++ bytes; apart = true }
put_piece w line_end = record { bytes = w.bytes ++ 10 ∷ []; apart = false }

abbrev pub put : Written → List Piece → Written
put w [] = w
put w (p ∷ ps) = put (put_piece w p) ps

-- ---- parts of names, behind their types

abbrev pub load_part : MemOp → List ℕ
load_part op = codes "load" ++ (if is_whole op then [] else narrow_bits op.size ++ sign_suffix op.signed)

abbrev pub store_part : MemOp → List ℕ
store_part op = codes "store" ++ (if is_whole op then [] else narrow_bits op.size)

abbrev pub extension_part : ℕ → List ℕ
extension_part bits = codes "extend" ++ ((if bits == 8 then codes "8" else (if bits == 16 then codes "16" else codes "32")) ++ codes "_s")

-- ---- parts of fields

abbrev pub label_pieces : List ℕ → ℕ → List Piece
label_pieces labels default = numbers labels ++ number default ∷ []

abbrev pub numbered : List ℕ → ℕ → List Piece
numbered keyword n = group keyword (number n ∷ [])

abbrev pub local_pieces : FunctionBody → List Piece
local_pieces body = types_group (codes "local") body.locals
