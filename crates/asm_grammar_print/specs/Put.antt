-- Writing pieces one after the other, and a module in three parts: what stands before its functions, these, and what stands behind them.
use Rattle.std.specs.Prelude.{ℕ, List, [], ◌∷◌, ◌++◌, Option, codes, false}
use Rattle.asm_lang.specs.Modules.{Expr, Variable, Module}
use Rattle.asm_lang.specs.Printing.{Piece, word, line_feed, between, gap_between, option_text, binding_text, module_name_text, names_text, globals_text, tables_text, exports_text}
use Rattle.asm_grammar_print.specs.declared.output.Output.{Output}

-- the bytes so far, and the last token of them, or nothing after a line feed
pub record Written : Type 0 where
  pub bytes : List ℕ
  pub last : List ℕ

abbrev pub written : Output → Written
written out = record { bytes = out.bytes.items; last = out.last.items }

abbrev pub at_start : Written
at_start = record { bytes = []; last = [] }

unfoldable pub put_piece : Written → Piece → Written
put_piece w (word t) = record { bytes = w.bytes ++ (gap_between w.last t ++ t); last = t }
put_piece w line_feed = record { bytes = w.bytes ++ 10 ∷ []; last = [] }

abbrev pub put : Written → List Piece → Written
put w [] = w
put w (p ∷ ps) = put (put_piece w p) ps

-- ---- parts of trees

-- variables of a function after the first one, each after a comma
abbrev pub bindings_text : List Variable → List Piece
bindings_text [] = []
bindings_text (v ∷ vs) = word (codes ",") ∷ (binding_text v ++ bindings_text vs)

-- a `for` up to its `)`
abbrev pub for_heading : Option Expr → Option Expr → Option Expr → List Piece
for_heading a b c = word (codes "for") ∷ word (codes "(") ∷ (option_text a ++ word (codes ";") ∷ (option_text b ++ word (codes ";") ∷ (option_text c ++ word (codes ")") ∷ [])))

-- the rest of a module's first line, after the parameters
abbrev pub directive_text : List Piece
directive_text = word (codes "{") ∷ word (codes "\"use asm\"") ∷ word (codes ";") ∷ line_feed ∷ []

-- a module's first line
abbrev pub heading_text : Option (List ℕ) → List (List ℕ) → List Piece
heading_text name params = word (codes "function") ∷ (module_name_text name ++ (between (codes "(") (names_text false params) (codes ")") ++ directive_text))

-- what stands before a module's functions, and behind them
abbrev pub front_text : Module → List Piece
front_text m = heading_text m.name m.params ++ globals_text m.globals

abbrev pub back_text : Module → List Piece
back_text m = tables_text m.tables ++ (exports_text m.exports ++ word (codes "}") ∷ line_feed ∷ [])
