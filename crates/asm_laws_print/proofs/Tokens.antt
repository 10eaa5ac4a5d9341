-- The tokens of pieces, one after the other.
use Rattle.std.proofs.Common.{◌≡◌, ℕ, Bool, false, List, [], ◌∷◌, ◌++◌, ◌∙◌}
use Rattle.asm_lang_tokens.specs.Forms.{kind_of}
use Rattle.asm_lang.specs.Lexemes.{Class, Lexeme, class_of, Want, Meets, Is, here, At}
use Rattle.asm_lang.specs.Printing.{Piece, word, line_feed}
use Rattle.asm_laws_print.specs.Spelled.{Says, Spells, no_piece, a_word, a_line_feed}

-- the tokens of some pieces, and those of the pieces after them
pub record Parts (b : Bool) (ps qs : List Piece) (c : Bool) (xs zs : List Lexeme) : Type 0 where
  pub flag : Bool
  pub rest : List Lexeme
  pub front : Spells b ps flag xs rest
  pub back : Spells flag qs c rest zs

pub parts : {b c : Bool} {xs zs : List Lexeme} (ps qs : List Piece) → Spells b (ps ++ qs) c xs zs → Parts b ps qs c xs zs
parts {b = b} {xs = xs} [] qs s = record { flag = b; rest = xs; front = no_piece; back = s }
parts (word w ∷ ps) qs (a_word says s) = let r = parts ps qs s in record { flag = r.flag; rest = r.rest; front = a_word says r.front; back = r.back }
parts (line_feed ∷ ps) qs (a_line_feed s) = let r = parts ps qs s in record { flag = r.flag; rest = r.rest; front = a_line_feed r.front; back = r.back }

-- the token of a word, and those of the pieces after it
pub record First (w : List ℕ) (b : Bool) (ps : List Piece) (c : Bool) (xs zs : List Lexeme) : Type 0 where
  pub token : Lexeme
  pub rest : List Lexeme
  pub says : Says w b token
  pub is_a : (want : Want) → Meets want token → Is want token xs rest
  pub is_at : (cl : Class) → class_of (kind_of w) w ≡ cl → At cl token xs rest
  pub back : Spells false ps c rest zs

pub first : {b c : Bool} {w : List ℕ} {ps : List Piece} {xs zs : List Lexeme} → Spells b (word w ∷ ps) c xs zs → First w b ps c xs zs
first (a_word {t = t} {xs = xs} says s) = record { token = t; rest = xs; says = says; is_a = λ want m. here m; is_at = λ cl e. here (says.class ∙ e); back = s }

-- the token of a word that is the last piece
pub record Last (w : List ℕ) (b : Bool) (xs zs : List Lexeme) : Type 0 where
  pub token : Lexeme
  pub says : Says w b token
  pub is_a : (want : Want) → Meets want token → Is want token xs zs
  pub is_at : (cl : Class) → class_of (kind_of w) w ≡ cl → At cl token xs zs

pub last : {b c : Bool} {w : List ℕ} {xs zs : List Lexeme} → Spells b (word w ∷ []) c xs zs → Last w b xs zs
last (a_word {t = t} says no_piece) = record { token = t; says = says; is_a = λ want m. here m; is_at = λ cl e. here (says.class ∙ e) }
