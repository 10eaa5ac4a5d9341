-- The tokens that pieces of text stand for, and the expressions that can be printed and read again.
use Rattle.std.specs.Prelude.{◌≡◌, ℕ, ◌+◌, ◌^◌, ◌<◌, Bool, true, false, List, [], ◌∷◌, pos, negsuc}
use Rattle.asm_lang_tokens.specs.Forms.{kind_of}
use Rattle.asm_lang.specs.Lexemes.{Class, identifier, a_decimal, Lexeme, class_of, value_of}
use Rattle.asm_lang.specs.Trees.{ExprTree}
use Rattle.asm_lang.specs.Grammar.{IsExpr}
use Rattle.asm_lang.specs.Modules.{Expr, lit, decimal, var, index, call, table_call, assign, store, unary, binary, chain, cond, comma, Exprs, no_exprs, exprs, Links, no_links, links, is_sum, expr_of}
use Rattle.asm_lang.specs.Printing.{Piece, word, line_feed}

-- a token of this text, with a line end before it or without
pub record Says (w : List ℕ) (after_line : Bool) (t : Lexeme) : Type 0 where
  pub text : t.text ≡ w
  pub class : t.class ≡ class_of (kind_of w) w
  pub value : t.value ≡ value_of (kind_of w)
  pub line : t.line ≡ after_line

-- The first list of tokens begins with those of the pieces, and then come those of the second list. The first flag says
-- whether a line feed stands before the pieces, and the other one whether they end with a line feed.
pub data Spells : Bool → List Piece → Bool → List Lexeme → List Lexeme → Type 0 where
  no_piece : {b : Bool} {xs : List Lexeme} → Spells b [] b xs xs
  a_word : {b c : Bool} {w : List ℕ} {ps : List Piece} {t : Lexeme} {xs ys : List Lexeme} → Says w b t → Spells false ps c xs ys → Spells b (word w ∷ ps) c (t ∷ xs) ys
  a_line_feed : {b c : Bool} {ps : List Piece} {xs ys : List Lexeme} → Spells true ps c xs ys → Spells b (line_feed ∷ ps) c xs ys

-- ---- what can be printed and read again

abbrev pub HasClass : Class → List ℕ → Type 0
HasClass c w = class_of (kind_of w) w ≡ c

abbrev pub is_chain : Expr → Bool
is_chain (chain e ls) = true
is_chain _ = false

abbrev pub some_links : Links → Bool
some_links no_links = false
some_links (links minus e ls) = true

abbrev pub two_exprs : Exprs → Bool
two_exprs no_exprs = false
two_exprs (exprs e no_exprs) = false
two_exprs (exprs e (exprs f es)) = true

-- Names are identifiers, literals are below 2^64 without their sign, sums are chains of one further operand or more whose first
-- operand is no chain, and lists have two expressions or more.
abbrev mutual
  pub FitsExpr : Expr → Type 0
  FitsExpr (lit (pos n)) = n < 2 ^ 64
  FitsExpr (lit (negsuc n)) = n + 1 < 2 ^ 64
  FitsExpr (decimal bs) = HasClass a_decimal bs
  FitsExpr (var n) = HasClass identifier n
  FitsExpr (index n i) = HasClass identifier n × FitsExpr i
  FitsExpr (call n es) = HasClass identifier n × FitsExprs es
  FitsExpr (table_call n i es) = HasClass identifier n × FitsExpr i × FitsExprs es
  FitsExpr (assign n e) = HasClass identifier n × FitsExpr e
  FitsExpr (store n i e) = HasClass identifier n × FitsExpr i × FitsExpr e
  FitsExpr (unary op e) = FitsExpr e
  FitsExpr (binary op l r) = (is_sum op ≡ false) × FitsExpr l × FitsExpr r
  FitsExpr (chain e ls) = (is_chain e ≡ false) × (some_links ls ≡ true) × FitsExpr e × FitsLinks ls
  FitsExpr (cond c a b) = FitsExpr c × FitsExpr a × FitsExpr b
  FitsExpr (comma es) = (two_exprs es ≡ true) × FitsExprs es

  pub FitsExprs : Exprs → Type 0
  FitsExprs no_exprs = Unit {0}
  FitsExprs (exprs e es) = FitsExpr e × FitsExprs es

  pub FitsLinks : Links → Type 0
  FitsLinks no_links = Unit {0}
  FitsLinks (links minus e ls) = FitsExpr e × FitsLinks ls

-- the tokens between the two lists are a spelling of the expression
pub record IsRead (p : ℕ) (e : Expr) (xs ys : List Lexeme) : Type 0 where
  pub tree : ExprTree
  pub is_expr : IsExpr p tree xs ys
  pub is_this : expr_of tree ≡ e
