-- The canonical pieces of a statement that can be printed are neat.
use Rattle.std.proofs.Common.{◌≡◌, ℕ, true, List, [], ◌∷◌, ◌++◌, codes, Option, Some, None, refl, arith}
use Rattle.std.specs.Prelude.{ℤ, pos, negsuc}
use Rattle.asm_lang_tokens.specs.Forms.{is_token, is_punctuator}
use Rattle.asm_lang.specs.Modules as m
use Rattle.asm_lang.specs.Modules.{Expr, Stmt, Stmts, Clauses}
use Rattle.asm_lang.specs.Printing.{Piece, word, between, option_text, a_semicolon, condition_text, target_text, labels_text, literal_text, stmt_text, stmts_text, clauses_text}
use Rattle.asm_laws_print.specs.Spelled.{HasClass, FitsExpr}
use Rattle.asm_laws_print.specs.Fitting.{FitsOption, FitsName, AreNames, FitsNumber, FitsStmt, FitsStmts, FitsClauses}
use Rattle.asm_laws_print.proofs.TokenKinds.{identifier_is_name}
use Rattle.asm_laws_print.proofs.Neat.{IsNoSlash, Calm, Sign, Operand, Line, empty_line, line_append, word_line, operand_line}
use Rattle.asm_laws_print.proofs.NeatExprs.{name_token, name_calm, expr_neat}
use Rattle.asm_lang.specs.Lexemes.{identifier}

-- ---- signs and words

-- a sign that ends what stands before it
pub record Ender (w : List ℕ) : Type 0 where
  pub sign : Sign w
  pub slash : IsNoSlash w

pub a_word_line : {w : List ℕ} {ps : List Piece} → Ender w → Line ps → Line (word w ∷ ps)
a_word_line e l = word_line e.sign.is (record { number = e.sign.number; slash = e.slash }) l

pub ended_line : {ps : List Piece} {w : List ℕ} {qs : List Piece} → Operand ps → Ender w → Line qs → Line (ps ++ word w ∷ qs)
ended_line o e l = operand_line o e.sign e.slash l

pub semicolon_end : Ender (codes ";")
unfolding is_punctuator
semicolon_end = record { sign = record { is = refl; runs = refl; number = refl }; slash = refl }

pub colon_end : Ender (codes ":")
unfolding is_punctuator
colon_end = record { sign = record { is = refl; runs = refl; number = refl }; slash = refl }

pub open_paren_end : Ender (codes "(")
unfolding is_punctuator
open_paren_end = record { sign = record { is = refl; runs = refl; number = refl }; slash = refl }

pub close_paren_end : Ender (codes ")")
unfolding is_punctuator
close_paren_end = record { sign = record { is = refl; runs = refl; number = refl }; slash = refl }

pub open_brace_end : Ender (codes "{")
unfolding is_punctuator
open_brace_end = record { sign = record { is = refl; runs = refl; number = refl }; slash = refl }

pub close_brace_end : Ender (codes "}")
unfolding is_punctuator
close_brace_end = record { sign = record { is = refl; runs = refl; number = refl }; slash = refl }

pub end_line : Line a_semicolon
end_line = a_word_line semicolon_end empty_line

-- a word that is a keyword
pub record Keyword (w : List ℕ) : Type 0 where
  pub is : is_token w ≡ true
  pub calm : Calm w

pub keyword_line : {w : List ℕ} {ps : List Piece} → Keyword w → Line ps → Line (word w ∷ ps)
keyword_line k l = word_line k.is k.calm l

if_key : Keyword (codes "if")
if_key = record { is = refl; calm = record { number = refl; slash = refl } }

else_key : Keyword (codes "else")
else_key = record { is = refl; calm = record { number = refl; slash = refl } }

pub return_key : Keyword (codes "return")
return_key = record { is = refl; calm = record { number = refl; slash = refl } }

while_key : Keyword (codes "while")
while_key = record { is = refl; calm = record { number = refl; slash = refl } }

do_key : Keyword (codes "do")
do_key = record { is = refl; calm = record { number = refl; slash = refl } }

for_key : Keyword (codes "for")
for_key = record { is = refl; calm = record { number = refl; slash = refl } }

break_key : Keyword (codes "break")
break_key = record { is = refl; calm = record { number = refl; slash = refl } }

continue_key : Keyword (codes "continue")
continue_key = record { is = refl; calm = record { number = refl; slash = refl } }

switch_key : Keyword (codes "switch")
switch_key = record { is = refl; calm = record { number = refl; slash = refl } }

case_key : Keyword (codes "case")
case_key = record { is = refl; calm = record { number = refl; slash = refl } }

default_key : Keyword (codes "default")
default_key = record { is = refl; calm = record { number = refl; slash = refl } }

pub name_line : {w : List ℕ} {ps : List Piece} → HasClass identifier w → Line ps → Line (word w ∷ ps)
name_line {w = w} h l = let is = identifier_is_name w h in word_line (name_token w is) (name_calm w is) l

-- ---- parts of statements

pub number_fits : (v : ℤ) → FitsNumber v → FitsExpr (m.lit v)
number_fits (pos n) h = omega (arith, h)
number_fits (negsuc n) h = omega (arith, h)

-- the pieces of a number are those of a literal
pub number_neat : (v : ℤ) → FitsNumber v → Operand (literal_text v)
number_neat v h = expr_neat (m.lit v) (number_fits v h)

condition_neat : {w : List ℕ} → Keyword w → (e : Expr) → FitsExpr e → Line (condition_text w e)
condition_neat k e fits = keyword_line k (a_word_line open_paren_end (ended_line (expr_neat e fits) close_paren_end empty_line))

option_neat : (o : Option Expr) → FitsOption o → {w : List ℕ} {qs : List Piece} → Ender w → Line qs → Line (option_text o ++ word w ∷ qs)
option_neat None fits e l = a_word_line e l
option_neat (Some x) fits e l = ended_line (expr_neat x fits) e l

target_neat : {w : List ℕ} → Keyword w → (l : Option (List ℕ)) → FitsName l → Line (target_text w l)
target_neat k None fits = keyword_line k end_line
target_neat k (Some n) fits = keyword_line k (name_line fits end_line)

labels_neat : (ls : List (List ℕ)) → AreNames ls → Line (labels_text ls)
labels_neat [] fits = empty_line
labels_neat (l ∷ ls) fits = name_line fits.0 (a_word_line colon_end (labels_neat ls fits.1))

pub in_braces : {ps : List Piece} → Line ps → Line (between (codes "{") ps (codes "}"))
in_braces l = a_word_line open_brace_end (line_append l (a_word_line close_brace_end empty_line))

-- ---- every statement

mutual
  pub stmt_neat : (s : Stmt) → FitsStmt s → Line (stmt_text s)
  stmt_neat (m.block ss) fits = in_braces (stmts_neat ss fits)
  stmt_neat (m.plain e) fits = ended_line (expr_neat e fits) semicolon_end empty_line
  stmt_neat m.empty fits = end_line
  stmt_neat (m.if_only c s) fits = line_append (condition_neat if_key c fits.0) (stmt_neat s fits.1)
  stmt_neat (m.if_else c s r) fits = line_append (condition_neat if_key c fits.0) (line_append (stmt_neat s fits.2) (keyword_line else_key (stmt_neat r fits.3)))
  stmt_neat (m.returns o) fits = keyword_line return_key (option_neat o fits semicolon_end empty_line)
  stmt_neat (m.while_loop c s) fits = line_append (condition_neat while_key c fits.0) (stmt_neat s fits.1)
  stmt_neat (m.do_while s c) fits = keyword_line do_key (line_append (stmt_neat s fits.0) (line_append (condition_neat while_key c fits.1) end_line))
  stmt_neat (m.for_loop a b c s) fits =
      keyword_line for_key (a_word_line open_paren_end (option_neat a fits.0 semicolon_end (option_neat b fits.1 semicolon_end (option_neat c fits.2 close_paren_end (stmt_neat s fits.3)))))
  stmt_neat (m.breaks l) fits = target_neat break_key l fits
  stmt_neat (m.continues l) fits = target_neat continue_key l fits
  stmt_neat (m.labelled ls s) fits = line_append (labels_neat ls fits.1) (stmt_neat s fits.3)
  stmt_neat (m.switches e cs) fits = line_append (condition_neat switch_key e fits.0) (in_braces (clauses_neat cs fits.1))

  pub stmts_neat : (ss : Stmts) → FitsStmts ss → Line (stmts_text ss)
  stmts_neat m.no_stmts fits = empty_line
  stmts_neat (m.stmts s ss) fits = line_append (stmt_neat s fits.0) (stmts_neat ss fits.1)

  clauses_neat : (cs : Clauses) → FitsClauses cs → Line (clauses_text cs)
  clauses_neat m.no_clauses fits = empty_line
  clauses_neat (m.clauses None ss m.no_clauses) fits = keyword_line default_key (a_word_line colon_end (line_append (stmts_neat ss fits.0) empty_line))
  clauses_neat (m.clauses None ss (m.clauses v rs cs)) fits = let none = fits.1 in absurd cc
  clauses_neat (m.clauses (Some v) ss cs) fits = line_append (keyword_line case_key (ended_line (number_neat v fits.0) colon_end empty_line)) (line_append (stmts_neat ss fits.1) (clauses_neat cs fits.2))
