-- What the first token of an expression or a statement is not.
use Rattle.std.proofs.Common.{◌≡◌, ℕ, Bool, true, false, not, ltb, cond as choice, List, [], ◌∷◌, ◌++◌, codes, refl, ap, ◌∙◌}
use Rattle.std.specs.Prelude.{pos, negsuc}
use Rattle.asm_lang.specs.Lexemes.{Class, else_word, Lexeme, here, At}
use Rattle.asm_lang.specs.Trees.{StmtTree, StmtTrees}
use Rattle.asm_lang.specs.Machine.{begins_expr}
use Rattle.asm_lang.specs.Grammar.{level_of, is_else, no_else, is_same_line, IsStmt, a_block, a_plain, an_empty, an_if_only, an_if_else, a_return, a_while, a_do, a_for, a_break, a_continue, a_labelled, a_switch, IsStmts, no_stmts, more_stmts}
use Rattle.asm_lang.specs.Modules.{Expr, lit, decimal, var, index, call, table_call, assign, store, unary, binary, chain, cond, comma, no_exprs, exprs}
use Rattle.asm_lang.specs.Printing.{Piece, word, line_feed, between, at_level, expr_level, expr_text, links_text}
use Rattle.asm_lang.proofs.Tokens.{BeginsExpr, expr_first}
use Rattle.asm_laws_print.specs.Spelled.{Spells, a_word, FitsExpr}

-- ---- no `else`

pub lead : {c : Class} {t : Lexeme} {xs ys : List Lexeme} → At c t xs ys → is_else c ≡ false → no_else xs ≡ true
lead (here h) e = ap (λ (c : Class). not (is_else c)) h ∙ ap not e

begins_no_else : (c : Class) → begins_expr c ≡ true → is_else c ≡ false
begins_no_else else_word h = absurd cc
begins_no_else _ h = refl

expr_lead : (xs : List Lexeme) → BeginsExpr xs → no_else xs ≡ true
expr_lead [] h = absurd h
expr_lead (t ∷ ts) h = ap not (begins_no_else t.class h)

pub stmt_lead : {s : StmtTree} {xs ys : List Lexeme} → IsStmt s xs ys → no_else xs ≡ true
stmt_lead (a_block i ss j) = lead i refl
stmt_lead (a_plain {xs = xs} x e) = expr_lead xs (expr_first x)
stmt_lead (an_empty i) = lead i refl
stmt_lead (an_if_only i j x k s n) = lead i refl
stmt_lead (an_if_else i j x k s l r) = lead i refl
stmt_lead (a_return i o) = lead i refl
stmt_lead (a_while i j x k s) = lead i refl
stmt_lead (a_do i s j k x l e) = lead i refl
stmt_lead (a_for i j a k b l c m s) = lead i refl
stmt_lead (a_break i l) = lead i refl
stmt_lead (a_continue i l) = lead i refl
stmt_lead (a_labelled i j s) = lead i refl
stmt_lead (a_switch i j x k l cs m) = lead i refl

pub stmts_lead : {ss : StmtTrees} {xs ys : List Lexeme} → IsStmts ss xs ys → no_else ys ≡ true → no_else xs ≡ true
stmts_lead no_stmts h = h
stmts_lead (more_stmts s ss) h = stmt_lead s

-- ---- on the same line

abbrev pub starts_word : List Piece → Bool
starts_word [] = false
starts_word (word w ∷ ps) = true
starts_word (line_feed ∷ ps) = false

pub same_line : {c : Bool} (ps : List Piece) {xs ys : List Lexeme} → starts_word ps ≡ true → Spells false ps c xs ys → is_same_line xs ≡ true
same_line (word w ∷ ps) h (a_word says s) = ap not says.line
same_line [] h s = absurd cc
same_line (line_feed ∷ ps) h s = absurd cc

pub append_starts : (ps qs : List Piece) → starts_word ps ≡ true → starts_word (ps ++ qs) ≡ true
append_starts [] qs h = absurd cc
append_starts (word w ∷ ps) qs h = refl
append_starts (line_feed ∷ ps) qs h = absurd cc

level_starts : (p level : ℕ) (ps : List Piece) → starts_word ps ≡ true → starts_word (at_level p level ps) ≡ true
level_starts p level ps h =
    let P : Bool → Type 0 = λ t. starts_word (choice t (between (codes "(") ps (codes ")")) ps) ≡ true in
    let both : P (ltb level p) = elim (ltb level p) as P [ true ↦ refl | false ↦ h ] in
    both

pub expr_starts : (e : Expr) → FitsExpr e → starts_word (expr_text e) ≡ true
expr_starts (lit (pos n)) fits = refl
expr_starts (lit (negsuc n)) fits = refl
expr_starts (decimal bs) fits = refl
expr_starts (var n) fits = refl
expr_starts (index n i) fits = refl
expr_starts (call n es) fits = refl
expr_starts (table_call n i es) fits = refl
expr_starts (assign n e) fits = refl
expr_starts (store n i e) fits = refl
expr_starts (unary op e) fits = refl
expr_starts (binary op l r) fits = append_starts (at_level (level_of op) (expr_level l) (expr_text l)) _ (level_starts (level_of op) (expr_level l) (expr_text l) (expr_starts l fits.1))
expr_starts (chain e ls) fits = append_starts (at_level 11 (expr_level e) (expr_text e)) (links_text ls) (level_starts 11 (expr_level e) (expr_text e) (expr_starts e fits.2))
expr_starts (cond c a b) fits = append_starts (at_level 3 (expr_level c) (expr_text c)) _ (level_starts 3 (expr_level c) (expr_text c) (expr_starts c fits.0))
expr_starts (comma no_exprs) fits = let some = fits.0 in absurd cc
expr_starts (comma (exprs e es)) fits = append_starts (at_level 1 (expr_level e) (expr_text e)) _ (level_starts 1 (expr_level e) (expr_text e) (expr_starts e fits.1.0))
