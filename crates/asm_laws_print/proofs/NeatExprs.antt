-- The canonical pieces of an expression that can be printed are neat.
use Rattle.std.proofs.Common.{◌≡◌, ℕ, ◌+◌, ◌^◌, ◌<◌, Bool, true, false, ◌||◌, cond as choice, List, [], ◌∷◌, codes, refl, ap, arith}
use Rattle.std.specs.Prelude.{pos, negsuc, ◌==◌}
use Rattle.std.specs.List.{list_all}
use Rattle.std.specs.Fmt.{decimal as decimal_text}
use Rattle.std.proofs.lemmas.Bool.{and_parts, or_left, or_right, cond-true}
use Rattle.std.proofs.lemmas.Bool.Decides.{nat_tests}
use Rattle.sem_words.specs.declared.js_value.JsOp.{JsOp}
use Rattle.sem_words.specs.declared.js_value.JsOp.TheVariants.{Add, Sub, Mul, Div, Rem, Or, And, Xor, Shl, Sar, Shr, Lt, Le, Gt, Ge, Eq, Ne}
use Rattle.sem_words.specs.declared.js_value.JsUnary.{JsUnary}
use Rattle.sem_words.specs.declared.js_value.JsUnary.TheVariants.{Neg, BitNot, Not, Plus}
use Rattle.asm_lang_tokens.specs.Bytes.{is_name_byte}
use Rattle.asm_lang_tokens.specs.Forms.{is_name, is_number, is_decimal, is_quoted, is_punctuator, is_token, name, number, decimal as decimal_kind, quoted, punctuator, number_value}
use Rattle.asm_lang_tokens.specs.Text.{is_numeric}
use Rattle.asm_lang.specs.Grammar.{level_of}
use Rattle.asm_lang.specs.Lexemes.{identifier, a_decimal}
use Rattle.asm_lang.specs.Modules.{Expr, lit, decimal, var, index, call, table_call, assign, store, unary, binary, chain, cond, comma, Exprs, no_exprs, exprs, Links, no_links, links}
use Rattle.asm_lang.specs.Printing.{Piece, between, operator_text, prefix_text, expr_level, at_level, is_literal, after_prefix, minus_text, expr_text, exprs_text, links_text}
use Rattle.asm_laws_print.specs.Spelled.{FitsExpr, FitsExprs, FitsLinks, HasClass}
use Rattle.asm_laws_print.proofs.Numbers.{decimal_kind as decimal_number}
use Rattle.asm_laws_print.proofs.TokenKinds.{identifier_is_name, decimal_is_decimal}
use Rattle.asm_laws_print.proofs.Longer.{is_decimal_byte, name_bytes, number_bytes, decimal_bytes}
use Rattle.asm_laws_print.proofs.FrontTokens.{goes_on_comment}
use Rattle.asm_laws_print.proofs.Neat.{IsNoNumber, Calm, First, first_no_slash, Sign, Operand, Tail, empty_tail, tail_append, operand_append, sign_operand, word_tail, word_operand, one_word, in_parens, parens_tail, no_arguments, brackets_tail, levelled}

-- ---- words

name_no_comment : (b : ℕ) → is_name_byte b ≡ true → ((b == 47) || (b == 42)) ≡ false
name_no_comment b h = grind (arith, nat_tests)

decimal_no_comment : (b : ℕ) → is_decimal_byte b ≡ true → ((b == 47) || (b == 42)) ≡ false
decimal_no_comment b h = grind (arith, nat_tests)

bytes_first : (w : List ℕ) → list_all is_name_byte w ≡ true → goes_on_comment w ≡ false
bytes_first [] h = refl
bytes_first (b ∷ bs) h = name_no_comment b (and_parts (is_name_byte b) _ h).0

decimal_bytes_first : (w : List ℕ) → list_all is_decimal_byte w ≡ true → goes_on_comment w ≡ false
decimal_bytes_first [] h = refl
decimal_bytes_first (b ∷ bs) h = decimal_no_comment b (and_parts (is_decimal_byte b) _ h).0

pub name_token : (w : List ℕ) → is_name w ≡ true → is_token w ≡ true
name_token w h = or_left _ _ (or_left (is_name w) _ h)

pub name_first : (w : List ℕ) → is_name w ≡ true → First w
name_first w h = record { is = name_token w h; no_comment = bytes_first w (name_bytes w h) }

pub name_calm : (w : List ℕ) → is_name w ≡ true → Calm w
name_calm w h = record { number = ap is_numeric (cond-true (is_name w) name _ h); slash = first_no_slash (name_first w h) }

pub identifier_first : (w : List ℕ) → HasClass identifier w → First w
identifier_first w h = name_first w (identifier_is_name w h)

pub decimal_first : (w : List ℕ) → HasClass a_decimal w → First w
decimal_first w h =
    let is = decimal_is_decimal w h in
    record { is = or_left _ _ (or_right (is_name w) _ (or_right (is_number w) (is_decimal w) is)); no_comment = decimal_bytes_first w (decimal_bytes w is) }

number_is : (a b c d : Bool) (n m : ℕ) → choice a name (choice b (number n) (choice c decimal_kind (choice d quoted punctuator))) ≡ number m → b ≡ true
number_is true b c d n m h = absurd cc
number_is false true c d n m h = refl
number_is false false true d n m h = absurd cc
number_is false false false true n m h = absurd cc
number_is false false false false n m h = absurd cc

pub number_first : (n : ℕ) → n < 2 ^ 64 → First (decimal_text n)
number_first n small =
    let w : List ℕ = decimal_text n in
    let is = number_is (is_name w) (is_number w) (is_decimal w) (is_quoted w) (number_value w) n (decimal_number n small) in
    record { is = or_left _ _ (or_right (is_name w) _ (or_left (is_number w) (is_decimal w) is)); no_comment = bytes_first w (number_bytes w is) }

-- ---- operators

operator_sign : (op : JsOp) → Sign (operator_text op)
unfolding is_punctuator
operator_sign Add = record { is = refl; runs = refl; number = refl }
operator_sign Sub = record { is = refl; runs = refl; number = refl }
operator_sign Mul = record { is = refl; runs = refl; number = refl }
operator_sign Div = record { is = refl; runs = refl; number = refl }
operator_sign Rem = record { is = refl; runs = refl; number = refl }
operator_sign Or = record { is = refl; runs = refl; number = refl }
operator_sign And = record { is = refl; runs = refl; number = refl }
operator_sign Xor = record { is = refl; runs = refl; number = refl }
operator_sign Shl = record { is = refl; runs = refl; number = refl }
operator_sign Sar = record { is = refl; runs = refl; number = refl }
operator_sign Shr = record { is = refl; runs = refl; number = refl }
operator_sign Lt = record { is = refl; runs = refl; number = refl }
operator_sign Le = record { is = refl; runs = refl; number = refl }
operator_sign Gt = record { is = refl; runs = refl; number = refl }
operator_sign Ge = record { is = refl; runs = refl; number = refl }
operator_sign Eq = record { is = refl; runs = refl; number = refl }
operator_sign Ne = record { is = refl; runs = refl; number = refl }

prefix_first : (op : JsUnary) → First (prefix_text op)
unfolding is_punctuator
prefix_first Neg = record { is = refl; no_comment = refl }
prefix_first Plus = record { is = refl; no_comment = refl }
prefix_first BitNot = record { is = refl; no_comment = refl }
prefix_first Not = record { is = refl; no_comment = refl }

prefix_number : (op : JsUnary) → IsNoNumber (prefix_text op)
unfolding is_punctuator
prefix_number Neg = refl
prefix_number Plus = refl
prefix_number BitNot = refl
prefix_number Not = refl

minus_sign : (minus : Bool) → Sign (minus_text minus)
unfolding is_punctuator
minus_sign true = record { is = refl; runs = refl; number = refl }
minus_sign false = record { is = refl; runs = refl; number = refl }

equals_sign : Sign (codes "=")
unfolding is_punctuator
equals_sign = record { is = refl; runs = refl; number = refl }

comma_sign : Sign (codes ",")
unfolding is_punctuator
comma_sign = record { is = refl; runs = refl; number = refl }

question_sign : Sign (codes "?")
unfolding is_punctuator
question_sign = record { is = refl; runs = refl; number = refl }

colon_sign : Sign (codes ":")
unfolding is_punctuator
colon_sign = record { is = refl; runs = refl; number = refl }

-- ---- every expression

prefixed : (op : JsUnary) (e : Expr) {ps : List Piece} → Operand ps → Operand (after_prefix op e ps)
prefixed Neg e {ps = ps} o =
    let P : Bool → Type 0 = λ t. Operand (choice t (between (codes "(") ps (codes ")")) (at_level 13 (expr_level e) ps)) in
    let both : P (is_literal e) = elim (is_literal e) as P [ true ↦ in_parens o | false ↦ levelled 13 (expr_level e) o ] in
    both
prefixed Plus e o = levelled 13 (expr_level e) o
prefixed BitNot e o = levelled 13 (expr_level e) o
prefixed Not e o = levelled 13 (expr_level e) o

mutual
  pub expr_neat : (e : Expr) → FitsExpr e → Operand (expr_text e)
  expr_neat (lit (pos n)) fits = one_word (number_first n fits)
  expr_neat (lit (negsuc n)) fits = word_operand (prefix_first Neg) (prefix_number Neg) (one_word (number_first (n + 1) fits))
  expr_neat (decimal bs) fits = one_word (decimal_first bs fits)
  expr_neat (var n) fits = one_word (identifier_first n fits)
  expr_neat (index n i) fits = word_tail (identifier_first n fits.0) (brackets_tail (expr_neat i fits.1))
  expr_neat (call n es) fits = word_tail (identifier_first n fits.0) (call_neat es fits.1)
  expr_neat (table_call n i es) fits = word_tail (identifier_first n fits.0) (tail_append (brackets_tail (expr_neat i fits.1)) (call_neat es fits.2))
  expr_neat (assign n e) fits = word_tail (identifier_first n fits.0) (sign_operand equals_sign (levelled 1 (expr_level e) (expr_neat e fits.1)))
  expr_neat (store n i e) fits = word_tail (identifier_first n fits.0) (tail_append (brackets_tail (expr_neat i fits.1)) (sign_operand equals_sign (levelled 1 (expr_level e) (expr_neat e fits.2))))
  expr_neat (unary op e) fits = word_operand (prefix_first op) (prefix_number op) (prefixed op e (expr_neat e fits))
  expr_neat (binary op l r) fits = operand_append (levelled (level_of op) (expr_level l) (expr_neat l fits.1)) (sign_operand (operator_sign op) (levelled (1 + level_of op) (expr_level r) (expr_neat r fits.2)))
  expr_neat (chain e ls) fits = operand_append (levelled 11 (expr_level e) (expr_neat e fits.2)) (links_neat ls fits.3)
  expr_neat (cond c a b) fits =
      operand_append (levelled 3 (expr_level c) (expr_neat c fits.0))
      (sign_operand question_sign (operand_append (levelled 1 (expr_level a) (expr_neat a fits.1)) (sign_operand colon_sign (levelled 1 (expr_level b) (expr_neat b fits.2)))))
  expr_neat (comma no_exprs) fits = let some = fits.0 in absurd cc
  expr_neat (comma (exprs e es)) fits = operand_append (levelled 1 (expr_level e) (expr_neat e fits.1.0)) (rest_neat es fits.1.1)

  call_neat : (es : Exprs) → FitsExprs es → Tail (between (codes "(") (exprs_text false es) (codes ")"))
  call_neat no_exprs fits = no_arguments
  call_neat (exprs e es) fits = parens_tail (operand_append (levelled 1 (expr_level e) (expr_neat e fits.0)) (rest_neat es fits.1))

  rest_neat : (es : Exprs) → FitsExprs es → Tail (exprs_text true es)
  rest_neat no_exprs fits = empty_tail
  rest_neat (exprs e es) fits = sign_operand comma_sign (operand_append (levelled 1 (expr_level e) (expr_neat e fits.0)) (rest_neat es fits.1))

  links_neat : (ls : Links) → FitsLinks ls → Tail (links_text ls)
  links_neat no_links fits = empty_tail
  links_neat (links minus e ls) fits = sign_operand (minus_sign minus) (operand_append (levelled 12 (expr_level e) (expr_neat e fits.0)) (links_neat ls fits.1))
