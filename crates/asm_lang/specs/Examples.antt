-- Worked examples that the check computes.
use Rattle.std.specs.Prelude.{◌≡◌, ℕ, true, false, List, [], ◌∷◌, Some, None, Ok, pos, negsuc, codes, refl}
use Rattle.std.specs.Fmt.{digits}
use Rattle.sem_words.specs.declared.js_value.JsOp.TheVariants.{Add, Sub, Mul}
use Rattle.sem_words.specs.declared.js_value.JsUnary.TheVariants.{Neg}
use Rattle.asm_lang_tokens.specs.Forms.{Kind, name, number, quoted, punctuator, is_punctuator}
use Rattle.asm_lang_tokens.specs.Text.{PlacedToken}
use Rattle.asm_lang.specs.Lexemes.{class_of, identifier, in_word, directive, other, Lexeme, lexemes_of}
use Rattle.asm_lang.specs.Trees as trees
use Rattle.asm_lang.specs.Machine.{run, at_start, failed, grammar, no_use_asm}
use Rattle.asm_lang.specs.Modules.{init_of, lit, var, unary, binary, chain, links, no_links, block, empty, if_only, no_stmts, stmts, one, expr_of, expr_places, Module}
use Rattle.asm_lang.specs.Heights.{expr_height, stmt_heights, module_height}
use Rattle.asm_lang.specs.Printing.{expr_text, joined, canonical_text}

-- ---- classes of tokens

pub instanceof_is_no_name : class_of name (codes "instanceof") ≡ in_word
instanceof_is_no_name = refl

pub static_is_a_name : class_of name (codes "static") ≡ identifier
static_is_a_name = refl

pub directive_in_single_quotes : class_of quoted (codes "'use asm'") ≡ directive
directive_in_single_quotes = refl

pub increment_is_no_operator : class_of punctuator (codes "++") ≡ other
increment_is_no_operator = refl

-- ---- whole modules

abbrev token : Kind → List ℕ → ℕ → PlacedToken
token k s at = record { kind = k; text = s; at = at; line_before = false }

abbrev on_new_line : Kind → List ℕ → ℕ → PlacedToken
on_new_line k s at = record { kind = k; text = s; at = at; line_before = true }

-- `function(){"use asm";`, and then
abbrev begun : List PlacedToken → List Lexeme
begun ts = lexemes_of (token name (codes "function") 0 ∷ token punctuator (codes "(") 8 ∷ token punctuator (codes ")") 9 ∷ token punctuator (codes "{") 10
    ∷ token quoted (codes "\"use asm\"") 11 ∷ token punctuator (codes ";") 20 ∷ ts)

abbrev exports_f : trees.ExportsTree
exports_f = trees.one 28 (codes "f")

-- without its last `;`
pub smallest_module : run at_start (begun (token name (codes "return") 21 ∷ token name (codes "f") 28 ∷ token punctuator (codes "}") 29 ∷ []))
    ≡ Ok (record { heading = record { name = None; params = [] }; globals = []; functions = []; tables = []; exports = exports_f })
smallest_module = refl

-- `return`, a line end, `f}`: what is returned must stand on the same line
pub export_on_the_next_line_is_refused : run at_start (begun (token name (codes "return") 21 ∷ on_new_line name (codes "f") 28 ∷ token punctuator (codes "}") 29 ∷ []))
    ≡ failed grammar (lexemes_of (on_new_line name (codes "f") 28 ∷ token punctuator (codes "}") 29 ∷ []))
export_on_the_next_line_is_refused = refl

pub directive_is_wanted : run at_start (lexemes_of (token name (codes "function") 0 ∷ token punctuator (codes "(") 8 ∷ token punctuator (codes ")") 9 ∷ token punctuator (codes "{") 10 ∷ token punctuator (codes "}") 11 ∷ []))
    ≡ failed no_use_asm (lexemes_of (token punctuator (codes "}") 11 ∷ []))
directive_is_wanted = refl

-- `var a=-0;`
pub negative_zero_is_refused : run at_start (begun (token name (codes "var") 21 ∷ token name (codes "a") 25 ∷ token punctuator (codes "=") 26 ∷ token punctuator (codes "-") 27 ∷ token (number 0) (codes "0") 28 ∷ token punctuator (codes ";") 29 ∷ []))
    ≡ failed grammar (lexemes_of (token (number 0) (codes "0") 28 ∷ token punctuator (codes ";") 29 ∷ []))
negative_zero_is_refused = refl

-- ---- trees and places

abbrev a_sum : trees.ExprTree
a_sum = trees.binary 3 (trees.binary 1 (trees.variable 0 (codes "a")) Add (trees.variable 2 (codes "b"))) Sub (trees.variable 4 (codes "c"))

-- `a+b-c`
pub sum_is_one_chain : expr_of a_sum ≡ chain (var (codes "a")) (links false (var (codes "b")) (links true (var (codes "c")) no_links))
sum_is_one_chain = refl

pub chain_stands_at_its_first_operator : expr_places a_sum ≡ 1 ∷ 0 ∷ 2 ∷ 4 ∷ []
chain_stands_at_its_first_operator = refl

-- `a*b-c`: the first operand is a node of its own
pub product_in_a_chain : expr_places (trees.binary 3 (trees.binary 1 (trees.variable 0 (codes "a")) Mul (trees.variable 2 (codes "b"))) Sub (trees.variable 4 (codes "c"))) ≡ 3 ∷ 1 ∷ 0 ∷ 2 ∷ 4 ∷ []
product_in_a_chain = refl

-- a literal past 64 bits with its sign is held as the nearest one
pub largest_literal_of_a_declaration : init_of (trees.number (pos 18446744073709551615)) ≡ trees.number (pos 9223372036854775807)
largest_literal_of_a_declaration = refl

pub least_literal_of_a_declaration : init_of (trees.number (negsuc 9223372036854775807)) ≡ trees.number (negsuc 9223372036854775807)
least_literal_of_a_declaration = refl

-- ---- heights

pub chain_of_any_length_adds_one : expr_height (expr_of a_sum) ≡ 2
chain_of_any_length_adds_one = refl

-- `if(a){;}` is no higher than `if(a);`, and `if(a){}` neither
pub whole_body_adds_nothing : (stmt_heights (if_only (var (codes "a")) (block (stmts empty no_stmts)))).height ≡ 2
whole_body_adds_nothing = refl

pub empty_body_is_a_node : (stmt_heights (if_only (var (codes "a")) (block no_stmts))).height ≡ 2
empty_body_is_a_node = refl

pub block_in_a_block_counts : (stmt_heights (if_only (var (codes "a")) (block (stmts (block (stmts empty no_stmts)) no_stmts)))).height ≡ 3
block_in_a_block_counts = refl

-- ---- canonical text

pub operand_of_a_minus_in_parentheses : joined [] (expr_text (unary Neg (lit (pos 5)))) ≡ codes "-(5)"
unfolding is_punctuator digits
operand_of_a_minus_in_parentheses = refl

pub two_minuses_apart : joined [] (expr_text (unary Neg (lit (negsuc 4)))) ≡ codes "- -5"
unfolding is_punctuator digits
two_minuses_apart = refl

pub weaker_operand_in_parentheses : joined [] (expr_text (binary Mul (expr_of a_sum) (var (codes "d")))) ≡ codes "(a+b-c)*d"
unfolding is_punctuator
weaker_operand_in_parentheses = refl

pub chain_to_the_right_in_parentheses : joined [] (expr_text (chain (var (codes "a")) (links true (expr_of a_sum) no_links))) ≡ codes "a-(a+b-c)"
unfolding is_punctuator
chain_to_the_right_in_parentheses = refl

abbrev a_small_module : Module
a_small_module = record { name = Some (codes "m"); params = codes "s" ∷ codes "t" ∷ []; globals = record { name = codes "x"; init = trees.number (negsuc 0) } ∷ []; functions = []; tables = []; exports = one (codes "f") }

pub small_module_text : canonical_text a_small_module ≡ codes "function m(s,t){\"use asm\";\nvar x=-1;\nreturn f;}\n"
unfolding is_punctuator digits
small_module_text = refl

pub small_module_height : module_height a_small_module ≡ 2
small_module_height = refl
