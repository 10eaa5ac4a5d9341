-- The tokens of the text's pieces are a spelling of the module.
use Rattle.std.proofs.Common.{◌≡◌, ℕ, zero, suc, ◌+◌, ◌-◌, ◌^◌, ◌≤◌, ◌<◌, Bool, true, false, List, [], ◌∷◌, ◌++◌, map, codes, Some, refl, sym, ap, subst, arith}
use Rattle.std.specs.Prelude.{◌==◌}
use Rattle.sem_words.specs.declared.js_value.JsOp.TheVariants.{Or}
use Rattle.asm_lang_tokens.specs.Forms.{is_punctuator}
use Rattle.asm_lang.specs.Lexemes.{identifier, directive, function_word, var_word, new_word, return_word, open_brace, close_brace, open_paren, close_paren, dot, comma, equals, operator, Lexeme, is_word, a_property, named, a_zero}
use Rattle.asm_lang.specs.Trees as trees
use Rattle.asm_lang.specs.Trees.{FunctionTree}
use Rattle.asm_lang.specs.Grammar.{of_view, no_names, a_global, no_var, a_var, an_end, no_marks, an_int_mark, some_params, IsFunction, a_function, IsFunctions, no_functions, more_functions, export_one, an_exported, a_name, params_3, a_heading, IsLast, nothing_more, a_module}
use Rattle.asm_lang.specs.Modules.{Stmts, Function, function_of, stmts_of}
use Rattle.asm_lang.specs.Printing.{Piece, word, line_feed, a_semicolon, stmts_text, function_text, functions_text}
use Rattle.asm_laws_print.specs.Spelled.{Spells, no_piece, a_line_feed, HasClass}
use Rattle.asm_laws_print.specs.Fitting.{FitsStmts, IsModuleRead}
use Rattle.asm_laws_print.proofs.Starts.{lead, same_line}
use Rattle.asm_laws_print.proofs.Stmts.{end_read, stmts_read}
use Rattle.asm_laws_print.proofs.Tokens.{parts, first, last}
use Rattle.asm_laws_print.proofs.Neat.{Operand, Line, Neat, calm_start, empty_line, line_append, feed_line, one_word}
use Rattle.asm_laws_print.proofs.NeatStmts.{a_word_line, ended_line, semicolon_end, open_paren_end, close_paren_end, open_brace_end, close_brace_end, Keyword, keyword_line, return_key, name_line, stmts_neat}
use Rattle.gen_lang.specs.Recipe.{name_of}
use Rattle.gen_laws.specs.Modules.{x_name, body_at, function_at, functions_from, recipe_module}
use Rattle.gen_laws.proofs.Words.{name_class}
use Rattle.gen_laws.proofs.Lines.{ending_pieces, recipe_pieces}

-- ---- names, by small numbers

small_name : (i : ℕ) → i < 2 ^ 63 → HasClass identifier (name_of i)
small_name i small = name_class i (omega (arith, small))

last_small : (n : ℕ) → n ≤ 10000 → n - 1 < 2 ^ 63
last_small n few = omega (arith, few)

all_few : (n : ℕ) → n ≤ 10000 → 0 + n ≤ 2 ^ 62
all_few n few = omega (arith, few)

-- ---- bodies can be printed

body_fits : (i : ℕ) → i < 2 ^ 63 → FitsStmts (body_at i)
body_fits zero small = ((refl, refl, omega arith), tt)
body_fits (suc i) small = (
  (refl, (refl, (refl, refl, (refl, (name_class i (omega (arith, small)), (refl, tt)), omega arith), (omega (arith, small), tt)), omega arith)),
  ((refl, omega (arith, small), refl), ((refl, refl, omega arith), tt)),
)

-- ---- pieces are neat

function_key : Keyword (codes "function")
function_key = record { is = refl; calm = record { number = refl; slash = refl } }

var_key : Keyword (codes "var")
var_key = record { is = refl; calm = record { number = refl; slash = refl } }

new_key : Keyword (codes "new")
new_key = record { is = refl; calm = record { number = refl; slash = refl } }

directive_key : Keyword (codes "\"use asm\"")
unfolding is_punctuator
directive_key = record { is = refl; calm = record { number = refl; slash = refl } }

dot_key : Keyword (codes ".")
unfolding is_punctuator
dot_key = record { is = refl; calm = record { number = refl; slash = refl } }

equals_key : Keyword (codes "=")
unfolding is_punctuator
equals_key = record { is = refl; calm = record { number = refl; slash = refl } }

comma_key : Keyword (codes ",")
unfolding is_punctuator
comma_key = record { is = refl; calm = record { number = refl; slash = refl } }

bar_key : Keyword (codes "|")
unfolding is_punctuator
bar_key = record { is = refl; calm = record { number = refl; slash = refl } }

zero_operand : Operand (word (codes "0") ∷ [])
zero_operand = one_word (record { is = refl; no_comment = refl })

function_line : (i : ℕ) → i < 2 ^ 63 → Line (function_text (function_at i))
function_line i small =
    keyword_line function_key (name_line (name_class i (omega (arith, small))) (a_word_line open_paren_end (name_line refl (a_word_line close_paren_end (a_word_line open_brace_end
    (name_line refl (keyword_line equals_key (name_line refl (keyword_line bar_key
    (ended_line zero_operand semicolon_end (line_append (stmts_neat (body_at i) (body_fits i small)) (a_word_line close_brace_end empty_line))))))))))))

functions_line : (n i : ℕ) → i + n ≤ 2 ^ 62 → Line (functions_text (functions_from i n))
functions_line zero i few = empty_line
functions_line (suc n) i few = line_append (function_line i (omega (arith, few))) (feed_line (functions_line n (suc i) (omega (arith, few))))

ending_line : (i : ℕ) → i < 2 ^ 63 → Line (word (codes "return") ∷ word (name_of i) ∷ word (codes ";") ∷ word (codes "}") ∷ line_feed ∷ [])
ending_line i small = keyword_line return_key (name_line (name_class i (omega (arith, small))) (a_word_line semicolon_end (a_word_line close_brace_end (feed_line empty_line))))

recipe_line : (n : ℕ) → n ≤ 10000 → Line (recipe_pieces n)
recipe_line n few =
    keyword_line function_key (name_line refl (a_word_line open_paren_end (name_line refl (keyword_line comma_key (name_line refl (keyword_line comma_key (name_line refl (a_word_line close_paren_end
    (a_word_line open_brace_end (keyword_line directive_key (a_word_line semicolon_end
    (keyword_line var_key (name_line refl (keyword_line equals_key (keyword_line new_key (name_line refl (keyword_line dot_key (name_line refl (a_word_line open_paren_end (name_line refl (a_word_line close_paren_end
    (a_word_line semicolon_end (feed_line (line_append (functions_line n 0 (omega (arith, few))) (ending_line (n - 1) (omega (arith, few)))))))))))))))))))))))))))

pub recipe_neat : (n : ℕ) → n ≤ 10000 → Neat [] (recipe_pieces n)
recipe_neat n few = (recipe_line n few).neat [] calm_start

-- ---- they spell the module

after_line : {b c : Bool} {ps : List Piece} {xs ys : List Lexeme} → Spells b (line_feed ∷ ps) c xs ys → Spells true ps c xs ys
after_line (a_line_feed s) = s

record IsFunctionRead (f : Function) (xs ys : List Lexeme) : Type 0 where
  tree : FunctionTree
  is_function : IsFunction tree xs ys
  is_this : function_of tree ≡ f

abbrev function_with : List ℕ → List ℕ → Stmts → Function
function_with name param body = record { name = name; params = record { name = param; double = false } ∷ []; locals = []; body = body }

same_function : (n m p q : List ℕ) (ss rs : Stmts) → n ≡ m → p ≡ q → ss ≡ rs → function_with n p ss ≡ function_with m q rs
same_function n m p q ss rs e f g = rw (e, f, g) refl

function_read : (i : ℕ) → i < 2 ^ 63 → {b c : Bool} {xs ys : List Lexeme} → Spells b (function_text (function_at i)) c xs ys → IsFunctionRead (function_at i) xs ys
function_read i small s =
    let key = first s in
    let name = first key.back in
    let opening = first name.back in
    let p = first opening.back in
    let shut = first p.back in
    let brace = first shut.back in
    let target = first brace.back in
    let sign = first target.back in
    let source = first sign.back in
    let bar = first source.back in
    let zero_token = first bar.back in
    let marked = parts a_semicolon (stmts_text (body_at i) ++ word (codes "}") ∷ []) zero_token.back in
    let inside = parts (stmts_text (body_at i)) (word (codes "}") ∷ []) marked.back in
    let closing = last inside.back in
    let is_close = closing.is_at close_brace refl in
    let body = stmts_read (body_at i) (body_fits i small) (lead is_close refl) inside.front in
    let mark = an_int_mark (target.is_a (named p.token.text) (target.says.class, rw (p.says.text, target.says.text) refl)) (sign.is_at equals refl)
    (source.is_a (named p.token.text) (source.says.class, rw (p.says.text, source.says.text) refl)) (bar.is_at (operator Or) refl)
    (zero_token.is_a a_zero (zero_token.says.class, ap (λ (v : ℕ). v == 0) zero_token.says.value)) (end_read marked.front) no_marks in
    record {
      tree = record { at = name.token.at; name = name.token.text; params = record { at = p.token.at; name = p.token.text; double = false } ∷ []; locals = []; body = body.trees_of };
      is_function = a_function (key.is_at function_word refl) (name.is_at identifier (small_name i small)) (opening.is_at open_paren refl) (some_params (p.is_at identifier refl) no_names (shut.is_at close_paren refl))
          (brace.is_at open_brace refl) mark no_var body.are_stmts is_close;
      is_this = same_function name.token.text (name_of i) p.token.text x_name (stmts_of body.trees_of) (body_at i) name.says.text p.says.text body.is_this;
    }

record AreFunctionsRead (fs : List Function) (xs ys : List Lexeme) : Type 0 where
  trees_of : List FunctionTree
  are_functions : IsFunctions trees_of xs ys
  is_this : map function_of trees_of ≡ fs

functions_read : (n i : ℕ) → i + n ≤ 2 ^ 62 → {b c : Bool} {xs ys : List Lexeme} → Spells b (functions_text (functions_from i n)) c xs ys → AreFunctionsRead (functions_from i n) xs ys
functions_read zero i few no_piece = record { trees_of = []; are_functions = no_functions; is_this = refl }
functions_read (suc n) i few s =
    let all = parts (function_text (function_at i)) (line_feed ∷ functions_text (functions_from (suc i) n)) s in
    let here = function_read i (omega (arith, few)) all.front in
    let others = functions_read n (suc i) (omega (arith, few)) (after_line all.back) in
    record { trees_of = here.tree ∷ others.trees_of; are_functions = more_functions here.is_function others.are_functions; is_this = rw (here.is_this, others.is_this) refl }

last_line : {b c : Bool} {xs : List Lexeme} → Spells b (line_feed ∷ []) c xs [] → xs ≡ []
last_line (a_line_feed no_piece) = refl

pub recipe_read : (n : ℕ) → n ≤ 10000 → {c : Bool} {xs : List Lexeme} → Spells false (recipe_pieces n) c xs [] → IsModuleRead (recipe_module n) xs
recipe_read n few s =
    let key = first s in
    let name = first key.back in
    let opening = first name.back in
    let stdlib = first opening.back in
    let comma_1 = first stdlib.back in
    let foreign = first comma_1.back in
    let comma_2 = first foreign.back in
    let heap = first comma_2.back in
    let shut = first heap.back in
    let brace = first shut.back in
    let quoted = first brace.back in
    let begun = parts a_semicolon _ quoted.back in
    let var_token = first begun.back in
    let view_name = first var_token.back in
    let sign = first view_name.back in
    let new_token = first sign.back in
    let object = first new_token.back in
    let point = first object.back in
    let kind = first point.back in
    let view_opening = first kind.back in
    let buffer = first view_opening.back in
    let view_shut = first buffer.back in
    let declared = parts a_semicolon _ view_shut.back in
    let with_functions = parts (functions_text (functions_from 0 n)) (ending_pieces n) (after_line declared.back) in
    let functions = functions_read n 0 (all_few n few) with_functions.front in
    let return_token = first with_functions.back in
    let export = first return_token.back in
    let exported = parts a_semicolon _ export.back in
    let closing = first exported.back in
    let end = last_line closing.back in
    let globals = a_var (var_token.is_at var_word refl) (a_global (view_name.is_at identifier refl) (sign.is_at equals refl)
    (of_view (new_token.is_at new_word refl) (object.is_at identifier refl) (point.is_at dot refl) (kind.is_a a_property (ap is_word kind.says.class)) (view_opening.is_at open_paren refl) (buffer.is_at identifier refl) (view_shut.is_at close_paren refl)))
    (an_end (end_read declared.front) no_var) in
    record {
      tree = record {
        heading = record { name = Some name.token.text; params = stdlib.token.text ∷ foreign.token.text ∷ heap.token.text ∷ [] };
        globals = record { at = view_name.token.at; name = view_name.token.text; init = trees.view object.token.text kind.token.text buffer.token.text } ∷ [];
        functions = functions.trees_of;
        tables = [];
        exports = trees.one export.token.at export.token.text;
      };
      is_module = a_module (a_heading (key.is_at function_word refl) (a_name (name.is_at identifier refl)) (opening.is_at open_paren refl)
          (params_3 (stdlib.is_at identifier refl) (comma_1.is_at comma refl) (foreign.is_at identifier refl) (comma_2.is_at comma refl) (heap.is_at identifier refl) (shut.is_at close_paren refl)) (brace.is_at open_brace refl))
          (quoted.is_at directive refl) (end_read begun.front) globals functions.are_functions no_var
          (an_exported (return_token.is_at return_word refl) (same_line (word (name_of (n - 1)) ∷ word (codes ";") ∷ word (codes "}") ∷ line_feed ∷ []) refl return_token.back) (export_one (export.is_at identifier (small_name (n - 1) (last_small n few))) (end_read exported.front)))
          (closing.is_at close_brace refl) (subst (λ (zs : List Lexeme). IsLast zs) (sym end) nothing_more);
      is_this = rw (name.says.text, stdlib.says.text, foreign.says.text, heap.says.text, view_name.says.text, object.says.text, kind.says.text, buffer.says.text, functions.is_this, export.says.text) refl;
    }
