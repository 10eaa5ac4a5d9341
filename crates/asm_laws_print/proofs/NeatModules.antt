-- The canonical pieces of a module that can be printed are neat.
use Rattle.std.proofs.Common.{ℕ, Bool, true, false, cond as choice, eqb, List, [], ◌∷◌, ◌++◌, codes, Option, Some, None, refl}
use Rattle.std.specs.List.{AllByRecursion}
use Rattle.asm_lang_tokens.specs.Forms.{is_punctuator}
use Rattle.asm_lang.specs.Lexemes.{identifier, a_decimal}
use Rattle.asm_lang.specs.Trees as trees
use Rattle.asm_lang.specs.Trees.{Init}
use Rattle.asm_lang.specs.Modules.{Variable, Param, Function, Table, Export, Exports, one, many, Module}
use Rattle.asm_lang.specs.Printing.{Piece, word, between, a_semicolon, decimal_pieces, init_text, further_text, locals_text, globals_text, names_text, param_names, mark_text, marks_text, function_text, functions_text, tables_text, export_pieces, exports_text, module_name_text, module_pieces}
use Rattle.asm_laws_print.specs.Spelled.{HasClass}
use Rattle.asm_laws_print.specs.Fitting.{FitsName, AreNames, IsProperty, unsigned, FitsLiteral, FitsInit, FitsGlobal, FitsLocal, FitsParam, FitsFunction, FitsTable, FitsExport, FitsExports, FitsModule}
use Rattle.asm_laws_print.proofs.TokenKinds.{word_is_name}
use Rattle.asm_laws_print.proofs.Neat.{IsNoNumber, First, Operand, Line, Neat, calm_start, empty_line, line_append, word_line, feed_line, one_word, word_operand}
use Rattle.asm_laws_print.proofs.NeatExprs.{name_token, name_calm, decimal_first}
use Rattle.asm_laws_print.proofs.NeatStmts.{Ender, a_word_line, ended_line, semicolon_end, colon_end, open_paren_end, close_paren_end, open_brace_end, close_brace_end, end_line, Keyword, keyword_line, return_key, name_line, number_neat, in_braces, stmts_neat}

-- ---- signs and words

function_key : Keyword (codes "function")
function_key = record { is = refl; calm = record { number = refl; slash = refl } }

var_key : Keyword (codes "var")
var_key = record { is = refl; calm = record { number = refl; slash = refl } }

new_key : Keyword (codes "new")
new_key = record { is = refl; calm = record { number = refl; slash = refl } }

math_key : Keyword (codes "Math")
math_key = record { is = refl; calm = record { number = refl; slash = refl } }

directive_key : Keyword (codes "\"use asm\"")
unfolding is_punctuator
directive_key = record { is = refl; calm = record { number = refl; slash = refl } }

dot_key : Keyword (codes ".")
unfolding is_punctuator
dot_key = record { is = refl; calm = record { number = refl; slash = refl } }

equals_key : Keyword (codes "=")
unfolding is_punctuator
equals_key = record { is = refl; calm = record { number = refl; slash = refl } }

comma_key : Keyword (codes ",")
unfolding is_punctuator
comma_key = record { is = refl; calm = record { number = refl; slash = refl } }

comma_end : Ender (codes ",")
unfolding is_punctuator
comma_end = record { sign = record { is = refl; runs = refl; number = refl }; slash = refl }

plus_key : Keyword (codes "+")
unfolding is_punctuator
plus_key = record { is = refl; calm = record { number = refl; slash = refl } }

bar_key : Keyword (codes "|")
unfolding is_punctuator
bar_key = record { is = refl; calm = record { number = refl; slash = refl } }

open_bracket_key : Keyword (codes "[")
unfolding is_punctuator
open_bracket_key = record { is = refl; calm = record { number = refl; slash = refl } }

close_bracket_key : Keyword (codes "]")
unfolding is_punctuator
close_bracket_key = record { is = refl; calm = record { number = refl; slash = refl } }

zero_operand : Operand (word (codes "0") ∷ [])
zero_operand = one_word (record { is = refl; no_comment = refl })

minus_first : First (codes "-")
unfolding is_punctuator
minus_first = record { is = refl; no_comment = refl }

minus_number : IsNoNumber (codes "-")
unfolding is_punctuator
minus_number = refl

property_line : {w : List ℕ} {ps : List Piece} → IsProperty w → Line ps → Line (word w ∷ ps)
property_line {w = w} h l = let is = word_is_name w h in word_line (name_token w is) (name_calm w is) l

-- ---- initial values, with the `;` after them

decimal_neat : (bs : List ℕ) → HasClass a_decimal (unsigned bs) → Operand (decimal_pieces bs)
decimal_neat [] fits = absurd cc
decimal_neat (d ∷ bs) fits =
    let P : Bool → Type 0 = λ t. HasClass a_decimal (choice t bs (d ∷ bs)) → Operand (choice t (word (codes "-") ∷ word bs ∷ []) (word (d ∷ bs) ∷ [])) in
    let both : P (eqb d 45) = elim (eqb d 45) as P [
      | true ↦ λ f. word_operand minus_first minus_number (one_word (decimal_first bs f))
      | false ↦ λ f. one_word (decimal_first (d ∷ bs) f)
    ] in
    both fits

-- what ends it, and what follows
literal_line : (i : Init) → FitsLiteral i → {w : List ℕ} {ps : List Piece} → Ender w → Line ps → Line (init_text i ++ word w ∷ ps)
literal_line (trees.number v) fits e l = ended_line (number_neat v fits) e l
literal_line (trees.decimal bs) fits e l = ended_line (decimal_neat bs fits) e l
literal_line (trees.foreign_int f p) fits e l = absurd fits
literal_line (trees.foreign_double f p) fits e l = absurd fits
literal_line (trees.member f p) fits e l = absurd fits
literal_line (trees.math f p) fits e l = absurd fits
literal_line (trees.view f p h) fits e l = absurd fits

literal_neat : (i : Init) → FitsLiteral i → Line (init_text i ++ a_semicolon)
literal_neat i fits = literal_line i fits semicolon_end empty_line

-- `f.p`, and what follows
member_line : {f p : List ℕ} {ps : List Piece} → HasClass identifier f → IsProperty p → Line ps → Line (word f ∷ word (codes ".") ∷ word p ∷ ps)
member_line h k l = name_line h (keyword_line dot_key (property_line k l))

init_neat : (i : Init) → FitsInit i → Line (init_text i ++ a_semicolon)
init_neat (trees.number v) fits = literal_neat (trees.number v) fits
init_neat (trees.decimal bs) fits = literal_neat (trees.decimal bs) fits
init_neat (trees.foreign_int f p) fits = member_line fits.0 fits.1 (keyword_line bar_key (ended_line zero_operand semicolon_end empty_line))
init_neat (trees.foreign_double f p) fits = keyword_line plus_key (member_line fits.0 fits.1 end_line)
init_neat (trees.member f p) fits = member_line fits.0 fits.1 end_line
init_neat (trees.math f p) fits = name_line fits.0 (keyword_line dot_key (keyword_line math_key (keyword_line dot_key (property_line fits.1 end_line))))
init_neat (trees.view f p h) fits = keyword_line new_key (member_line fits.0 fits.1 (a_word_line open_paren_end (name_line fits.2 (a_word_line close_paren_end end_line))))

-- ---- variables, tables and names

globals_neat : (vs : List Variable) → AllByRecursion FitsGlobal vs → Line (globals_text vs)
globals_neat [] fits = empty_line
globals_neat (v ∷ vs) fits = line_append (keyword_line var_key (name_line fits.0.0 (keyword_line equals_key (init_neat v.init fits.0.1)))) (feed_line (globals_neat vs fits.1))

further_neat : (i : Init) → FitsLiteral i → (vs : List Variable) → AllByRecursion FitsLocal vs → Line (init_text i ++ further_text vs)
further_neat i fit [] fits = literal_neat i fit
further_neat i fit (v ∷ vs) fits = literal_line i fit comma_end (name_line fits.0.0 (keyword_line equals_key (further_neat v.init fits.0.1 vs fits.1)))

locals_neat : (vs : List Variable) → AllByRecursion FitsLocal vs → Line (locals_text vs)
locals_neat [] fits = empty_line
locals_neat (v ∷ vs) fits = keyword_line var_key (name_line fits.0.0 (keyword_line equals_key (further_neat v.init fits.0.1 vs fits.1)))

further_names_neat : (ns : List (List ℕ)) → AreNames ns → Line (names_text true ns)
further_names_neat [] fits = empty_line
further_names_neat (n ∷ ns) fits = keyword_line comma_key (name_line fits.0 (further_names_neat ns fits.1))

names_neat : (ns : List (List ℕ)) → AreNames ns → Line (names_text false ns)
names_neat [] fits = empty_line
names_neat (n ∷ ns) fits = name_line fits.0 (further_names_neat ns fits.1)

names_in_parens : (ns : List (List ℕ)) → AreNames ns → Line (between (codes "(") (names_text false ns) (codes ")"))
names_in_parens ns fits = a_word_line open_paren_end (line_append (names_neat ns fits) (a_word_line close_paren_end empty_line))

members_neat : (ns : List (List ℕ)) → AreNames ns → Line (between (codes "[") (names_text false ns) (codes "]"))
members_neat ns fits = keyword_line open_bracket_key (line_append (names_neat ns fits) (keyword_line close_bracket_key empty_line))

tables_neat : (ts : List Table) → AllByRecursion FitsTable ts → Line (tables_text ts)
tables_neat [] fits = empty_line
tables_neat (t ∷ ts) fits = line_append (keyword_line var_key (name_line fits.0.0 (keyword_line equals_key (line_append (members_neat t.members fits.0.2) end_line)))) (feed_line (tables_neat ts fits.1))

-- ---- functions

param_names_fit : (ps : List Param) → AllByRecursion FitsParam ps → AreNames (param_names ps)
param_names_fit [] fits = tt
param_names_fit (p ∷ ps) fits = (fits.0, param_names_fit ps fits.1)

mark_neat : (n : List ℕ) → HasClass identifier n → (double : Bool) → Line (mark_text (record { name = n; double = double }))
mark_neat n fits true = name_line fits (keyword_line equals_key (keyword_line plus_key (name_line fits end_line)))
mark_neat n fits false = name_line fits (keyword_line equals_key (name_line fits (keyword_line bar_key (ended_line zero_operand semicolon_end empty_line))))

marks_neat : (ps : List Param) → AllByRecursion FitsParam ps → Line (marks_text ps)
marks_neat [] fits = empty_line
marks_neat (p ∷ ps) fits = line_append (mark_neat p.name fits.0 p.double) (marks_neat ps fits.1)

function_neat : (f : Function) → FitsFunction f → Line (function_text f)
function_neat f fits =
    keyword_line function_key (name_line fits.name (line_append (names_in_parens (param_names f.params) (param_names_fit f.params fits.params))
    (in_braces (line_append (marks_neat f.params fits.params) (line_append (locals_neat f.locals fits.locals) (stmts_neat f.body fits.body))))))

functions_neat : (fs : List Function) → AllByRecursion FitsFunction fs → Line (functions_text fs)
functions_neat [] fits = empty_line
functions_neat (f ∷ fs) fits = line_append (function_neat f fits.0) (feed_line (functions_neat fs fits.1))

-- ---- modules

further_exports_neat : (es : List Export) → AllByRecursion FitsExport es → Line (export_pieces true es)
further_exports_neat [] fits = empty_line
further_exports_neat (e ∷ es) fits = keyword_line comma_key (property_line fits.0.0 (a_word_line colon_end (name_line fits.0.1 (further_exports_neat es fits.1))))

export_pieces_neat : (es : List Export) → AllByRecursion FitsExport es → Line (export_pieces false es)
export_pieces_neat [] fits = empty_line
export_pieces_neat (e ∷ es) fits = property_line fits.0.0 (a_word_line colon_end (name_line fits.0.1 (further_exports_neat es fits.1)))

exports_neat : (e : Exports) → FitsExports e → Line (exports_text e)
exports_neat (one f) fits = keyword_line return_key (name_line fits end_line)
exports_neat (many es) fits = keyword_line return_key (line_append (in_braces (export_pieces_neat es fits)) end_line)

name_neat : (n : Option (List ℕ)) → FitsName n → Line (module_name_text n)
name_neat None fits = empty_line
name_neat (Some n) fits = name_line fits empty_line

module_line : (m : Module) → FitsModule m → Line (module_pieces m)
module_line m fits =
    keyword_line function_key (line_append (name_neat m.name fits.name) (line_append (names_in_parens m.params fits.params)
    (a_word_line open_brace_end (keyword_line directive_key (a_word_line semicolon_end (feed_line
    (line_append (globals_neat m.globals fits.globals) (line_append (functions_neat m.functions fits.functions) (line_append (tables_neat m.tables fits.tables)
    (line_append (exports_neat m.exports fits.exports) (a_word_line close_brace_end (feed_line empty_line))))))))))))

pub module_neat : (m : Module) → FitsModule m → Neat [] (module_pieces m)
module_neat m fits = (module_line m fits).neat [] calm_start
