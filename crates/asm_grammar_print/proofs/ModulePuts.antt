-- The pieces of the lists of a module, item by item, and its text.
use Rattle.std.proofs.Common.{◌≡◌, ℕ, ◌+◌, ◌<◌, true, false, List, [], ◌∷◌, ◌++◌, map, length, get_or, take, refl, sym, ap, ◌∙◌, append_assoc, codes}
use Rattle.asm_lang.specs.Modules.{Module, Function}
use Rattle.asm_lang.specs.Printing.{Piece, word, line_feed, between, variable_text, globals_text, function_text, functions_text, table_text, tables_text, export_pieces, module_pieces, canonical_text, module_name_text, names_text, globals_text}
use Rattle.asm_tree.specs.declared.tree.Global_.{Global_}
use Rattle.asm_tree.specs.declared.tree.Function.{Function as CodeFunction}
use Rattle.asm_tree.specs.declared.tree.Table.{Table as CodeTable}
use Rattle.asm_tree.specs.declared.tree.Export.{Export as CodeExport}
use Rattle.asm_tree.specs.Views.{global_view, function_view, table_view, export_view}
use Rattle.asm_grammar_print.specs.Put.{Written, at_start, put_piece, put, directive_text, front_text, back_text}
use Rattle.asm_grammar_print.proofs.Puts.{put_append, put_joined, next_of_all}

-- pieces, and a line feed after them
line_put : {X : Type 0} (f : List X → List Piece) (g : X → List Piece) → f [] ≡ [] → ((x : X) (xs : List X) → f (x ∷ xs) ≡ g x ++ line_feed ∷ f xs)
    → (w : Written) (xs : List X) (i : ℕ) (x : X) → i < length xs → x ≡ get_or xs i x → put_piece (put (put w (f (take i xs))) (g x)) line_feed ≡ put w (f (take (i + 1) xs))
line_put f g none some w xs i x lt is =
    sym (put_append (put w (f (take i xs))) (g x) (line_feed ∷ []))
    ∙ next_of_all f (λ y. g y ++ line_feed ∷ []) none (λ y ys. some y ys ∙ sym (append_assoc (g y) (line_feed ∷ []) (f ys))) w xs i x lt is

pub next_global : (w : Written) (xs : List Global_) (i : ℕ) (x : Global_) → i < length xs → x ≡ get_or xs i x
    → put_piece (put (put w (globals_text (map global_view (take i xs)))) (variable_text (global_view x))) line_feed ≡ put w (globals_text (map global_view (take (i + 1) xs)))
next_global = line_put (λ xs. globals_text (map global_view xs)) (λ x. variable_text (global_view x)) refl (λ x xs. refl)

pub next_function : (w : Written) (xs : List CodeFunction) (i : ℕ) (x : CodeFunction) → i < length xs → x ≡ get_or xs i x
    → put_piece (put (put w (functions_text (map function_view (take i xs)))) (function_text (function_view x))) line_feed ≡ put w (functions_text (map function_view (take (i + 1) xs)))
next_function = line_put (λ xs. functions_text (map function_view xs)) (λ x. function_text (function_view x)) refl (λ x xs. refl)

pub next_table : (w : Written) (xs : List CodeTable) (i : ℕ) (x : CodeTable) → i < length xs → x ≡ get_or xs i x
    → put_piece (put (put w (tables_text (map table_view (take i xs)))) (table_text (table_view x))) line_feed ≡ put w (tables_text (map table_view (take (i + 1) xs)))
next_table = line_put (λ xs. tables_text (map table_view xs)) (λ x. table_text (table_view x)) refl (λ x xs. refl)

pub next_export : (w : Written) (xs : List CodeExport) (i : ℕ) (x : CodeExport) → i < length xs → x ≡ get_or xs i x
    → put (put_piece (put w (export_pieces true (map export_view (take i xs)))) (word (codes ","))) (export_pieces false (export_view x ∷ [])) ≡ put w (export_pieces true (map export_view (take (i + 1) xs)))
next_export = next_of_all (λ xs. export_pieces true (map export_view xs)) (λ x. word (codes ",") ∷ export_pieces false (export_view x ∷ [])) refl (λ x xs. refl)

pub whole_text : (m : Module) → (put at_start (module_pieces m)).bytes ≡ canonical_text m
whole_text m = put_joined at_start (module_pieces m)

pub heading_put : (w : Written) (name ps d : List Piece)
    → put (put_piece (put (put_piece (put (put_piece w (word (codes "function"))) name) (word (codes "("))) ps) (word (codes ")"))) d ≡ put w (word (codes "function") ∷ (name ++ (between (codes "(") ps (codes ")") ++ d)))
heading_put w name ps d =
    let named : Written = put (put_piece w (word (codes "function"))) name in
    sym (put_append (put_piece w (word (codes "function"))) name (between (codes "(") ps (codes ")") ++ d)
    ∙ (put_append (put_piece named (word (codes "("))) (ps ++ word (codes ")") ∷ []) d
    ∙ ap (λ (s : Written). put s d) (put_append (put_piece named (word (codes "("))) ps (word (codes ")") ∷ []))))

-- ---- a module in three parts

-- functions after functions
functions_joined : (fs gs : List Function) → functions_text (fs ++ gs) ≡ functions_text fs ++ functions_text gs
functions_joined [] gs = refl
functions_joined (f ∷ fs) gs = ap (λ (r : List Piece). function_text f ++ line_feed ∷ r) (functions_joined fs gs) ∙ sym (append_assoc (function_text f) (line_feed ∷ functions_text fs) (functions_text gs))

pub functions_put : (w : Written) (fs gs : List Function) → put (put w (functions_text fs)) (functions_text gs) ≡ put w (functions_text (fs ++ gs))
functions_put w fs gs = sym (ap (put w) (functions_joined fs gs) ∙ put_append w (functions_text fs) (functions_text gs))

-- a heading, and what follows it
heading_then : (name : List Piece) (ps gs rest : List Piece)
    → (word (codes "function") ∷ (name ++ (between (codes "(") ps (codes ")") ++ directive_text)) ++ gs) ++ rest
    ≡ word (codes "function") ∷ (name ++ (between (codes "(") ps (codes ")") ++ (directive_text ++ (gs ++ rest))))
heading_then name ps gs rest =
    append_assoc (word (codes "function") ∷ (name ++ (between (codes "(") ps (codes ")") ++ directive_text))) gs rest
    ∙ ap (λ (r : List Piece). word (codes "function") ∷ r)
    (append_assoc name (between (codes "(") ps (codes ")") ++ directive_text) (gs ++ rest)
    ∙ ap (λ (r : List Piece). name ++ r) (append_assoc (between (codes "(") ps (codes ")")) directive_text (gs ++ rest)))

pub module_parts : (m : Module) → module_pieces m ≡ front_text m ++ (functions_text m.functions ++ back_text m)
module_parts m = sym (heading_then (module_name_text m.name) (names_text false m.params) (globals_text m.globals) (functions_text m.functions ++ back_text m))

pub module_put : (w : Written) (m : Module) → put (put (put w (front_text m)) (functions_text m.functions)) (back_text m) ≡ put w (module_pieces m)
module_put w m =
    sym (ap (put w) (module_parts m)
    ∙ (put_append w (front_text m) (functions_text m.functions ++ back_text m)
    ∙ put_append (put w (front_text m)) (functions_text m.functions) (back_text m)))

pub module_in_turn : (w a b c : Written) (m : Module) (fs : List Function) → fs ≡ m.functions → a ≡ put w (front_text m) → b ≡ put a (functions_text fs) → c ≡ put b (back_text m) → c ≡ put w (module_pieces m)
module_in_turn w a b c m fs is x y z =
    z ∙ ap (λ s. put s (back_text m)) (y ∙ ap (λ s. put s (functions_text fs)) x ∙ ap (λ gs. put (put w (front_text m)) (functions_text gs)) is) ∙ module_put w m

-- the text of a module that is written in its parts
pub text_in_parts : (m : Module) (fs : List Function) → m.functions ≡ fs → (put (put (put at_start (front_text m)) (functions_text fs)) (back_text m)).bytes ≡ canonical_text m
text_in_parts m fs is = ap (λ gs. (put (put (put at_start (front_text m)) (functions_text gs)) (back_text m)).bytes) (sym is) ∙ (ap (λ (w : Written). w.bytes) (module_put at_start m) ∙ whole_text m)

pub ruleset puts = (next_global, next_function, next_table, next_export, heading_put, whole_text)
