-- What a token does that is of none of the classes that the code names.
use Rattle.std.proofs.Common.{◌≡◌, List, [], ◌∷◌, ◌++◌, Result, Ok, Err, IfOk, refl, ◌∙◌}
use Rattle.asm_lang.specs.Lexemes.{Lexeme}
use Rattle.asm_lang.specs.Trees.{VariableTree, FunctionTree, TableTree, Heading}
use Rattle.asm_lang.specs.Machine.{State, in_globals, at_tables, in_tables, Step, feed, end_by, variable_of, init_by, value_by, in_tables_by, tables_by}
use Rattle.asm_grammar_nodes.specs.declared.lexeme.Class.{Class as CodeClass}
use Rattle.asm_grammar_nodes.specs.declared.lexeme.Class.TheVariants.{Comma, OpenBracket}
use Rattle.asm_grammar_nodes.specs.declared.lexeme.Lexeme.{Lexeme as CodeLexeme}
use Rattle.asm_grammar_nodes.specs.Views.{class_view, lexeme_view}
use Rattle.asm_grammar_decls.specs.declared.want.Ending.{Ending}
use Rattle.asm_grammar_decls.specs.Parts.{ending_view}
use Rattle.asm_grammar_decls.proofs.Classes.{IsNot, ends_by}

pub ok_map : {A E : Type 0} {P Q : A → Type 0} (r : Result A E) → ((a : A) → P a → Q a) → IfOk r P → IfOk r Q
ok_map (Ok a) f p = f a p
ok_map (Err e) f p = p

-- ---- global variables

pub no_members : (c : CodeClass) (t : Lexeme) (h : Heading) (gs : List VariableTree) (n : Lexeme) → IsNot c OpenBracket
    → init_by (class_view c) t (λ i. in_globals h (gs ++ variable_of n i ∷ [])) ≡ value_by (class_view c) t h gs n
no_members OpenBracket t h gs n other = absurd (other refl)
no_members _ t h gs n other = refl

-- ---- functions and tables

pub no_comma_table : (c : CodeClass) (t : Lexeme) (h : Heading) (gs : List VariableTree) (fs : List FunctionTree) (ts : List TableTree) → IsNot c Comma
    → end_by (class_view c) t (at_tables h gs fs ts) (tables_by (class_view c) t h gs fs ts) ≡ in_tables_by (class_view c) t h gs fs ts
no_comma_table Comma t h gs fs ts other = absurd (other refl)
no_comma_table _ t h gs fs ts other = refl

pub table_ends : (t : CodeLexeme) (e f : Ending) (h : Heading) (gs : List VariableTree) (fs : List FunctionTree) (ts : List TableTree) → e ≡ f
    → ((s : State) (last : Step) → ending_view e (lexeme_view t) s last ≡ end_by (lexeme_view t).class (lexeme_view t) s last) → IsNot t.class Comma
    → ending_view f (lexeme_view t) (at_tables h gs fs ts) (feed (at_tables h gs fs ts) (lexeme_view t)) ≡ feed (in_tables h gs fs ts) (lexeme_view t)
table_ends t e f h gs fs ts is ends other = ends_by t e f (at_tables h gs fs ts) (feed (at_tables h gs fs ts) (lexeme_view t)) is ends ∙ no_comma_table t.class (lexeme_view t) h gs fs ts other
