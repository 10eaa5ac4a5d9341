-- What a token does that is of none of the classes that the code names.
use Rattle.std.proofs.Common.{◌≡◌, List, refl, sym, ap, ◌∙◌}
use Rattle.asm_lang.specs.Lexemes.{Lexeme}
use Rattle.asm_lang.specs.Trees.{VariableTree}
use Rattle.asm_lang.specs.Machine.{State, at_locals, in_locals, Step, feed, end_by, in_locals_by}
use Rattle.asm_grammar_nodes.specs.declared.lexeme.Class.{Class as CodeClass}
use Rattle.asm_grammar_nodes.specs.declared.lexeme.Class.TheVariants.{Comma}
use Rattle.asm_grammar_nodes.specs.declared.lexeme.Lexeme.{Lexeme as CodeLexeme}
use Rattle.asm_grammar_nodes.specs.Views.{class_view, lexeme_view}
use Rattle.asm_grammar_decls.specs.declared.want.Ending.{Ending}
use Rattle.asm_grammar_decls.specs.Parts.{ending_view}

abbrev pub IsNot : CodeClass → CodeClass → Type 0
IsNot c d = c ≡ d → ⊥

-- how what came before a token ends, as the code found it
abbrev pub Ends : Ending → CodeLexeme → Type 0
Ends e t = (s : State) (last : Step) → ending_view e (lexeme_view t) s last ≡ end_by (lexeme_view t).class (lexeme_view t) s last

pub ends_by : (t : CodeLexeme) (e f : Ending) (s : State) (last : Step) → e ≡ f → Ends e t → ending_view f (lexeme_view t) s last ≡ end_by (lexeme_view t).class (lexeme_view t) s last
ends_by t e f s last is h = ap (λ (g : Ending). ending_view g (lexeme_view t) s last) (sym is) ∙ h s last

-- ---- local variables

pub no_comma_local : (c : CodeClass) (t : Lexeme) (ls : List VariableTree) (k : List VariableTree → State) (last : Step) → IsNot c Comma
    → end_by (class_view c) t (at_locals ls k) last ≡ in_locals_by (class_view c) t ls k last
no_comma_local Comma t ls k last other = absurd (other refl)
no_comma_local _ t ls k last other = refl

pub local_ends : (t : CodeLexeme) (e f : Ending) (ls : List VariableTree) (k : List VariableTree → State) → e ≡ f
    → ((s : State) (last : Step) → ending_view e (lexeme_view t) s last ≡ end_by (lexeme_view t).class (lexeme_view t) s last) → IsNot t.class Comma
    → ending_view f (lexeme_view t) (at_locals ls k) (feed (at_locals ls k) (lexeme_view t)) ≡ feed (in_locals ls k) (lexeme_view t)
local_ends t e f ls k is h other = ends_by t e f (at_locals ls k) (feed (at_locals ls k) (lexeme_view t)) is h ∙ no_comma_local t.class (lexeme_view t) ls k (feed (at_locals ls k) (lexeme_view t)) other
