-- The next parameter without a mark is the last of those that the code holds.
use Rattle.std.proofs.Common.{◌≡◌, ℕ, ◌+◌, List, [], ◌∷◌, ◌++◌, Option, Some, None, length, MatchOption, option_to_list, sym, ap, ◌∙◌, refl, arith}
use Rattle.asm_lang.specs.Lexemes.{Lexeme as PlainLexeme}
use Rattle.asm_lang.specs.Trees.{ParamTree as PlainParam}
use Rattle.asm_lang.specs.Machine.{State, at_marks, feed}
use Rattle.asm_grammar_nodes.specs.declared.lexeme.Lexeme.{Lexeme}
use Rattle.asm_grammar_decls.specs.Begun.{begun_mark}
use Rattle.asm_grammar_decls.specs.Variables.{left_view}
use Rattle.asm_grammar_decls.proofs.Pushes.{left_view-last}

pub begun_is : (xs ys : List Lexeme) (o : Option Lexeme) (n m : ℕ) (ds : List PlainParam) (k : List PlainParam → State) (t : PlainLexeme) → xs ≡ ys ++ option_to_list o
    → n ≡ length xs → MatchOption o ((n ≡ 0) × (m ≡ 0)) (λ _. m + 1 ≡ n) → begun_mark o (left_view ys) ds k t ≡ feed (at_marks (left_view xs) ds k) t
begun_is [] ys None n m ds k t is len cases = refl
begun_is (x ∷ xs) ys None n m ds k t is len cases = absurd (omega (arith, cases.0))
begun_is xs ys (Some p) n m ds k t is len cases = sym (ap (λ (l : List PlainLexeme). feed (at_marks l ds k) t) (ap left_view is ∙ left_view-last ys p))
