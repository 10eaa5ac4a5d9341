-- Tables of the code as those of the grammar.
use Rattle.std.specs.Prelude.{ℕ, Bool, false, List, [], ◌∷◌, map, filter, ◌==◌}
use Rattle.std.specs.Borrow.{Bor}
use Rattle.asm_lang.specs.Lexemes as lexemes
use Rattle.asm_grammar_nodes.specs.declared.lexeme.Class.{Class}
use Rattle.asm_grammar_nodes.specs.Views.{class_view}

abbrev pub entry_view : Bor (List ℕ) × Class → lexemes.Entry
entry_view e = record { spelling = e.0.now; class = class_view e.1 }

abbrev pub entries : List (Bor (List ℕ) × Class) → List lexemes.Entry
entries es = map entry_view es

abbrev pub begins_with : ℕ → List ℕ → Bool
begins_with b [] = false
begins_with b (c ∷ cs) = c == b

-- the entries whose spelling begins with the byte
abbrev pub beginning_with : ℕ → List lexemes.Entry → List lexemes.Entry
beginning_with b es = filter (λ e. begins_with b e.spelling) es
