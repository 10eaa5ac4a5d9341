-- A push at the end of what the code holds, as one of the lists that it stands for.
use Rattle.std.proofs.Common.{◌≡◌, List, [], ◌∷◌, ◌++◌, map}
use Rattle.std.proofs.lemmas.List.{append-nil}
use Rattle.asm_grammar_nodes.specs.declared.declarations.TableTree.{TableTree}
use Rattle.asm_grammar_nodes.specs.declared.declarations.ExportTree.{ExportTree}
use Rattle.sem_words.specs.declared.text.Text.{Text}
use Rattle.sem_words.specs.Lists.{text_bytes}
use Rattle.asm_grammar_nodes.specs.Views.{table_view, export_view, names_view}
use Rattle.asm_grammar_decls.proofs.Pushes.{map-last}

pub tables-last : (ts : List TableTree) (t : TableTree) → map table_view (ts ++ t ∷ []) ≡ map table_view ts ++ table_view t ∷ []
tables-last ts t = map-last table_view ts t

pub exports-last : (es : List ExportTree) (e : ExportTree) → map export_view (es ++ e ∷ []) ≡ map export_view es ++ export_view e ∷ []
exports-last es e = map-last export_view es e

pub names-last : (ns : List Text) (n : Text) → names_view (ns ++ n ∷ []) ≡ names_view ns ++ text_bytes n ∷ []
names-last ns n = map-last text_bytes ns n

pub ruleset tables = (tables-last)

pub ruleset exports = (exports-last)

pub ruleset members = (names-last, append-nil)
