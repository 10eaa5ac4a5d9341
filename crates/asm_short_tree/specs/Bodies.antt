-- What the code's labels say, and what statements become.
use Rattle.std.specs.Prelude.{ℕ, List, Option, map}
use Rattle.sem_words.specs.Lists.{text_bytes}
use Rattle.asm_lang.specs.Modules.{Stmt, Stmts, Clauses}
use Rattle.asm_short_lang.specs.Sequence.{numbered}
use Rattle.asm_short_lang.specs.Renaming as plain
use Rattle.asm_short_lang.specs.Renaming.{inside, no_labels}
use Rattle.asm_short_tree.specs.declared.labels.NewLabel.{NewLabel}
use Rattle.asm_short_tree.specs.declared.labels.Labels.{Labels, Labels-F, fold-Labels}
use Rattle.asm_short_tree.specs.declared.labels.Labels.TheOpen.{Nothing, Inside}
use Rattle.asm_short_tree.specs.declared.statements.Renaming.{Renaming}
use Rattle.asm_short_tree.specs.Looking.{look_by}

abbrev pub old_labels : List NewLabel → List (List ℕ)
old_labels ls = map (λ (l : NewLabel). text_bytes l.old.now) ls

abbrev pub new_labels : List NewLabel → List (List ℕ)
new_labels ls = map (λ (l : NewLabel). numbered l.new) ls

abbrev pub layer : Labels-F plain.Labels → plain.Labels
layer Nothing = no_labels
layer (Inside ls outer) = inside (old_labels ls.now) (new_labels ls.now) outer.now

unfoldable pub labels_view : Labels → plain.Labels
labels_view = fold-Labels plain.Labels layer

-- the new name of a label, if it is one
abbrev pub place_by : Labels → List ℕ → Option (List ℕ)
place_by around n = plain.in_place (labels_view around).olds (labels_view around).news n

-- ---- statements

abbrev pub stmt_by : Renaming → Labels → (before : ℕ) → Stmt → Stmt
stmt_by r around before s = plain.stmt_with (look_by r.look) (map numbered r.fresh.now) (labels_view around) before s

-- under these labels, those of a list one after another
abbrev pub stmt_inside : Renaming → List NewLabel → Labels → (before : ℕ) → Stmt → Stmt
stmt_inside r labels around before s = plain.stmt_with (look_by r.look) (map numbered r.fresh.now) (inside (old_labels labels) (new_labels labels) (labels_view around)) before s

abbrev pub stmts_by : Renaming → Labels → (before : ℕ) → Stmts → Stmts
stmts_by r around before ss = plain.stmts_with (look_by r.look) (map numbered r.fresh.now) (labels_view around) before ss

abbrev pub clauses_by : Renaming → Labels → (before : ℕ) → Clauses → Clauses
clauses_by r around before cs = plain.clauses_with (look_by r.look) (map numbered r.fresh.now) (labels_view around) before cs
