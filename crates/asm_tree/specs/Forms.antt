-- Which form a tree of the code hasn't.
use Rattle.std.specs.Prelude.{◌≡◌}
use Rattle.std.specs.Global.{Global}
use Rattle.std.specs.declared.boxed.Box.{Box}
use Rattle.sem_words.specs.declared.list.List.{List}
use Rattle.sem_words.specs.declared.text.Text.{Text}
use Rattle.asm_tree.specs.declared.tree.Expr.{Expr}
use Rattle.asm_tree.specs.declared.tree.Expr.TheVariants.{Chain}
use Rattle.asm_tree.specs.declared.tree.Link.{Link}
use Rattle.asm_tree.specs.declared.tree.Stmt.{Stmt}
use Rattle.asm_tree.specs.declared.tree.Stmt.TheVariants.{Labelled}

abbrev pub IsUnlabelled : Stmt → Type 0
IsUnlabelled s = (labels : List Text) (body : Box Stmt Global) → s ≡ Labelled labels body → ⊥

abbrev pub IsNoChain : Expr → Type 0
IsNoChain e = (first : Box Expr Global) (links : List Link) → e ≡ Chain first links → ⊥
