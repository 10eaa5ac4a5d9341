-- Lists of statements.
use Rattle.std.proofs.Common.{◌≡◌, Bool, true, false, List, [], ◌∷◌, map, length, refl, sym, ap, ◌∙◌}
use Rattle.std.specs.Prelude.{if◌then◌else◌}
use Rattle.sem_words.specs.Lists.{list_items}
use Rattle.sem_words.specs.declared.list.List.{List as Listed}
use Rattle.asm_lang.specs.Modules.{Stmt, no_stmts, stmts, block}
use Rattle.asm_tree.specs.declared.tree.Stmt.{Stmt as CodeStmt}
use Rattle.asm_tree.specs.declared.tree.Stmt.TheVariants as code_stmts
use Rattle.asm_tree.specs.Views as views
use Rattle.asm_tree.specs.Views.{stmt_view}
use Rattle.asm_tree.proofs.Views.{stmt_view-Block}
use Rattle.wasm2js_translation.specs.Words.{stmts_in, is_flat, stands_alone, part_of}

-- both list the statements
pub stmts_are : (ss : List Stmt) → views.stmts_in ss ≡ stmts_in ss
stmts_are [] = refl
stmts_are (s ∷ ss) = ap (λ more. stmts s more) (stmts_are ss)

pub block_is : (ss : Listed CodeStmt) → stmt_view (code_stmts.Block ss) ≡ block (stmts_in (map stmt_view (list_items ss)))
block_is ss = stmt_view-Block ss ∙ ap block (stmts_are (map stmt_view (list_items ss)))

-- ---- a part of an `if`

pub alone_is : (s : Stmt) → is_flat s ≡ true → part_of (s ∷ []) ≡ s
alone_is s h = ap (λ b. if b then s else block (stmts s no_stmts)) h

pub others_are : (ss : List Stmt) → stands_alone ss ≡ false → part_of ss ≡ block (stmts_in ss)
others_are [] h = refl
others_are (s ∷ []) h = ap (λ b. if b then s else block (stmts s no_stmts)) h
others_are (s ∷ r ∷ ss) h = refl

pub one_there : (ss : List Stmt) → stands_alone ss ≡ true → length ss ≡ 1
one_there [] h = absurd (cc h)
one_there (s ∷ []) h = refl
one_there (s ∷ r ∷ ss) h = absurd (cc h)
