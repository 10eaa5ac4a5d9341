use Rattle.std.proofs.Common.{◌<◌}
use Rattle.std.specs.Prelude.{IfSome}
use Rattle.std.specs.Global.{Global}
use Rattle.std.specs.declared.boxed.Box.{Box}
use Rattle.asm_grammar_nodes.specs.declared.tree.StmtTree.{StmtTree, size-StmtTree}
use Rattle.asm_grammar_nodes.proofs.+stmts.Given as goal

abbrev pub invariant-tree::StmtTree::drop-loop-rest : goal.invariant-tree::StmtTree::drop-loop-rest
invariant-tree::StmtTree::drop-loop-rest l = IfSome l.rest (λ (b : Box StmtTree Global). size-StmtTree b.value < size-StmtTree l.fn.self)
