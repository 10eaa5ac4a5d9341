use Rattle.std.proofs.Common.{List, ◌++◌, sym, ap, ◌∙◌}
use Rattle.asm_lang.specs.Modules.{Stmt}
use Rattle.wasm2js_build.specs.Blocks.{statements_of}
use Rattle.wasm2js_build.specs.Growing.{waits_of}
use Rattle.wasm2js_jumps.specs.Aims.{aims_view}
use Rattle.wasm2js_operands.specs.Operands.{over}
use Rattle.wasm2js_bodies.proofs.Endings.{own_end, other_end}
use Rattle.wasm2js_bodies.proofs.branches.end_code.Goals as goal

pub returns-in_ok-give_word : goal.returns-in_ok-give_word
returns-in_ok-give_word c =
    c.in_ok-give_word.ensures
    ∙ ap (λ (ss : List Stmt). statements_of c.args.text.now.block ++ ss)
    (own_end (aims_view c.args.aims.now) c.args.base (over c.args.base c.args.types.now.items) (waits_of c.args.text.now) (sym c.gives_word.ensures ∙ c.if-gives_word.true))

pub returns-in_ok-write_all : goal.returns-in_ok-write_all
returns-in_ok-write_all c =
    c.in_ok-write_all.ensures.statements
    ∙ ap (λ (ss : List Stmt). statements_of c.args.text.now.block ++ ss)
    (other_end (aims_view c.args.aims.now) c.args.base (over c.args.base c.args.types.now.items) (waits_of c.args.text.now) (sym c.gives_word.ensures ∙ c.if-gives_word.false))
