-- The laws of statements.
use Rattle.std.proofs.Common.{refl}
use Rattle.asm_lang_valid.specs.Typing.{at_top}
use Rattle.asm2wasm_laws_simulation.specs.Bodies.Laws.{StatementsAreKept, ListsAreKept, BodiesAreKept, LocalsAreSet}
use Rattle.asm2wasm_laws_simulation.proofs.Bodies.Executed.{stmt_kept, stmts_kept}
use Rattle.asm2wasm_laws_simulation.proofs.Bodies.Switched.{switches_kept}
use Rattle.asm2wasm_laws_simulation.proofs.Bodies.First.{locals_set}
use Rattle.asm2wasm_laws_simulation.proofs.Bodies.Framed.{body_kept}

pub statements_are_kept : StatementsAreKept
statements_are_kept s limit bound calls ls own a place x is kept le h l room few = stmt_kept s limit bound calls is kept le (switches_kept s limit bound calls) x ls own a place h room l few

pub lists_are_kept : ListsAreKept
lists_are_kept s limit bound calls ls a place ss is kept le h l room few = stmts_kept s limit bound calls is kept le (switches_kept s limit bound calls) ss ls a place h room l few

pub bodies_are_kept : BodiesAreKept
bodies_are_kept s limit bound calls place below code outer is kept le h l room few = body_kept s limit bound calls is kept le below code outer s.within.body at_top place h room l few refl

pub locals_are_set : LocalsAreSet
locals_are_set heap c w more st vs params scratch = let x = locals_set heap c w more st vs params scratch in (x.cost, x.few, x.by)
