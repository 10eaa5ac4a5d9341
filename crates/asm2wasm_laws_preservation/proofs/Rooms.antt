-- Scratch locals that code names, and foreign uses, of pieces that are put together.
use Rattle.std.proofs.Common.{List, [], ◌∷◌, ◌++◌, arith}
use Rattle.wasm_lang.specs.declared.types.ValType.{ValType}
use Rattle.std.specs.Prelude.{Option}
use Rattle.wasm_lang_exec.specs.Code.{unreachable, block, loop, if_block, br, br_if, br_table, return, call, call_indirect, plain, Trees, ε, ◌▹◌, ◌⊕◌}
use Rattle.wasm_laws_trees.specs.Laws.{ReachJoins}
use Rattle.asm_lang_valid.specs.LimitRows.{ForeignCall, Mark, a_row, a_use}
use Rattle.asm2wasm_laws_preservation.specs.Kept.{Surroundings}
use Rattle.asm2wasm_laws_preservation.specs.Made.{AllListed, Within}

pub reach_joins : ReachJoins
reach_joins ε b = omega arith
reach_joins (block r body ▹ a) b = let e = reach_joins a b in omega (arith, e)
reach_joins (loop r body ▹ a) b = let e = reach_joins a b in omega (arith, e)
reach_joins (if_block r first second ▹ a) b = let e = reach_joins a b in omega (arith, e)
reach_joins (unreachable ▹ a) b = reach_joins a b
reach_joins (br l ▹ a) b = reach_joins a b
reach_joins (br_if l ▹ a) b = reach_joins a b
reach_joins (br_table ls d ▹ a) b = reach_joins a b
reach_joins (return ▹ a) b = reach_joins a b
reach_joins (call f ▹ a) b = reach_joins a b
reach_joins (call_indirect t ▹ a) b = reach_joins a b
reach_joins (plain p ▹ a) b = let e = reach_joins a b in omega (arith, e)

pub first_within : (s : Surroundings) (a b : Trees) → Within s (a ⊕ b) → Within s a
first_within s a b h = let e = reach_joins a b in omega (arith, e, h)

pub second_within : (s : Surroundings) (a b : Trees) → Within s (a ⊕ b) → Within s b
second_within s a b h = let e = reach_joins a b in omega (arith, e, h)

pub arms_within : (s : Surroundings) (r : Option ValType) (a b : Trees) → Within s (if_block r a b ▹ ε) → Within s a × Within s b
arms_within s r a b h = (omega (arith, h), omega (arith, h))

pub listed_parts : (fs : List ForeignCall) (ms ns : List Mark) → AllListed fs (ms ++ ns) → AllListed fs ms × AllListed fs ns
listed_parts fs [] ns h = (tt, h)
listed_parts fs (a_row r ∷ ms) ns h = listed_parts fs ms ns h
listed_parts fs (a_use f at ∷ ms) ns h = let p = listed_parts fs ms ns h.1 in ((h.0, p.0), p.1)
