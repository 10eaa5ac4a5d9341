use Rattle.std.proofs.Common.{◌≡◌, ◌++◌, ◌∷◌, [], ◌∙◌, map, ap, arith}
use Rattle.std.proofs.lemmas.Grind.{common_steps}
use Rattle.sem_words.specs.Lists.{list_items}
use Rattle.wasm_tree.specs.Inputs.{input_of}
use Rattle.wasm_tree.specs.Views.{instr_of}
use Rattle.wasm_tree.proofs.Spelled.{spelled_start, spelled_step}
use Rattle.std.proofs.lemmas.List.{map-append}
use Rattle.wasm_tree.proofs.code.read_all.Goals as goal
use Rattle.wasm_tree.specs.declared.instr.Instr.{Instr}
use Rattle.std.proofs.Common.{List, length}

pub loop-turn-init : goal.loop-turn-init
loop-turn-init c = spelled_start c.args.bytes.now (map instr_of (list_items c.new-list.result)) (input_of c.new-rest.result) (ap (λ (l : List Instr). map instr_of l) c.new-list.ensures) c.new-rest.ensures.value

pub loop-turn-preserved : goal.loop-turn-preserved
loop-turn-preserved c =
    let s = spelled_step (length c.args.bytes.now) c.loop-turn._turn (map instr_of (list_items c.loop-turn.list)) (input_of c.loop-turn.rest) (input_of c.in-Ok.after) (instr_of c.in-Ok.instr) c.loop-turn-test.true c.in-Ok.ensures.value in
    let pushed : list_items c.push.new.self ≡ list_items c.loop-turn.list ++ c.in-Ok.instr ∷ [] = grind (arith, common_steps) in
    rw (pushed, map-append) (c.loop-turn.invariant ∙ s)
