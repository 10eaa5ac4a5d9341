use Rattle.wasm_validate.proofs.valid.check_module.Goals as goal

pub check_bodies-requires-clause-expressions : goal.check_bodies-requires-clause-expressions
check_bodies-requires-clause-expressions c = λ k d h. (c.requires.shaped.bodies k d h).expression
