use Rattle.std.proofs.Common.{inl, inr, refl, ap}
use Rattle.wasm_tree.specs.Views.{import_of}
use Rattle.wasm_lang_valid.specs.Measures.{is_function_import, is_global_import}
use Rattle.wasm_validate_bodies.proofs.Calls.{if_ok}
use Rattle.wasm_validate.proofs.ImportNames.{neither, a_function, a_global}
use Rattle.wasm_validate.proofs.mixed.Names.add.Goals as goal

pub returns-in-Table : goal.returns-in-Table
returns-in-Table c =
    λ before. elim c.in-Table.is [ inl o ↦ neither c.args.self.now (import_of c.args.import.now) before (ap is_function_import o.1) (ap is_global_import o.1) | inr o ↦ neither c.args.self.now (import_of c.args.import.now) before (ap is_function_import o.1) (ap is_global_import o.1) ]

pub returns-in-Func : goal.returns-in-Func
returns-in-Func c =
    let x = import_of c.args.import.now in
    if_ok c.insert.result c.insert.ensures (λ u more before are. a_function c.args.self.now _ x (c.as_bytes.result, c.as_bytes-2.result) before (c.as_bytes.ensures, c.as_bytes-2.ensures) (ap is_function_import c.in-Func.is) (ap is_global_import c.in-Func.is) more refl are)

pub returns-in-Global : goal.returns-in-Global
returns-in-Global c =
    let x = import_of c.args.import.now in
    if_ok c.insert-in-Global.result c.insert-in-Global.ensures (λ u more before are. a_global c.args.self.now _ x (c.as_bytes.result, c.as_bytes-2.result) before (c.as_bytes.ensures, c.as_bytes-2.ensures) (ap is_function_import c.in-Global.is) (ap is_global_import c.in-Global.is) more refl are)
