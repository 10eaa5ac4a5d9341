-- The row that a module is refused for stands at one of its nodes.
use Rattle.std.proofs.Common.{◌≡◌, ◌<◌, Some, arith}
use Rattle.asm_lang.specs.Modules.{Module}
use Rattle.asm_lang_valid.specs.declared.rule.Met.{Met}
use Rattle.asm_lang_valid.specs.Rows.{module_count}
use Rattle.asm_lang_valid.specs.Refusal.{all_rows, refusal}
use Rattle.asm_laws_print.specs.Fitting.{FitsModule}
use Rattle.asm_laws_fault.proofs.Refusal.Below.{both, first_below}
use Rattle.asm_laws_fault.proofs.Refusal.NamesBelow.{names_below}
use Rattle.asm_laws_fault.proofs.Refusal.TypesBelow.{types_below}
use Rattle.asm_laws_fault.proofs.Refusal.LimitsBelow.{limits_below}

pub refused_within : (m : Module) (x : Met) → FitsModule m → refusal m ≡ Some x → x.node < module_count m
refused_within m x fits is =
    let n = module_count m in
    first_below n (all_rows m) x (both n _ _ (names_below n m (omega arith)) (both n _ _ (types_below n m fits (omega arith)) (limits_below n m (omega arith)))) is
