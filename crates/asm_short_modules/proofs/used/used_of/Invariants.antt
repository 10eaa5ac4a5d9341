use Rattle.std.proofs.Common.{◌≡◌, ℕ, take}
use Rattle.std.specs.Prelude.{filter_map}
use Rattle.asm_lang_valid.specs.Scope.{is_in}
use Rattle.asm_short_lang.specs.Sequence.{numbered}
use Rattle.asm_short_tree.specs.Looking.{names_in}
use Rattle.asm_short_modules.specs.Using.{leaves_out, used_with}
use Rattle.asm_short_modules.proofs.Leaving.{names_of}
use Rattle.asm_short_modules.proofs.used.used_of.Given as goal

abbrev pub invariant-loop-one : goal.invariant-loop-one
invariant-loop-one l = (n : ℕ) → leaves_out l.used l.declared.kept.now n ≡ is_in (numbered n) (filter_map (used_with (names_in l.locals) l.declared) (names_of (take l.one-index l.uses)))
