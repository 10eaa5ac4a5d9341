-- The locals of runs with one more.
use Rattle.std.proofs.Common.{◌≡◌, ℕ, zero, suc, Bool, true, false, List, [], ◌∷◌, ◌++◌, map, replicate, refl, sym, ap, ◌∙◌, append_assoc, append-nil}
use Rattle.std.specs.Prelude.{if◌then◌else◌}
use Rattle.std.proofs.lemmas.List.{map-append}
use Rattle.wasm_lang.specs.declared.types.ValType.{ValType}
use Rattle.wasm_lang.specs.declared.types.ValType.TheVariants.{I32}
use Rattle.wasm_lang.specs.Grammar.{locals_of}
use Rattle.wasm_lang.specs.Instructions.{Instruction}
use Rattle.wasm_tree.specs.declared.module.Run.{Run}
use Rattle.wasm_tree.specs.Views.{locals_in, run_of}
use Rattle.wasm_link_lang.specs.Refusal.{has_indirect}
use Rattle.wasm_link_code.specs.Code.{scratch}
use Rattle.wasm_link_sections.specs.Made.{needs_scratch, scratch_if}

pub scratch_is : (other : ℕ) (code : List Instruction) → scratch_if (needs_scratch other code) ≡ scratch other code
scratch_is zero code = refl
scratch_is (suc other) code = by (has_indirect code)
  where
    by : (t : Bool) → scratch_if t ≡ (if t then I32 ∷ [] else [])
    by true = refl
    by false = refl

joined : (rs ss : List (ℕ × ValType)) → locals_of (rs ++ ss) ≡ locals_of rs ++ locals_of ss
joined [] ss = refl
joined (r ∷ rs) ss = ap (λ l. replicate r.0 r.1 ++ l) (joined rs ss) ∙ sym (append_assoc (replicate r.0 r.1) (locals_of rs) (locals_of ss))

pub one_pushed : (runs : List Run) (r : Run) → locals_in (runs ++ r ∷ []) ≡ locals_in runs ++ locals_in (r ∷ [])
one_pushed runs r = ap locals_of (map-append run_of runs (r ∷ [])) ∙ joined (map run_of runs) (run_of r ∷ [])

pub none_pushed : (runs : List Run) → locals_in runs ≡ locals_in runs ++ []
none_pushed runs = sym (append-nil (locals_in runs))
