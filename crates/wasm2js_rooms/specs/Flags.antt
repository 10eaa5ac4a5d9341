-- The names of locals, by flags.
use Rattle.std.specs.Prelude.{ℕ, suc, Bool, false, List, [], ◌∷◌, ◌++◌, slice_index_or, if◌then◌else◌}
use Rattle.wasm_lang.specs.declared.types.ValType.{ValType}
use Rattle.wasm2js_translation.specs.Names.{Name}
use Rattle.wasm2js_translation.specs.Pairs.{local_pair, names_of}

-- of the locals from x on, which have these types, those with a flag
abbrev pub flagged_names : List Bool → (x : ℕ) → List ValType → List Name
flagged_names flags x [] = []
flagged_names flags x (t ∷ ts) = (if slice_index_or flags x false then names_of t (local_pair x) else []) ++ flagged_names flags (suc x) ts
