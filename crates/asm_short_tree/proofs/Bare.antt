-- New names where nothing is left out.
use Rattle.std.proofs.Common.{◌≡◌, ℕ, false, ◌||◌, List, [], ◌++◌, map, length, refl, sym, ap, ◌∙◌}
use Rattle.asm_lang.specs.Modules.{Stmts}
use Rattle.asm_short_lang.specs.Sequence.{numbered, forbidden, first_names}
use Rattle.asm_short_lang.specs.Renaming.{no_labels, labels_in_all, stmts_with, body_with}
use Rattle.asm_laws_sequence.proofs.Free.{as_many}
use Rattle.asm_short_names.specs.declared.excluding.Excluded.{Excluded}
use Rattle.asm_short_names.specs.Excluding.{IsExactly, excludes}
use Rattle.asm_short_tree.proofs.Around.{map_length}

pub none_left_out : (e : Excluded) → ((n : ℕ) → false ≡ excludes e n) → IsExactly [] e
none_left_out e h = record { alike = h }

pub enough : (ns : List ℕ) (count : ℕ) → map numbered ns ≡ first_names [] count → length ns ≡ count
enough ns count h = sym (map_length ns) ∙ ap length h ∙ as_many (forbidden ++ []) count 0
