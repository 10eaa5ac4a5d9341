-- The order of the globals in the linked module: the imported ones of both modules, then the own ones of both.
use Rattle.std.specs.Prelude.{ℕ, ◌+◌, List, ◌++◌, length, take, drop}
use Rattle.sem_words.specs.declared.word.Word.{Word}
use Rattle.wasm_lang_valid.specs.ModuleRules.{imported_globals, global_types}
use Rattle.wasm_link_lang.specs.Pairs.{Pair}

-- of four runs that stand one after the other, of which the first three have these lengths, the second and the third change places
abbrev pub turned : (a b c : ℕ) → List Word → List Word
turned a b c xs = (take a xs ++ take c (drop b (drop a xs))) ++ (take b (drop a xs) ++ drop c (drop b (drop a xs)))

abbrev pub in_order : Pair → List Word → List Word
in_order w = turned (length (imported_globals w.first.imports)) (length w.first.globals) (length (imported_globals w.second.imports))

-- how many there are
abbrev pub global_count : Pair → ℕ
global_count w = length (global_types w.first) + length (global_types w.second)
