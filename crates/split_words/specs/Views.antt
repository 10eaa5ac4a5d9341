-- What pairs of the code say, as plain data.
use Rattle.wasm2js_nodes.specs.Names.{name_view}
use Rattle.wasm2js_translation.specs.Pairs as plain
use Rattle.wasm2js_lang.specs.SplitWords.{Halves}
use Rattle.wasm2js_laws_wide.specs.Laws.{halves}
use Rattle.split_words.specs.declared.pair.Pair.{Pair}

abbrev pub pair_view : Pair → plain.Pair
pair_view p = record { low = name_view p.low; high = name_view p.high }

-- as they are spelled
abbrev pub halves_of : Pair → Halves
halves_of p = halves (pair_view p)
