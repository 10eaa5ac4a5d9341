-- What is known, of the code and as plain data.
use Rattle.std.specs.Prelude.{ℤ, Bool, true, false, ◌&&◌, ◌||◌, nat_le, List, map, Option, Some, None, ◌==◌, ◌%◌, if◌then◌else◌}
use Rattle.sem_words.specs.Words.{word_of}
use Rattle.wasm2js_translation.specs.Words as words
use Rattle.wasm2js_translation.specs.Words.{conjunction, disjunction, exclusion, shift_left}
use Rattle.wasm2js_translation.specs.Known as plain
use Rattle.wasm2js_translation.specs.Known.{nothing_known, lesser, greater_of, added_bounds, product_bound, shifted_bound, is_within}
use Rattle.wasm2js_nodes.specs.Names.{name_view}
use Rattle.wasm2js_terms.specs.declared.facts.Fact.{Fact}
use Rattle.wasm2js_terms.specs.declared.facts.Known.{Known}

abbrev pub fact_view : Fact → plain.Fact
fact_view f = record { most = f.most; by_four = f.by_four }

abbrev pub known_view : Known → plain.Known
known_view k = record { name = name_view k.name; fact = fact_view k.fact }

abbrev pub knowns_view : List Known → List plain.Known
knowns_view ks = map known_view ks

-- ---- what is known of a term, by what is known of its parts

abbrev pub number_fact : ℤ → plain.Fact
number_fact z = record { most = Some (word_of 32 z); by_four = word_of 32 z % 4 == 0 }

abbrev pub truth_fact : plain.Fact
truth_fact = record { most = Some 1; by_four = false }

-- a multiple of four and a number below four
abbrev pub are_disjoint : (f g : plain.Fact) → Bool
are_disjoint f g = f.by_four && is_within g.most 3

abbrev pub conjunction_fact : (f g : plain.Fact) → plain.Fact
conjunction_fact f g = record { most = if are_disjoint f g || are_disjoint g f then Some 0 else lesser f.most g.most; by_four = f.by_four || g.by_four }

abbrev pub without_bound : (f g : plain.Fact) → plain.Fact
without_bound f g = record { most = None; by_four = f.by_four && g.by_four }

-- by a count, where that is a number
abbrev pub shifted_fact : plain.Fact → Option words.Term → plain.Fact
shifted_fact f (Some (words.number z)) = record { most = shifted_bound f.most (word_of 32 z % 32); by_four = f.by_four || nat_le 2 (word_of 32 z % 32) }
shifted_fact f o = nothing_known

-- of an operator on two words, the second of which is this one if it has no operators
abbrev pub bits_fact : words.BitOp → (f g : plain.Fact) → Option words.Term → plain.Fact
bits_fact conjunction f g o = conjunction_fact f g
bits_fact disjunction f g o = without_bound f g
bits_fact exclusion f g o = without_bound f g
bits_fact shift_left f g o = shifted_fact f o
bits_fact op f g o = nothing_known

abbrev pub added_fact : plain.Fact → (minus : Bool) → plain.Fact → plain.Fact
added_fact f true g = without_bound f g
added_fact f false g = record { most = added_bounds f.most g.most; by_four = f.by_four && g.by_four }

abbrev pub product_fact : (f g : plain.Fact) → plain.Fact
product_fact f g = record { most = product_bound f.most g.most; by_four = f.by_four || g.by_four }

abbrev pub choice_fact : (f g : plain.Fact) → plain.Fact
choice_fact f g = record { most = greater_of f.most g.most; by_four = f.by_four && g.by_four }
