-- What terms of the code say, as plain data.
use Rattle.std.specs.Prelude.{false, List, map}
use Rattle.wasm2js_translation.specs.Words as words
use Rattle.wasm2js_translation.specs.Words.{no_more, further}
use Rattle.wasm2js_nodes.specs.Names.{name_view}
use Rattle.wasm2js_terms.specs.declared.terms.BitOp.{BitOp}
use Rattle.wasm2js_terms.specs.declared.terms.BitOp.TheVariants as bits
use Rattle.wasm2js_terms.specs.declared.terms.Relation.{Relation}
use Rattle.wasm2js_terms.specs.declared.terms.Relation.TheVariants as relations
use Rattle.wasm2js_terms.specs.declared.terms.Term.{Term, Term-F, fold-Term}
use Rattle.wasm2js_terms.specs.declared.terms.Term.TheOpen as terms

abbrev pub bit_view : BitOp → words.BitOp
bit_view bits.And = words.conjunction
bit_view bits.Or = words.disjunction
bit_view bits.Xor = words.exclusion
bit_view bits.Shl = words.shift_left
bit_view bits.Sar = words.shift_right_signed
bit_view bits.Shr = words.shift_right

abbrev pub relation_view : Relation → words.Relation
relation_view relations.Equal = words.equal
relation_view relations.Unequal = words.unequal
relation_view relations.Less = words.less
relation_view relations.AtMost = words.at_most
relation_view relations.Greater = words.greater
relation_view relations.AtLeast = words.at_least

abbrev pub term_layer : Term-F words.Term → words.Term
term_layer (terms.Read n) = words.read (name_view n)
term_layer (terms.Number z) = words.number z
term_layer (terms.Both op a b) = words.both (bit_view op) a.now b.now
term_layer (terms.BothNumber op a z) = words.both (bit_view op) a.now (words.number z)
term_layer (terms.BothRead op a b) = words.both (bit_view op) (words.read (name_view a)) (words.read (name_view b))
term_layer (terms.Flip a) = words.flip a.now
term_layer (terms.SumOfTwo a minus b) = words.sum a.now (further minus b.now no_more)
term_layer (terms.SumOfThree a first b second c) = words.sum a.now (further first b.now (further second c.now no_more))
term_layer (terms.SumNumber a minus z) = words.sum a.now (further minus (words.number z) no_more)
term_layer (terms.SumRead a minus b) = words.sum (words.read (name_view a)) (further minus (words.read (name_view b)) no_more)
term_layer (terms.SumOfFour a b c d) = words.sum a.now (further false b.now (further false c.now (further false d.now no_more)))
term_layer (terms.Product a b) = words.product a.now b.now
term_layer (terms.Zeros a) = words.zeros a.now
term_layer (terms.Compare signed r a b) = words.compare signed (relation_view r) a.now b.now
term_layer (terms.CompareNumber signed r a z) = words.compare signed (relation_view r) a.now (words.number z)
term_layer (terms.CompareRead signed r a b) = words.compare signed (relation_view r) (words.read (name_view a)) (words.read (name_view b))
term_layer (terms.Choose t a b) = words.choose t.now a.now b.now
term_layer (terms.Byte signed at) = words.byte signed at.now
term_layer (terms.Whole at) = words.whole at.now

unfoldable pub term_view : Term → words.Term
term_view = fold-Term words.Term term_layer

abbrev pub terms_view : List Term → List words.Term
terms_view ts = map term_view ts
