-- Words without operators, as plain data.
use Rattle.wasm2js_translation.specs.Words as words
use Rattle.wasm2js_nodes.specs.Names.{name_view}
use Rattle.wasm2js_terms.specs.declared.atoms.Atom.{Atom}
use Rattle.wasm2js_terms.specs.declared.atoms.Atom.TheVariants as atoms

abbrev pub atom_view : Atom → words.Term
atom_view (atoms.Read n) = words.read (name_view n)
atom_view (atoms.Number z) = words.number z
