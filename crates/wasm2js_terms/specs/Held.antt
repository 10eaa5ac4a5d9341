-- The newest word, which is one of two others, as plain data.
use Rattle.std.specs.Prelude.{Option, Some, None, List, [], ◌∷◌, ◌++◌, if◌then◌else◌}
use Rattle.wasm2js_translation.specs.Words as words
use Rattle.wasm2js_translation.specs.Words.{no_more, further}
use Rattle.wasm2js_translation.specs.Delays as delays
use Rattle.wasm2js_translation.specs.Delays.{is_atom, is_of_two}
use Rattle.wasm2js_nodes.specs.Names.{name_view}
use Rattle.wasm2js_terms.specs.Atoms.{atom_view}
use Rattle.wasm2js_terms.specs.Views.{bit_view, relation_view}
use Rattle.wasm2js_terms.specs.Waits.{delayed_view}
use Rattle.wasm2js_terms.specs.declared.held.OfTwo.{OfTwo}
use Rattle.wasm2js_terms.specs.declared.held.OfTwo.TheVariants as twos
use Rattle.wasm2js_terms.specs.declared.held.Held.{Held}
use Rattle.wasm2js_terms.specs.declared.held.Word.{Word}
use Rattle.wasm2js_terms.specs.declared.held.Word.TheVariants as word
use Rattle.wasm2js_terms.specs.declared.held.Newest.{Newest}
use Rattle.wasm2js_terms.specs.declared.held.Newest.TheVariants as newest

abbrev pub of_two_view : OfTwo → words.Term
of_two_view (twos.Bits op a b) = words.both (bit_view op) (atom_view a) (atom_view b)
of_two_view (twos.Sum a minus b) = words.sum (atom_view a) (further minus (atom_view b) no_more)
of_two_view (twos.Product a b) = words.product (atom_view a) (atom_view b)
of_two_view (twos.Compare signed r a b) = words.compare signed (relation_view r) (atom_view a) (atom_view b)

abbrev pub word_view : Word → words.Term
word_view (word.Atom a) = atom_view a
word_view (word.OfTwo t) = of_two_view t

abbrev pub held_view : Held → delays.Delayed
held_view h = record { name = name_view h.name; word = of_two_view h.word }

-- what is held, if anything is
abbrev pub all_held : Option Held → List delays.Delayed
all_held None = []
all_held (Some h) = held_view h ∷ []

-- it is the last one that waits
abbrev pub with_held : List delays.Delayed → Option Held → List delays.Delayed
with_held ds None = ds
with_held ds (Some h) = ds ++ held_view h ∷ []

abbrev pub newest_view : Newest → delays.Delayed
newest_view (newest.Light d) = delayed_view d
newest_view (newest.OfTwo h) = held_view h

-- a term without operators, and one of two such
abbrev pub only_atom : words.Term → Option words.Term
only_atom t = if is_atom t then Some t else None

abbrev pub only_of_two : words.Term → Option words.Term
only_of_two t = if is_of_two t then Some t else None

-- of both, where both are there
abbrev pub of_both : (words.Term → words.Term → words.Term) → Option words.Term → Option words.Term → Option words.Term
of_both f (Some a) (Some b) = Some (f a b)
of_both f o p = None
