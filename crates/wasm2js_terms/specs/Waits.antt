-- What waits, as plain data.
use Rattle.std.specs.Prelude.{Option, Some, None, List, map}
use Rattle.wasm2js_translation.specs.Words as words
use Rattle.wasm2js_translation.specs.Delays as delays
use Rattle.wasm2js_translation.specs.Delays.{replaced, all_replaced}
use Rattle.wasm2js_nodes.specs.Names.{name_view}
use Rattle.wasm2js_terms.specs.Views.{term_view, terms_view}
use Rattle.wasm2js_terms.specs.Atoms.{atom_view}
use Rattle.wasm2js_terms.specs.declared.terms.Term.{Term}
use Rattle.wasm2js_terms.specs.declared.atoms.Delayed.{Delayed}

abbrev pub delayed_view : Delayed → delays.Delayed
delayed_view d = record { name = name_view d.name; word = atom_view d.word }

abbrev pub delays_view : List Delayed → List delays.Delayed
delays_view ds = map delayed_view ds

-- a term in which what waits stands for its variable
abbrev pub late_term : List Delayed → Term → words.Term
late_term ds t = replaced (delays_view ds) (term_view t)

abbrev pub late_terms : List Delayed → List Term → List words.Term
late_terms ds ts = all_replaced (delays_view ds) (terms_view ts)

-- the first one where the second is a variable or a number
abbrev pub if_atom : (t u : words.Term) → Option words.Term
if_atom t (words.read n) = Some t
if_atom t (words.number z) = Some t
if_atom t u = None
