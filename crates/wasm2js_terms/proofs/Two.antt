-- Words of two others, of the code and as plain data.
use Rattle.std.proofs.Common.{◌≡◌, Bool, true, false, ◌&&◌, List, [], ◌∷◌, Option, Some, None, refl, sym, ap, ◌∙◌}
use Rattle.std.specs.Prelude.{if◌then◌else◌}
use Rattle.wasm2js_translation.specs.Names.{Name, same_name}
use Rattle.wasm2js_translation.specs.Words.{Term, read, number, both, flip, sum, product, zeros, compare, choose, byte, whole}
use Rattle.wasm2js_translation.specs.Delays.{is_atom, is_of_two, waiting, word_or, at_hand, replaced}
use Rattle.wasm2js_nodes.specs.Names.{name_view}
use Rattle.wasm2js_terms.specs.Atoms.{atom_view}
use Rattle.wasm2js_terms.specs.Waits.{delays_view, if_atom}
use Rattle.wasm2js_terms.specs.Held.{only_atom, only_of_two, of_both}
use Rattle.wasm2js_terms.specs.declared.atoms.Atom.{Atom}
use Rattle.wasm2js_terms.specs.declared.atoms.Atom.TheVariants as atoms
use Rattle.wasm2js_terms.specs.declared.atoms.Delayed.{Delayed}

-- ---- what stands for a variable has no operators

no_operators : (a : Atom) → is_atom (atom_view a) ≡ true
no_operators (atoms.Read n) = refl
no_operators (atoms.Number z) = refl

not_of_two : (a : Atom) → is_of_two (atom_view a) ≡ false
not_of_two (atoms.Read n) = refl
not_of_two (atoms.Number z) = refl

at_hand_alone : (ws : List Delayed) (n : Name) → is_atom (at_hand (delays_view ws) n) ≡ true
at_hand_alone [] n = refl
at_hand_alone (d ∷ ds) n = by (same_name (name_view d.name) n) (at_hand_alone ds n)
  where
    by : (b : Bool) → is_atom (at_hand (delays_view ds) n) ≡ true → is_atom (word_or (if b then Some (atom_view d.word) else waiting (delays_view ds) n) n) ≡ true
    by true e = no_operators d.word
    by false e = e

at_hand_not_of_two : (ws : List Delayed) (n : Name) → is_of_two (at_hand (delays_view ws) n) ≡ false
at_hand_not_of_two [] n = refl
at_hand_not_of_two (d ∷ ds) n = by (same_name (name_view d.name) n) (at_hand_not_of_two ds n)
  where
    by : (b : Bool) → is_of_two (at_hand (delays_view ds) n) ≡ false → is_of_two (word_or (if b then Some (atom_view d.word) else waiting (delays_view ds) n) n) ≡ false
    by true e = not_of_two d.word
    by false e = e

pub no_two : (ws : List Delayed) (n : Name) → None ≡ only_of_two (at_hand (delays_view ws) n)
no_two ws n = ap (λ (b : Bool). if b then Some (at_hand (delays_view ws) n) else None) (sym (at_hand_not_of_two ws n))

-- ---- two of them under one operator

found_alone : (ws : List Delayed) (t : Term) → if_atom (replaced (delays_view ws) t) t ≡ only_atom (replaced (delays_view ws) t)
found_alone ws (read n) = ap (λ (b : Bool). if b then Some (at_hand (delays_view ws) n) else None) (sym (at_hand_alone ws n))
found_alone ws (number z) = refl
found_alone ws (both op a b) = refl
found_alone ws (flip a) = refl
found_alone ws (sum a ts) = refl
found_alone ws (product a b) = refl
found_alone ws (zeros a) = refl
found_alone ws (compare signed r a b) = refl
found_alone ws (choose c a b) = refl
found_alone ws (byte signed at) = refl
found_alone ws (whole at) = refl

joined : (f : Term → Term → Term) (a b : Term) (p q : Bool) → of_both f (if p then Some a else None) (if q then Some b else None) ≡ (if p && q then Some (f a b) else None)
joined f a b true true = refl
joined f a b true false = refl
joined f a b false true = refl
joined f a b false false = refl

-- of the code, which found the words `o` and `p` of the terms `u` and `v`
pub two_found : (f : Term → Term → Term) (ws : List Delayed) (u v : Term) (o p r : Option Term) → o ≡ if_atom (replaced (delays_view ws) u) u → p ≡ if_atom (replaced (delays_view ws) v) v → r ≡ of_both f o p
    → r ≡ (if is_atom (replaced (delays_view ws) u) && is_atom (replaced (delays_view ws) v) then Some (f (replaced (delays_view ws) u) (replaced (delays_view ws) v)) else None)
two_found f ws u v o p r first second made =
    made ∙ ap (λ (x : Option Term). of_both f x p) (first ∙ found_alone ws u) ∙ ap (λ (x : Option Term). of_both f (only_atom (replaced (delays_view ws) u)) x) (second ∙ found_alone ws v)
    ∙ joined f (replaced (delays_view ws) u) (replaced (delays_view ws) v) (is_atom (replaced (delays_view ws) u)) (is_atom (replaced (delays_view ws) v))
