-- The equations of the view of terms.
use Rattle.std.proofs.Common.{◌≡◌, Bool, false, sym, ap, ◌∙◌}
use Rattle.std.specs.Prelude.{ℤ}
use Rattle.std.specs.Borrow.{Bor}
use Rattle.wasm2js_translation.specs.Words as words
use Rattle.wasm2js_translation.specs.Words.{read, number, both, flip, sum, product, zeros, compare, choose, byte, whole, no_more, further}
use Rattle.wasm2js_nodes.specs.declared.names.Name.{Name}
use Rattle.wasm2js_terms.specs.declared.terms.BitOp.{BitOp}
use Rattle.wasm2js_terms.specs.declared.terms.Relation.{Relation}
use Rattle.wasm2js_terms.specs.declared.terms.Term.{Term, fold-roll-Term}
use Rattle.wasm2js_terms.specs.declared.terms.Term.TheOpen as opens
use Rattle.wasm2js_terms.specs.declared.terms.Term.TheVariants as variants
use Rattle.wasm2js_nodes.specs.Names.{name_view}
use Rattle.wasm2js_terms.specs.Views.{bit_view, relation_view, term_layer, term_view}

pub term_view-Read : (n : Name) → term_view (variants.Read n) ≡ read (name_view n)
unfolding term_view
term_view-Read n = ap term_view (sym (variants.rolls-Read n)) ∙ fold-roll-Term words.Term term_layer (opens.Read n)

pub term_view-Number : (z : ℤ) → term_view (variants.Number z) ≡ number z
unfolding term_view
term_view-Number z = ap term_view (sym (variants.rolls-Number z)) ∙ fold-roll-Term words.Term term_layer (opens.Number z)

pub term_view-Both : (op : BitOp) (a b : Bor Term) → term_view (variants.Both op a b) ≡ both (bit_view op) (term_view a.now) (term_view b.now)
unfolding term_view
term_view-Both op a b = ap term_view (sym (variants.rolls-Both op a b)) ∙ fold-roll-Term words.Term term_layer (opens.Both op a b)

pub term_view-BothNumber : (op : BitOp) (a : Bor Term) (z : ℤ) → term_view (variants.BothNumber op a z) ≡ both (bit_view op) (term_view a.now) (number z)
unfolding term_view
term_view-BothNumber op a z = ap term_view (sym (variants.rolls-BothNumber op a z)) ∙ fold-roll-Term words.Term term_layer (opens.BothNumber op a z)

pub term_view-BothRead : (op : BitOp) (a b : Name) → term_view (variants.BothRead op a b) ≡ both (bit_view op) (read (name_view a)) (read (name_view b))
unfolding term_view
term_view-BothRead op a b = ap term_view (sym (variants.rolls-BothRead op a b)) ∙ fold-roll-Term words.Term term_layer (opens.BothRead op a b)

pub term_view-Flip : (a : Bor Term) → term_view (variants.Flip a) ≡ flip (term_view a.now)
unfolding term_view
term_view-Flip a = ap term_view (sym (variants.rolls-Flip a)) ∙ fold-roll-Term words.Term term_layer (opens.Flip a)

pub term_view-SumOfTwo : (a : Bor Term) (minus : Bool) (b : Bor Term) → term_view (variants.SumOfTwo a minus b) ≡ sum (term_view a.now) (further minus (term_view b.now) no_more)
unfolding term_view
term_view-SumOfTwo a minus b = ap term_view (sym (variants.rolls-SumOfTwo a minus b)) ∙ fold-roll-Term words.Term term_layer (opens.SumOfTwo a minus b)

pub term_view-SumOfThree : (a : Bor Term) (first : Bool) (b : Bor Term) (second : Bool) (c : Bor Term) → term_view (variants.SumOfThree a first b second c) ≡ sum (term_view a.now) (further first (term_view b.now) (further second (term_view c.now) no_more))
unfolding term_view
term_view-SumOfThree a first b second c = ap term_view (sym (variants.rolls-SumOfThree a first b second c)) ∙ fold-roll-Term words.Term term_layer (opens.SumOfThree a first b second c)

pub term_view-SumNumber : (a : Bor Term) (minus : Bool) (z : ℤ) → term_view (variants.SumNumber a minus z) ≡ sum (term_view a.now) (further minus (number z) no_more)
unfolding term_view
term_view-SumNumber a minus z = ap term_view (sym (variants.rolls-SumNumber a minus z)) ∙ fold-roll-Term words.Term term_layer (opens.SumNumber a minus z)

pub term_view-SumRead : (a : Name) (minus : Bool) (b : Name) → term_view (variants.SumRead a minus b) ≡ sum (read (name_view a)) (further minus (read (name_view b)) no_more)
unfolding term_view
term_view-SumRead a minus b = ap term_view (sym (variants.rolls-SumRead a minus b)) ∙ fold-roll-Term words.Term term_layer (opens.SumRead a minus b)

pub term_view-SumOfFour : (a b c d : Bor Term) → term_view (variants.SumOfFour a b c d) ≡ sum (term_view a.now) (further false (term_view b.now) (further false (term_view c.now) (further false (term_view d.now) no_more)))
unfolding term_view
term_view-SumOfFour a b c d = ap term_view (sym (variants.rolls-SumOfFour a b c d)) ∙ fold-roll-Term words.Term term_layer (opens.SumOfFour a b c d)

pub term_view-Product : (a b : Bor Term) → term_view (variants.Product a b) ≡ product (term_view a.now) (term_view b.now)
unfolding term_view
term_view-Product a b = ap term_view (sym (variants.rolls-Product a b)) ∙ fold-roll-Term words.Term term_layer (opens.Product a b)

pub term_view-Zeros : (a : Bor Term) → term_view (variants.Zeros a) ≡ zeros (term_view a.now)
unfolding term_view
term_view-Zeros a = ap term_view (sym (variants.rolls-Zeros a)) ∙ fold-roll-Term words.Term term_layer (opens.Zeros a)

pub term_view-Compare : (signed : Bool) (r : Relation) (a b : Bor Term) → term_view (variants.Compare signed r a b) ≡ compare signed (relation_view r) (term_view a.now) (term_view b.now)
unfolding term_view
term_view-Compare signed r a b = ap term_view (sym (variants.rolls-Compare signed r a b)) ∙ fold-roll-Term words.Term term_layer (opens.Compare signed r a b)

pub term_view-CompareNumber : (signed : Bool) (r : Relation) (a : Bor Term) (z : ℤ) → term_view (variants.CompareNumber signed r a z) ≡ compare signed (relation_view r) (term_view a.now) (number z)
unfolding term_view
term_view-CompareNumber signed r a z = ap term_view (sym (variants.rolls-CompareNumber signed r a z)) ∙ fold-roll-Term words.Term term_layer (opens.CompareNumber signed r a z)

pub term_view-CompareRead : (signed : Bool) (r : Relation) (a b : Name) → term_view (variants.CompareRead signed r a b) ≡ compare signed (relation_view r) (read (name_view a)) (read (name_view b))
unfolding term_view
term_view-CompareRead signed r a b = ap term_view (sym (variants.rolls-CompareRead signed r a b)) ∙ fold-roll-Term words.Term term_layer (opens.CompareRead signed r a b)

pub term_view-Choose : (t a b : Bor Term) → term_view (variants.Choose t a b) ≡ choose (term_view t.now) (term_view a.now) (term_view b.now)
unfolding term_view
term_view-Choose t a b = ap term_view (sym (variants.rolls-Choose t a b)) ∙ fold-roll-Term words.Term term_layer (opens.Choose t a b)

pub term_view-Byte : (signed : Bool) (at : Bor Term) → term_view (variants.Byte signed at) ≡ byte signed (term_view at.now)
unfolding term_view
term_view-Byte signed at = ap term_view (sym (variants.rolls-Byte signed at)) ∙ fold-roll-Term words.Term term_layer (opens.Byte signed at)

pub term_view-Whole : (at : Bor Term) → term_view (variants.Whole at) ≡ whole (term_view at.now)
unfolding term_view
term_view-Whole at = ap term_view (sym (variants.rolls-Whole at)) ∙ fold-roll-Term words.Term term_layer (opens.Whole at)

pub ruleset terms = (term_view-Read, term_view-Number, term_view-Both, term_view-BothNumber, term_view-BothRead, term_view-Flip, term_view-SumOfTwo, term_view-SumOfThree, term_view-SumNumber, term_view-SumRead, term_view-SumOfFour, term_view-Product, term_view-Zeros, term_view-Compare, term_view-CompareNumber, term_view-CompareRead, term_view-Choose, term_view-Byte, term_view-Whole)
