-- What follows for the parts of an expression that has a type.
use Rattle.std.proofs.Common.{◌≡◌, ℕ, Bool, true, false, List, [], ◌∷◌, ◌++◌, Option, Some, None, refl, sym}
use Rattle.std.specs.Prelude.{if◌then◌else◌, ◌==◌, ◌&&◌, ◌||◌, option_and_then}
use Rattle.std.specs.Option.{is_some}
use Rattle.std.proofs.lemmas.Bool.{and_parts, eqb-true}
use Rattle.sem_words.specs.declared.js_value.JsOp.{JsOp}
use Rattle.sem_words.specs.declared.js_value.JsOp.TheVariants.{Mul}
use Rattle.asm_types.specs.declared.value_type.ValueType.{ValueType}
use Rattle.asm_types.specs.declared.value_type.ValueType.TheVariants.{Int, Intish}
use Rattle.asm_types.specs.Rows.{row, binary_row_of}
use Rattle.asm_lang.specs.Modules.{Expr, Exprs, no_exprs, exprs, Module}
use Rattle.asm_lang_valid.specs.LimitRows.{Mark, a_row, a_use}
use Rattle.asm_lang_valid.specs.Scope.{Meaning, a_view, Signature, shift_of}
use Rattle.asm_lang_valid.specs.Typing.{Scope, is_factor, typed_below, index_form, index_fits, operated, same, matches, type_of, all_below}
use Rattle.asm2wasm_laws_typed.specs.Contexts.{AreListed}

pub row_holds : (b : Bool) (t : ValueType) → is_some (row b t) ≡ true → b ≡ true
row_holds true t h = refl
row_holds false t h = absurd (cc h)

pub below_has : (top : ValueType) (o : Option ValueType) → typed_below top o ≡ true → is_some o ≡ true
below_has top None h = absurd (cc h)
below_has top (Some t) h = refl

pub if_has : (b : Bool) (o : Option ValueType) → is_some (if b then o else None) ≡ true → (b ≡ true) × (is_some o ≡ true)
if_has true o h = (refl, h)
if_has false o h = absurd (cc h)

pub then_has : (f : ValueType → Option ValueType) (o : Option ValueType) → is_some (option_and_then f o) ≡ true → is_some o ≡ true
then_has f None h = absurd (cc h)
then_has f (Some t) h = refl

pub index_has : (v : Meaning) (i : Expr) (o : Option ValueType) → index_fits v i o ≡ true → is_some o ≡ true
index_has (a_view v) i o h = (and_parts (is_some o) (index_form (shift_of v) i o) h).0
index_has _ i o h = absurd (cc h)

both_have : (f : ValueType → ValueType → Option ValueType) (a b : Option ValueType) → is_some (option_and_then (λ s. option_and_then (λ t. f s t) b) a) ≡ true
    → (is_some a ≡ true) × (is_some b ≡ true)
both_have f None b h = absurd (cc h)
both_have f (Some s) None h = absurd (cc h)
both_have f (Some s) (Some t) h = (refl, refl)

product_has : (l r : Expr) (a b : Option ValueType) → is_some (operated Mul l r a b) ≡ true → (is_some a ≡ true) × (is_some b ≡ true)
product_has l r None b h = absurd (cc h)
product_has l r (Some s) None h =
    let first = (and_parts (typed_below Int (Some s) && typed_below Int None) (is_factor l || is_factor r) (row_holds _ Intish h)).0 in
    (refl, below_has Int None (and_parts (typed_below Int (Some s)) (typed_below Int None) first).1)
product_has l r (Some s) (Some t) h = (refl, refl)

pub operated_has : (op : JsOp) (l r : Expr) (a b : Option ValueType) → is_some (operated op l r a b) ≡ true → (is_some a ≡ true) × (is_some b ≡ true)
operated_has Mul l r a b h = product_has l r a b h
operated_has op l r a b h = both_have (binary_row_of op) a b h

-- each has a type
abbrev pub AllHave : Scope → Exprs → Type 0
AllHave c no_exprs = Unit {0}
AllHave c (exprs e es) = (is_some (type_of c e) ≡ true) × AllHave c es

pub all_have : (c : Scope) (top : ValueType) (es : Exprs) → all_below c top es ≡ true → AllHave c es
all_have c top no_exprs h = tt
all_have c top (exprs e es) h =
    let parts = and_parts (typed_below top (type_of c e)) (all_below c top es) h in
    (below_has top (type_of c e) parts.0, all_have c top es parts.1)

same_is : (a b : Bool) → same a b ≡ true → a ≡ b
same_is true true h = refl
same_is true false h = sym h
same_is false false h = refl
same_is false true h = h

pub signature_matches : (s : Signature) (count : ℕ) (result : Bool) → matches (Some s) count result ≡ true → (count ≡ s.params) × (result ≡ s.result)
signature_matches s count result h =
    let parts = and_parts (count == s.params) (same result s.result) h in
    (eqb-true count s.params parts.0, same_is result s.result parts.1)

-- ---- uses

pub listed_left : (m : Module) (ms ns : List Mark) → AreListed m (ms ++ ns) → AreListed m ms
listed_left m [] ns h = tt
listed_left m (a_row x ∷ ms) ns h = listed_left m ms ns h
listed_left m (a_use f at ∷ ms) ns h = (h.0, listed_left m ms ns h.1)

pub listed_right : (m : Module) (ms ns : List Mark) → AreListed m (ms ++ ns) → AreListed m ns
listed_right m [] ns h = h
listed_right m (a_row x ∷ ms) ns h = listed_right m ms ns h
listed_right m (a_use f at ∷ ms) ns h = listed_right m ms ns h.1

-- a call, or what has a type
pub either_form : {P : Type 0} (m : Module) (b x y : Bool) (ms ns : List Mark) → (x ≡ true → AreListed m ms → P) → (y ≡ true → AreListed m ns → P)
    → (if b then x else y) ≡ true → AreListed m (if b then ms else ns) → P
either_form m true x y ms ns f g h l = f h l
either_form m false x y ms ns f g h l = g h l

-- a call before `|0`, or two operands
pub binary_form : {P : Type 0} (m : Module) (q z call : Bool) (t : ValueType) (o : Option ValueType) (ms ns : List Mark)
    → (z ≡ true → call ≡ true → AreListed m ms → P) → (is_some o ≡ true → AreListed m ns → P)
    → is_some (if q && z then row call t else o) ≡ true → AreListed m (if q && z then ms else ns) → P
binary_form m true true call t o ms ns f g h l = f refl (row_holds call t h) l
binary_form m true false call t o ms ns f g h l = g h l
binary_form m false z call t o ms ns f g h l = g h l
