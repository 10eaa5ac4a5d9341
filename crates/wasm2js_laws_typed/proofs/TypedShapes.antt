-- What a typed instruction takes and leaves, whatever labels stand round it.
use Rattle.std.proofs.Common.{◌≡◌, Bool, true, false, List, [], ◌∷◌, ◌++◌, drop, Option, Some, None, Result, Ok, Err, refl, sym, ap, ◌∙◌, subst}
use Rattle.std.specs.Prelude.{slice_get}
use Rattle.std.proofs.lemmas.List.{append_assoc}
use Rattle.std.proofs.Math.Seq.{drop-append_seam}
use Rattle.wasm_lang.specs.declared.types.ValType.{ValType}
use Rattle.wasm_lang.specs.Instructions.{Plain, nop, drop_operand, select, local_get, local_set, local_tee, global_get, global_set, load, store, memory_size, memory_copy, memory_fill, const32, const64, eqz32, eqz64, rel32, rel64, un32, un64, bin32, bin64, wrap, extend_s, extend_u, sign_extend}
use Rattle.wasm_lang_valid.specs.declared.rule.Rule.{Rule}
use Rattle.wasm_lang_valid.specs.declared.rule.Rule.TheVariants.{NoLabel}
use Rattle.wasm_lang_valid.specs.Typing.{Context, Shape, Leaves, Acts, fixed, leaves, any_one, two_alike, found, unless, listed, plain_shape}
use Rattle.wasm2js_translation.specs.Bodies.{after_shape, after_form, after_plain}

pub same_shape : (c : Context) (labels : List (Option ValType)) (p : Plain) → plain_shape (record c { labels = labels }) p ≡ plain_shape c p
same_shape c labels nop = refl
same_shape c labels drop_operand = refl
same_shape c labels select = refl
same_shape c labels (local_get x) = refl
same_shape c labels (local_set x) = refl
same_shape c labels (local_tee x) = refl
same_shape c labels (global_get x) = refl
same_shape c labels (global_set x) = refl
same_shape c labels (load op align offset) = refl
same_shape c labels (store op align offset) = refl
same_shape c labels memory_size = refl
same_shape c labels memory_copy = refl
same_shape c labels memory_fill = refl
same_shape c labels (const32 n) = refl
same_shape c labels (const64 n) = refl
same_shape c labels eqz32 = refl
same_shape c labels eqz64 = refl
same_shape c labels (rel32 op) = refl
same_shape c labels (rel64 op) = refl
same_shape c labels (un32 op) = refl
same_shape c labels (un64 op) = refl
same_shape c labels (bin32 op) = refl
same_shape c labels (bin64 op) = refl
same_shape c labels wrap = refl
same_shape c labels extend_s = refl
same_shape c labels extend_u = refl
same_shape c labels (sign_extend wide bits) = refl

abbrev pub GoesOn : Result Shape Rule → Type 0
GoesOn (Err r) = Unit {0}
GoesOn (Ok (Leaves ts)) = ⊥
GoesOn (Ok s) = Unit {0}

found_goes_on : {A : Type 0} (rule : Rule) (o : Option A) (f : A → Shape) → ((x : A) → GoesOn (Ok (f x))) → GoesOn (found rule o f)
found_goes_on rule None f h = tt
found_goes_on rule (Some x) f h = h x

unless_goes_on : (b : Bool) (rule : Rule) (s : Shape) → GoesOn (Ok s) → GoesOn (unless b rule s)
unless_goes_on true rule s h = h
unless_goes_on false rule s h = tt

pub plain_goes_on : (c : Context) (p : Plain) → GoesOn (plain_shape c p)
plain_goes_on c (local_get x) = found_goes_on _ (slice_get c.locals x) _ (λ t. tt)
plain_goes_on c (local_set x) = found_goes_on _ (slice_get c.locals x) _ (λ t. tt)
plain_goes_on c (local_tee x) = found_goes_on _ (slice_get c.locals x) _ (λ t. tt)
plain_goes_on c (global_get x) = found_goes_on _ (slice_get c.globals x) _ (λ t. tt)
plain_goes_on c (global_set x) = found_goes_on _ (slice_get c.globals x) _ (λ t. tt)
plain_goes_on c (load op align offset) = unless_goes_on c.memory _ _ tt
plain_goes_on c (store op align offset) = unless_goes_on c.memory _ _ tt
plain_goes_on c memory_size = unless_goes_on c.memory _ _ tt
plain_goes_on c memory_copy = unless_goes_on c.memory _ _ tt
plain_goes_on c memory_fill = unless_goes_on c.memory _ _ tt
plain_goes_on c p = tt

shape_after : {form : Shape} {takes gives : List ValType} (below : List ValType) → GoesOn (Ok form) → Acts form takes gives → after_shape form (takes ++ below) ≡ gives ++ below
shape_after below go (fixed {takes = takes} {gives = gives}) = ap (λ ts. gives ++ ts) (drop-append_seam takes below)
shape_after below go (leaves more after) = absurd go
shape_after below go any_one = drop_none below
  where
    drop_none : (ts : List ValType) → drop 0 ts ≡ ts
    drop_none [] = refl
    drop_none (t ∷ ts) = refl
shape_after below go (two_alike {t = t}) = ap (λ ts. t ∷ ts) (drop_none below)
  where
    drop_none : (ts : List ValType) → drop 0 ts ≡ ts
    drop_none [] = refl
    drop_none (t ∷ ts) = refl

pub plain_after : (c : Context) (p : Plain) (form : Shape) (takes gives below : List ValType) → plain_shape c p ≡ Ok form → Acts form takes gives → after_plain c p (takes ++ below) ≡ gives ++ below
plain_after c p form takes gives below is acts =
    ap (λ r. after_form r (takes ++ below)) is ∙ shape_after below (subst GoesOn is (plain_goes_on c p)) acts

-- ---- what a label carries

pub record Carried (o : Option (Option ValType)) (before : List ValType) : Type 0 where
  pub carried : Option ValType
  pub below : List ValType
  pub is : o ≡ Some carried
  pub operands : before ≡ listed carried ++ below

leaves_takes : {ts takes gives : List ValType} → Acts (Leaves ts) takes gives → (more : List ValType) × (takes ≡ ts ++ more)
leaves_takes (leaves more after) = (more, refl)

pub leaving : (ts : List ValType) (form : Shape) (takes gives below before : List ValType) → ◌≡◌ {A = Result Shape Rule} (Ok (Leaves ts)) (Ok form) → Acts form takes gives → before ≡ takes ++ below
    → (more : List ValType) × (before ≡ ts ++ more)
leaving ts form takes gives below before is acts e =
    let same : Leaves ts ≡ form = cc is in
    let l = leaves_takes (subst (λ f. Acts f takes gives) (sym same) acts) in
    (l.0 ++ below, e ∙ ap (λ ts. ts ++ below) l.1 ∙ append_assoc ts l.0 below)

pub branching : (o : Option (Option ValType)) (form : Shape) (takes gives below before : List ValType) → found NoLabel o (λ label. Leaves (listed label)) ≡ Ok form → Acts form takes gives
    → before ≡ takes ++ below → Carried o before
branching None form takes gives below before is acts e = absurd (cc is)
branching (Some r) form takes gives below before is acts e = let l = leaving (listed r) form takes gives below before is acts e in record { carried = r; below = l.0; is = refl; operands = l.1 }
