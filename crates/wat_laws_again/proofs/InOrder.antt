-- The fields of a canonical text stand in order.
use Rattle.std.proofs.Common.{◌≡◌, ℕ, Bool, true, false, ◌&&◌, ◌||◌, List, [], ◌∷◌, ◌++◌, drop, get_or, refl, sym, ap, ◌∙◌, subst}
use Rattle.wat_lang.specs.declared.parts.FieldKind.{FieldKind}
use Rattle.wat_lang.specs.declared.parts.FieldKind.TheVariants as kinds
use Rattle.wat_lang.specs.declared.fault.Row.TheVariants as rows
use Rattle.wat_lang.specs.Tokens.{atom}
use Rattle.wat_lang.specs.Grammar.{a_field}
use Rattle.wat_lang.specs.Names.{Field, cut, is_import}
use Rattle.wat_lang.specs.Rows.{where_holds, starts, defines, order_rows}
use Rattle.wat_laws_again.specs.Signs.{Sign, placed, open_sign}
use Rattle.wat_laws_again.proofs.Over.{Over, IsPart, fields_over}

-- behind whatever stands before
abbrev pub OrderAny : List Sign → Type 0
OrderAny k = (ns : List ℕ) (defined started : Bool) → order_rows defined started (cut (placed ns k)).1 ≡ []

-- where no start stands before
abbrev pub OrderStart : List Sign → Type 0
OrderStart k = (ns : List ℕ) (defined : Bool) → order_rows defined false (cut (placed ns k)).1 ≡ []

-- where nothing but types and imports stands before
abbrev pub OrderFirst : List Sign → Type 0
OrderFirst k = (ns : List ℕ) → order_rows false false (cut (placed ns k)).1 ≡ []

module _ (kind : FieldKind) (keyword : List ℕ) {ss k : List Sign} (over : Over IsPart k ss) where
  abbrev field : List Sign
  field = open_sign ∷ (a_field kind, atom keyword) ∷ ss

  one : (ns : List ℕ) (d s : Bool) → (is_import kind && d) || (starts kind && s) ≡ false → ((ms : List ℕ) → order_rows (d || defines kind) (s || starts kind) (cut (placed ms k)).1 ≡ []) → order_rows d s (cut (placed ns field)).1 ≡ []
  one ns d s none h =
      let n2 = drop 1 (drop 1 ns) in
      ap (λ (b : Bool). where_holds b rows.Order (get_or (drop 1 ns) 0 0) ++ order_rows (d || defines kind) (s || starts kind) (cut (placed n2 ss)).1) none
      ∙ fields_over IsPart (λ m p. p) (λ (fs : List Field). order_rows (d || defines kind) (s || starts kind) fs ≡ []) over h n2

  neither : (a b d s : Bool) → a ≡ false → b ≡ false → (a && d) || (b && s) ≡ false
  neither true b d s e f = absurd cc
  neither false true d s e f = absurd cc
  neither false false d s e f = refl

  pub any_order : is_import kind ≡ false → starts kind ≡ false → OrderAny k → OrderAny field
  any_order e f h ns d s = one ns d s (neither (is_import kind) (starts kind) d s e f) (λ ms. h ms (d || defines kind) (s || starts kind))

  pub start_order : is_import kind ≡ false → starts kind ≡ false → OrderStart k → OrderStart field
  start_order e f h ns d =
      one ns d false (neither (is_import kind) (starts kind) d false e f) (λ ms. subst (λ (b : Bool). order_rows (d || defines kind) b (cut (placed ms k)).1 ≡ []) (sym f) (h ms (d || defines kind)))

  pub first_order : defines kind ≡ false → starts kind ≡ false → OrderFirst k → OrderFirst field
  first_order e f h ns =
      one ns false false (no_before (is_import kind) (starts kind)) (λ ms. subst (λ (b : Bool). order_rows b (starts kind) (cut (placed ms k)).1 ≡ []) (sym e) (subst (λ (b : Bool). order_rows false b (cut (placed ms k)).1 ≡ []) (sym f) (h ms)))
    where
      no_before : (a b : Bool) → (a && false) || (b && false) ≡ false
      no_before true true = refl
      no_before true false = refl
      no_before false true = refl
      no_before false false = refl

-- the start itself
pub start_first : (keyword : List ℕ) {ss k : List Sign} → Over IsPart k ss → OrderAny k → OrderStart (open_sign ∷ (a_field kinds.Start, atom keyword) ∷ ss)
start_first keyword over h ns d = one kinds.Start keyword over ns d false refl (λ ms. h ms (d || false) true)
