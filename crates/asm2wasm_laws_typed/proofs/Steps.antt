-- The types of single instructions, and of the pieces that the code of an expression is made of.
use Rattle.std.proofs.Common.{◌≡◌, ℕ, zero, suc, ◌≤◌, Bool, true, false, List, [], ◌∷◌, ◌++◌, Some, refl, sym, ap, ◌∙◌, arith}
use Rattle.std.specs.Prelude.{nat_le, ◌^◌, reverse, replicate, slice_get, Ok}
use Rattle.std.proofs.lemmas.List.{reverse-append}
use Rattle.sem_words.specs.declared.word.Bin.{Bin}
use Rattle.sem_words.specs.declared.word.Un.{Un}
use Rattle.sem_words.specs.declared.word.Rel.{Rel}
use Rattle.wasm_lang.specs.declared.types.ValType.{ValType}
use Rattle.wasm_lang.specs.declared.types.ValType.TheVariants.{I32}
use Rattle.wasm_lang.specs.Instructions as instructions
use Rattle.wasm_lang.specs.Instructions.{Plain, const32, bin32, rel32, un32, eqz32, local_get, local_set, local_tee, global_get, global_set, drop_operand}
use Rattle.wasm_lang.specs.Modules.{FunctionType}
use Rattle.wasm_lang_valid.specs.declared.rule.Rule.TheVariants.{NoLocal, NoGlobal, NoMemory, NoFunction, NoType, NoTable, Alignment, ConstantGlobal}
use Rattle.wasm_lang_valid.specs.Typing.{Context, Fixed, Leaves, AnyOne, fixed, leaves, any_one, plain_shape, plain_late, shape, found, onward, unless, may_set, natural, call_shape, type_of}
use Rattle.wasm_lang_exec.specs.Code.{Trees, ◌⊕◌}
use Rattle.wasm_laws_sound.specs.Trees.{Steps}
use Rattle.wasm_laws_trees.specs.Spelled.{reach}
use Rattle.wasm_laws_trees.proofs.Joined.{reach_joins}
use Rattle.asm_lang_valid.specs.declared.meaning.Element.{Element}
use Rattle.asm_lang_valid.specs.declared.meaning.Element.TheVariants.{Int8, Uint8, Int16, Uint16, Int32, Uint32}
use Rattle.asm_lang_valid.specs.Scope.{shift_of}
use Rattle.asm2wasm_lang.specs.Calling.{int_type}
use Rattle.asm2wasm_translation.specs.Values.{access}
use Rattle.asm2wasm_laws_typed.specs.Laws.{given}
use Rattle.asm2wasm_laws_typed.specs.Contexts.{variable_int}

-- ---- instructions

module _ {w : Context} where
  step : {p : Plain} {further : List ValType → Type 0} (takes gives below : List ValType)
      → plain_shape w p ≡ Ok (Fixed takes gives) → plain_late w p ≡ Ok tt → further (gives ++ below) → Steps w (instructions.plain p) (takes ++ below) further
  step takes gives below form rules h = record { form = Fixed takes gives; takes = takes; gives = gives; below = below; has_form = form; acts = fixed; keeps_rules = rules; operands = refl; goes_on = h }

  pub const_step : {n : ℕ} {below : List ValType} {further : List ValType → Type 0} → further (I32 ∷ below) → Steps w (instructions.plain (const32 n)) below further
  const_step h = step [] (I32 ∷ []) _ refl refl h

  pub bin_step : {op : Bin} {below : List ValType} {further : List ValType → Type 0} → further (I32 ∷ below) → Steps w (instructions.plain (bin32 op)) (I32 ∷ I32 ∷ below) further
  bin_step h = step (I32 ∷ I32 ∷ []) (I32 ∷ []) _ refl refl h

  pub rel_step : {op : Rel} {below : List ValType} {further : List ValType → Type 0} → further (I32 ∷ below) → Steps w (instructions.plain (rel32 op)) (I32 ∷ I32 ∷ below) further
  rel_step h = step (I32 ∷ I32 ∷ []) (I32 ∷ []) _ refl refl h

  pub un_step : {op : Un} {below : List ValType} {further : List ValType → Type 0} → further (I32 ∷ below) → Steps w (instructions.plain (un32 op)) (I32 ∷ below) further
  un_step h = step (I32 ∷ []) (I32 ∷ []) _ refl refl h

  pub eqz_step : {below : List ValType} {further : List ValType → Type 0} → further (I32 ∷ below) → Steps w (instructions.plain eqz32) (I32 ∷ below) further
  eqz_step h = step (I32 ∷ []) (I32 ∷ []) _ refl refl h

  pub drop_step : {below : List ValType} {further : List ValType → Type 0} → further below → Steps w (instructions.plain drop_operand) (I32 ∷ below) further
  drop_step h = record { form = AnyOne; takes = I32 ∷ []; gives = []; below = _; has_form = refl; acts = any_one; keeps_rules = refl; operands = refl; goes_on = h }

  pub get_step : {x : ℕ} {below : List ValType} {further : List ValType → Type 0} → slice_get w.locals x ≡ Some I32 → further (I32 ∷ below) → Steps w (instructions.plain (local_get x)) below further
  get_step is h = step [] (I32 ∷ []) _ (ap (λ o. found NoLocal o (λ t. Fixed [] (t ∷ []))) is) refl h

  pub set_step : {x : ℕ} {below : List ValType} {further : List ValType → Type 0} → slice_get w.locals x ≡ Some I32 → further below → Steps w (instructions.plain (local_set x)) (I32 ∷ below) further
  set_step is h = step (I32 ∷ []) [] _ (ap (λ o. found NoLocal o (λ t. Fixed (t ∷ []) [])) is) refl h

  pub tee_step : {x : ℕ} {below : List ValType} {further : List ValType → Type 0} → slice_get w.locals x ≡ Some I32 → further (I32 ∷ below) → Steps w (instructions.plain (local_tee x)) (I32 ∷ below) further
  tee_step is h = step (I32 ∷ []) (I32 ∷ []) _ (ap (λ o. found NoLocal o (λ t. Fixed (t ∷ []) (t ∷ []))) is) refl h

  pub global_get_step : {x : ℕ} {below : List ValType} {further : List ValType → Type 0} → slice_get w.globals x ≡ Some variable_int → further (I32 ∷ below) → Steps w (instructions.plain (global_get x)) below further
  global_get_step is h = step [] (I32 ∷ []) _ (ap (λ o. found NoGlobal o (λ g. Fixed [] (g.kind ∷ []))) is) refl h

  pub global_set_step : {x : ℕ} {below : List ValType} {further : List ValType → Type 0} → slice_get w.globals x ≡ Some variable_int → further below → Steps w (instructions.plain (global_set x)) (I32 ∷ below) further
  global_set_step is h = step (I32 ∷ []) [] _ (ap (λ o. found NoGlobal o (λ g. Fixed (g.kind ∷ []) [])) is) (ap (λ o. unless (may_set o) ConstantGlobal tt) is) h

  -- what doesn't go on may leave anything
  pub stop_step : {further : List ValType → Type 0} (takes gives below : List ValType) → further (gives ++ below) → Steps w instructions.unreachable (takes ++ below) further
  stop_step takes gives below h = record { form = Leaves []; takes = takes; gives = gives; below = below; has_form = refl; acts = leaves takes gives; keeps_rules = refl; operands = refl; goes_on = h }

-- ---- elements of views

natural_alignment : (v : Element) → nat_le (shift_of v) (natural (2 ^ shift_of v)) ≡ true
natural_alignment Int8 = refl
natural_alignment Uint8 = refl
natural_alignment Int16 = refl
natural_alignment Uint16 = refl
natural_alignment Int32 = refl
natural_alignment Uint32 = refl

module _ {w : Context} where
  pub load_step : (v : Element) {signed : Bool} {below : List ValType} {further : List ValType → Type 0}
      → w.memory ≡ true → further (I32 ∷ below) → Steps w (instructions.plain (instructions.load (access v signed) (shift_of v) 0)) (I32 ∷ below) further
  load_step v is h = step (I32 ∷ []) (I32 ∷ []) _ (ap (λ b. unless b NoMemory (Fixed (I32 ∷ []) (I32 ∷ []))) is) (ap (λ b. unless b Alignment tt) (natural_alignment v)) h

  pub store_step : (v : Element) {signed : Bool} {below : List ValType} {further : List ValType → Type 0}
      → w.memory ≡ true → further below → Steps w (instructions.plain (instructions.store (access v signed) (shift_of v) 0)) (I32 ∷ I32 ∷ below) further
  store_step v is h = step (I32 ∷ I32 ∷ []) [] _ (ap (λ b. unless b NoMemory (Fixed (I32 ∷ I32 ∷ []) [])) is) (ap (λ b. unless b Alignment tt) (natural_alignment v)) h

-- ---- calls

-- so many ints on the stack
abbrev pub ints : ℕ → List ValType → List ValType
ints n below = replicate n I32 ++ below

pub one_further : (n : ℕ) (below : List ValType) → ints n (I32 ∷ below) ≡ I32 ∷ ints n below
one_further zero below = refl
one_further (suc n) below = ap (λ ts. I32 ∷ ts) (one_further n below)

at_end : (n : ℕ) → replicate n I32 ++ I32 ∷ [] ≡ I32 ∷ replicate n I32
at_end zero = refl
at_end (suc n) = ap (λ ts. I32 ∷ ts) (at_end n)

turned : (n : ℕ) → reverse (replicate n I32) ≡ replicate n I32
turned zero = refl
turned (suc n) = reverse-append (I32 ∷ []) (replicate n I32) ∙ (ap (λ ts. ts ++ I32 ∷ []) (turned n) ∙ at_end n)

entry_form : (w : Context) (t : ℕ) (s : FunctionType) → w.table ≡ true → slice_get w.types t ≡ Some s → shape w (instructions.call_indirect t) ≡ Ok (call_shape (I32 ∷ []) s)
entry_form w t s table is = ap (λ o. onward (found NoType o (call_shape (I32 ∷ []))) (unless w.table NoTable)) is ∙ ap (λ b. unless b NoTable (call_shape (I32 ∷ []) s)) table

module _ {w : Context} where
  pub call_step : {f : ℕ} (n : ℕ) (result : Bool) (below : List ValType) {further : List ValType → Type 0}
      → type_of w f ≡ Some (int_type n result) → further (given result below) → Steps w (instructions.call f) (ints n below) further
  call_step n true below is h =
      record { form = Fixed (reverse (replicate n I32)) (I32 ∷ []); takes = reverse (replicate n I32); gives = I32 ∷ []; below = below; has_form = ap (λ o. found NoFunction o (call_shape [])) is; acts = fixed; keeps_rules = refl; operands = ap (λ ts. ts ++ below) (sym (turned n)); goes_on = h }
  call_step n false below is h =
      record { form = Fixed (reverse (replicate n I32)) []; takes = reverse (replicate n I32); gives = []; below = below; has_form = ap (λ o. found NoFunction o (call_shape [])) is; acts = fixed; keeps_rules = refl; operands = ap (λ ts. ts ++ below) (sym (turned n)); goes_on = h }

  pub entry_step : (t : ℕ) (n : ℕ) (result : Bool) (below : List ValType) {further : List ValType → Type 0}
      → w.table ≡ true → slice_get w.types t ≡ Some (int_type n result) → further (given result below) → Steps w (instructions.call_indirect t) (I32 ∷ ints n below) further
  entry_step t n true below table is h =
      record { form = Fixed (I32 ∷ reverse (replicate n I32)) (I32 ∷ []); takes = I32 ∷ reverse (replicate n I32); gives = I32 ∷ []; below = below; has_form = entry_form w t _ table is; acts = fixed; keeps_rules = refl; operands = ap (λ ts. I32 ∷ (ts ++ below)) (sym (turned n)); goes_on = h }
  entry_step t n false below table is h =
      record { form = Fixed (I32 ∷ reverse (replicate n I32)) []; takes = I32 ∷ reverse (replicate n I32); gives = []; below = below; has_form = entry_form w t _ table is; acts = fixed; keeps_rules = refl; operands = ap (λ ts. I32 ∷ (ts ++ below)) (sym (turned n)); goes_on = h }

-- ---- reach of parts

pub reach_left : (a b : Trees) {n : ℕ} → reach (a ⊕ b) ≤ n → reach a ≤ n
reach_left a b h = omega (arith, h, reach_joins a b)

pub reach_right : (a b : Trees) {n : ℕ} → reach (a ⊕ b) ≤ n → reach b ≤ n
reach_right a b h = omega (arith, h, reach_joins a b)
