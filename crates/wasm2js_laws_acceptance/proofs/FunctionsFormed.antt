-- The instructions in the tree of a body are those of its expression: they have opcodes, their constants are words, and the types that
-- calls of entries name, and the helpers, are among those that are called.
use Rattle.std.proofs.Common.{◌≡◌, ℕ, zero, suc, ◌+◌, Bool, true, false, cond, List, [], ◌∷◌, ◌++◌, length, Some, None, refl, sym, subst}
use Rattle.std.specs.Prelude.{slice_get, All, ◌||◌}
use Rattle.std.specs.List.{AllByRecursion, list_any}
use Rattle.std.specs.Cmp.Lexicographic.{pointwise}
use Rattle.std.proofs.lemmas.List.Elements.{recursion_from_All}
use Rattle.wasm_lang.specs.declared.types.ValType.{ValType}
use Rattle.wasm_lang.specs.declared.types.ValType.TheVariants.{I32, I64}
use Rattle.wasm_lang.specs.Instructions as flat
use Rattle.wasm_lang.specs.Instructions.{Plain, load, store, const32, const64, bin64, sign_extend, Instruction}
use Rattle.wasm_lang.specs.Modules.{FunctionType, FunctionBody, WasmModule}
use Rattle.wasm_lang.specs.Opcodes.{opcodes, form_at, form_of}
use Rattle.wasm_lang.specs.Shape.{HasOpcode, IsShapedCode}
use Rattle.wasm_lang.proofs.Table.{all_pass, found_passes}
use Rattle.wasm_lang_valid.specs.ModuleRules.{imported_functions}
use Rattle.wasm_lang_valid.specs.Typing.{same}
use Rattle.wasm_lang_valid.specs.Measures.{called, called_in, called_types, same_type, is_among, is_wide_mul_div, has_mul_div, first_mul_div, measures_of}
use Rattle.wasm_lang_exec.specs.Code.{unreachable, block, loop, if_block, br, br_if, br_table, return, call, call_indirect, plain, Trees, ε, ◌▹◌, ◌⊕◌, one, Open, a_block, a_loop, an_if, an_else, nest, tree_of}
use Rattle.wasm2js_lang.specs.Helpers.{is_wide_operator}
use Rattle.wasm2js_lang.specs.Parts.Functions.{counts_set_bits, is_signed_quotient, is_quotient, is_signed_remainder, is_remainder, is_load, is_store, is_copy, is_fill, has_instruction, is_asked}
use Rattle.wasm2js_translation.specs.Names as names
use Rattle.wasm2js_translation.specs.Names.{Fixed}
use Rattle.wasm2js_translation.specs.Words.{name_of}
use Rattle.wasm2js_laws_scopes.specs.Provided.{asks, Called, AsksAmong}
use Rattle.wasm2js_laws_typed.specs.Laws.{is_loaded, is_stored, is_extended, IsFormed}
use Rattle.wasm2js_laws_typed.specs.Bodies.{IsFormedCode}
use Rattle.wasm2js_laws_acceptance.specs.FunctionsFunctions.{HasWord, is_called}

-- ---- loads, stores and extensions

abbrev is_there : Instruction → Bool
is_there (flat.plain (load op align offset)) = is_loaded op.wide op.signed op.size
is_there (flat.plain (store op align offset)) = is_stored op.wide op.signed op.size
is_there (flat.plain (sign_extend wide bits)) = is_extended wide bits
is_there i = true

all_there : all_pass (λ b i. is_there i) opcodes ≡ true
all_there = refl

form_is_there : (i : Instruction) → HasOpcode i → is_there (form_of i) ≡ true
unfolding form_at
form_is_there i h = found_passes (λ b i. is_there i) h.0 opcodes (form_of i) all_there h.1

plain_is_formed : (p : Plain) → is_there (form_of (flat.plain p)) ≡ true → HasWord (flat.plain p) → is_wide_mul_div (flat.plain p) ≡ false → IsFormed p
plain_is_formed (const32 n) h w m = w
plain_is_formed (const64 n) h w m = w
plain_is_formed (load op align offset) h w m = h
plain_is_formed (store op align offset) h w m = h
plain_is_formed (bin64 op) h w m = m
plain_is_formed (sign_extend wide bits) h w m = h
plain_is_formed p h w m = tt

-- ---- words of 64 bits aren't multiplied or divided

abbrev AreNoProducts : List Instruction → Type 0
AreNoProducts is = AllByRecursion (λ i. is_wide_mul_div i ≡ false) is

no_products : (is : List Instruction) → has_mul_div is ≡ false → AreNoProducts is
no_products [] h = tt
no_products (i ∷ is) h = by (is_wide_mul_div i) refl (no_products is) h
  where
    by : (t : Bool) → is_wide_mul_div i ≡ t → (has_mul_div is ≡ false → AreNoProducts is) → (t || has_mul_div is) ≡ false → AreNoProducts (i ∷ is)
    by true e f h = absurd (cc h)
    by false e f h = (e, f h)

no_first : (n : ℕ) (bs : List FunctionBody) → first_mul_div n bs ≡ None → AllByRecursion (λ (b : FunctionBody). has_mul_div b.code ≡ false) bs
no_first n [] h = tt
no_first n (b ∷ bs) h = by (has_mul_div b.code) refl (no_first (n + 1) bs) h
  where
    by : (t : Bool) → has_mul_div b.code ≡ t → (first_mul_div (n + 1) bs ≡ None → AllByRecursion (λ (b : FunctionBody). has_mul_div b.code ≡ false) bs)
        → cond t (Some n) (first_mul_div (n + 1) bs) ≡ None → AllByRecursion (λ (b : FunctionBody). has_mul_div b.code ≡ false) (b ∷ bs)
    by true e f h = absurd (cc h)
    by false e f h = (e, f h)

-- ---- from the expression to the tree

module _ (types : List FunctionType) (is_called : Called) where
  abbrev pub IsFormedHere : Instruction → Type 0
  IsFormedHere (flat.plain p) = IsFormed p × AsksAmong is_called.helpers p
  IsFormedHere (flat.call_indirect n) = (t : FunctionType) → slice_get types n ≡ Some t → is_called.types t ≡ true
  IsFormedHere i = Unit {0}

  abbrev F : Trees → Type 0
  F = IsFormedCode types is_called

  joined : (a b : Trees) → F a → F b → F (a ⊕ b)
  joined ε b h k = k
  joined (plain p ▹ a) b h k = (h.0, joined a b h.1 k)
  joined (block r body ▹ a) b h k = (h.0, joined a b h.1 k)
  joined (loop r body ▹ a) b h k = (h.0, joined a b h.1 k)
  joined (if_block r first second ▹ a) b h k = (h.0, h.1, joined a b h.2 k)
  joined (call_indirect n ▹ a) b h k = (h.0, joined a b h.1 k)
  joined (unreachable ▹ a) b h k = joined a b h k
  joined (br n ▹ a) b h k = joined a b h k
  joined (br_if n ▹ a) b h k = joined a b h k
  joined (br_table ns d ▹ a) b h k = joined a b h k
  joined (return ▹ a) b h k = joined a b h k
  joined (call f ▹ a) b h k = joined a b h k

  abbrev AreFormed : List Open → Type 0
  AreFormed [] = Unit {0}
  AreFormed (a_block before r ∷ opens) = F before × AreFormed opens
  AreFormed (a_loop before r ∷ opens) = F before × AreFormed opens
  AreFormed (an_if before r ∷ opens) = F before × AreFormed opens
  AreFormed (an_else before r first ∷ opens) = F before × F first × AreFormed opens

  module _ (x : Trees) where
    formed : (read : Trees) (opens : List Open) (is : List Instruction) → AllByRecursion IsFormedHere is → F read → AreFormed opens → nest read opens is ≡ Some x → F x
    formed read opens [] all r os h = absurd (cc h)
    formed read opens (flat.unreachable ∷ is) all r os h = formed (read ⊕ one unreachable) opens is all.1 (joined read (one unreachable) r tt) os h
    formed read opens (flat.br l ∷ is) all r os h = formed (read ⊕ one (br l)) opens is all.1 (joined read (one (br l)) r tt) os h
    formed read opens (flat.br_if l ∷ is) all r os h = formed (read ⊕ one (br_if l)) opens is all.1 (joined read (one (br_if l)) r tt) os h
    formed read opens (flat.br_table ks l ∷ is) all r os h = formed (read ⊕ one (br_table ks l)) opens is all.1 (joined read (one (br_table ks l)) r tt) os h
    formed read opens (flat.return ∷ is) all r os h = formed (read ⊕ one return) opens is all.1 (joined read (one return) r tt) os h
    formed read opens (flat.call f ∷ is) all r os h = formed (read ⊕ one (call f)) opens is all.1 (joined read (one (call f)) r tt) os h
    formed read opens (flat.call_indirect t ∷ is) all r os h = formed (read ⊕ one (call_indirect t)) opens is all.1 (joined read (one (call_indirect t)) r (all.0, tt)) os h
    formed read opens (flat.plain p ∷ is) all r os h = formed (read ⊕ one (plain p)) opens is all.1 (joined read (one (plain p)) r (all.0, tt)) os h
    formed read opens (flat.block q ∷ is) all r os h = formed ε (a_block read q ∷ opens) is all.1 tt (r, os) h
    formed read opens (flat.loop q ∷ is) all r os h = formed ε (a_loop read q ∷ opens) is all.1 tt (r, os) h
    formed read opens (flat.if_block q ∷ is) all r os h = formed ε (an_if read q ∷ opens) is all.1 tt (r, os) h
    formed read [] (flat.else_mark ∷ is) all r os h = absurd (cc h)
    formed read (a_block before q ∷ opens) (flat.else_mark ∷ is) all r os h = absurd (cc h)
    formed read (a_loop before q ∷ opens) (flat.else_mark ∷ is) all r os h = absurd (cc h)
    formed read (an_if before q ∷ opens) (flat.else_mark ∷ is) all r os h = formed ε (an_else before q read ∷ opens) is all.1 tt (os.0, r, os.1) h
    formed read (an_else before q first ∷ opens) (flat.else_mark ∷ is) all r os h = absurd (cc h)
    formed read [] (flat.end_mark ∷ []) all r os h = let e : read ≡ x = cc h in subst F e r
    formed read [] (flat.end_mark ∷ i ∷ is) all r os h = absurd (cc h)
    formed read (a_block before q ∷ opens) (flat.end_mark ∷ is) all r os h = formed (before ⊕ one (block q read)) opens is all.1 (joined before (one (block q read)) os.0 (r, tt)) os.1 h
    formed read (a_loop before q ∷ opens) (flat.end_mark ∷ is) all r os h = formed (before ⊕ one (loop q read)) opens is all.1 (joined before (one (loop q read)) os.0 (r, tt)) os.1 h
    formed read (an_if before q ∷ opens) (flat.end_mark ∷ is) all r os h = formed (before ⊕ one (if_block q read ε)) opens is all.1 (joined before (one (if_block q read ε)) os.0 (r, tt, tt)) os.1 h
    formed read (an_else before q first ∷ opens) (flat.end_mark ∷ is) all r os h =
        formed (before ⊕ one (if_block q first read)) opens is all.1 (joined before (one (if_block q first read)) os.0 (os.1, r, tt)) os.2 h

  formed_tree : (code : List Instruction) (trees : Trees) → AllByRecursion IsFormedHere code → tree_of code ≡ Some trees → F trees
  formed_tree code trees all h = formed trees ε [] code all tt tt h

-- ---- the types that calls of entries name

same_kind : (t : ValType) → same t t ≡ true
same_kind I32 = refl
same_kind I64 = refl

same_kinds : (ts : List ValType) → pointwise same ts ts ≡ true
same_kinds [] = refl
same_kinds (t ∷ ts) = let e = same_kind t in let f = same_kinds ts in rw (e, f) refl

same_self : (t : FunctionType) → same_type t t ≡ true
same_self t = let e = same_kinds t.params in let f = same_kinds t.results in rw (e, f) refl

or_true : (a : Bool) → (a || true) ≡ true
or_true true = refl
or_true false = refl

among_left : (t : FunctionType) (a b : List FunctionType) → is_among t a ≡ true → is_among t (a ++ b) ≡ true
among_left t [] b h = absurd (cc h)
among_left t (u ∷ a) b h = by (same_type t u) h (among_left t a b)
  where
    by : (s : Bool) → (s || is_among t a) ≡ true → (is_among t a ≡ true → is_among t (a ++ b) ≡ true) → (s || is_among t (a ++ b)) ≡ true
    by true h f = refl
    by false h f = f h

among_right : (t : FunctionType) (a b : List FunctionType) → is_among t b ≡ true → is_among t (a ++ b) ≡ true
among_right t [] b h = h
among_right t (u ∷ a) b h = let e = among_right t a b h in rw e (or_true (same_type t u))

-- ---- the helpers that instructions ask for

or_first : (a b : Bool) → a ≡ true → (a || b) ≡ true
or_first true b h = refl
or_first false b h = absurd (cc h)

or_second : (a b : Bool) → b ≡ true → (a || b) ≡ true
or_second true b h = refl
or_second false b h = h

none_among : (is : List Instruction) → list_any (λ i. false) is ≡ true → ⊥
none_among [] h = cc h
none_among (i ∷ is) h = none_among is h

-- an instruction of one body is one of the module
among_bodies : (is_one : Instruction → Bool) (bodies : List FunctionBody) (i : ℕ) (b : FunctionBody) → slice_get bodies i ≡ Some b → list_any is_one b.code ≡ true
    → list_any (λ (b : FunctionBody). list_any is_one b.code) bodies ≡ true
among_bodies is_one [] i b e h = absurd (cc e)
among_bodies is_one (x ∷ bodies) zero b e h =
    let same : x ≡ b = cc e in
    or_first (list_any is_one x.code) _ (subst (λ (b : FunctionBody). list_any is_one b.code ≡ true) (sym same) h)
among_bodies is_one (x ∷ bodies) (suc i) b e h = or_second (list_any is_one x.code) _ (among_bodies is_one bodies i b e h)

module _ (w : WasmModule) (code : List Instruction) (all : (is_one : Instruction → Bool) → list_any is_one code ≡ true → has_instruction is_one w ≡ true) where
  -- what some instruction asks for is there
  pub asked_is_there : (f : Fixed) → list_any (asks f) code ≡ true → is_asked w (name_of f) ≡ true
  asked_is_there names.shift_left h = all is_wide_operator h
  asked_is_there names.shift_right_signed h = all is_wide_operator h
  asked_is_there names.shift_right h = all is_wide_operator h
  asked_is_there names.rotate_left h = all is_wide_operator h
  asked_is_there names.leading_zeros h = all is_wide_operator h
  asked_is_there names.trailing_zeros h = all is_wide_operator h
  asked_is_there names.set_bits h = all counts_set_bits h
  asked_is_there names.divide_signed h = all is_signed_quotient h
  asked_is_there names.divide h = all is_quotient h
  asked_is_there names.remainder_signed h = all is_signed_remainder h
  asked_is_there names.remainder h = all is_remainder h
  asked_is_there names.load_32 h = all (is_load 4) h
  asked_is_there names.load_64 h = all (is_load 8) h
  asked_is_there names.store_32 h = all (is_store 4) h
  asked_is_there names.store_64 h = all (is_store 8) h
  asked_is_there names.copy h = all is_copy h
  asked_is_there names.fill h = all is_fill h
  asked_is_there f h = absurd (none_among code h)

module _ (types : List FunctionType) where
  among_body : (bodies : List FunctionBody) (i : ℕ) (b : FunctionBody) (t : FunctionType) → slice_get bodies i ≡ Some b → is_among t (called_in types b.code) ≡ true → is_among t (called_types types bodies) ≡ true
  among_body [] i b t e h = absurd (cc e)
  among_body (x ∷ bodies) zero b t e h =
      let same : x ≡ b = cc e in
      among_left t (called_in types x.code) (called_types types bodies) (subst (λ (b : FunctionBody). is_among t (called_in types b.code) ≡ true) (sym same) h)
  among_body (x ∷ bodies) (suc i) b t e h = among_right t (called_in types x.code) (called_types types bodies) (among_body bodies i b t e h)

  call_is_among : (n : ℕ) (t : FunctionType) → slice_get types n ≡ Some t → is_among t (called types (flat.call_indirect n)) ≡ true
  call_is_among n t e = rw e (let f = same_self t in rw f refl)

  module _ (all_called : Called) where
    formed_code : (code : List Instruction) → AllByRecursion HasOpcode code → AllByRecursion HasWord code → AreNoProducts code
        → ((t : FunctionType) → is_among t (called_in types code) ≡ true → all_called.types t ≡ true) → ((f : Fixed) → list_any (asks f) code ≡ true → all_called.helpers f ≡ true)
        → AllByRecursion (IsFormedHere types all_called) code
    formed_code [] o w m c a = tt
    formed_code (i ∷ is) o w m c a = (
      here i o.0 w.0 m.0 (λ t h. c t (among_left t (called types i) (called_in types is) h)) (λ f h. a f (or_first (asks f i) (list_any (asks f) is) h)),
      formed_code is o.1 w.1 m.1 (λ t h. c t (among_right t (called types i) (called_in types is) h)) (λ f h. a f (or_second (asks f i) (list_any (asks f) is) h)),
    )
      where
        here : (i : Instruction) → HasOpcode i → HasWord i → is_wide_mul_div i ≡ false → ((t : FunctionType) → is_among t (called types i) ≡ true → all_called.types t ≡ true)
            → ((f : Fixed) → asks f i ≡ true → all_called.helpers f ≡ true) → IsFormedHere types all_called i
        here (flat.plain p) o w m c a = (plain_is_formed p (form_is_there (flat.plain p) o) w m, a)
        here (flat.call_indirect n) o w m c a = λ t e. c t (call_is_among n t e)
        here flat.unreachable o w m c a = tt
        here (flat.block r) o w m c a = tt
        here (flat.loop r) o w m c a = tt
        here (flat.if_block r) o w m c a = tt
        here flat.else_mark o w m c a = tt
        here flat.end_mark o w m c a = tt
        here (flat.br l) o w m c a = tt
        here (flat.br_if l) o w m c a = tt
        here (flat.br_table ls d) o w m c a = tt
        here flat.return o w m c a = tt
        here (flat.call f) o w m c a = tt

-- ---- a body of a module

at_place : {A : Type 0} → (P : A → Type 0) (xs : List A) (i : ℕ) (x : A) → AllByRecursion P xs → slice_get xs i ≡ Some x → P x
at_place P [] i x h e = absurd (cc e)
at_place P (y ∷ xs) zero x h e = let same : y ≡ x = cc e in subst P same h.0
at_place P (y ∷ xs) (suc i) x h e = at_place P xs i x h.1 e

pub body_is_formed : (w : WasmModule) (i : ℕ) (b : FunctionBody) (trees : Trees) → All (λ b. IsShapedCode b.code) w.bodies → All (λ b. All HasWord b.code) w.bodies → (measures_of w).mul_div ≡ None
    → slice_get w.bodies i ≡ Some b → tree_of b.code ≡ Some trees → IsFormedCode w.types (is_called w) trees
body_is_formed w i b trees shaped words products is tree =
    let s = at_place (λ (b : FunctionBody). IsShapedCode b.code) w.bodies i b (recursion_from_All (λ (b : FunctionBody). IsShapedCode b.code) w.bodies shaped) is in
    let v = at_place (λ (b : FunctionBody). All HasWord b.code) w.bodies i b (recursion_from_All (λ (b : FunctionBody). All HasWord b.code) w.bodies words) is in
    let m = at_place (λ (b : FunctionBody). has_mul_div b.code ≡ false) w.bodies i b (no_first (length (imported_functions w.imports)) w.bodies products) is in
    formed_tree w.types (is_called w) b.code trees
    (formed_code w.types (is_called w) b.code (recursion_from_All HasOpcode b.code s.opcodes) (recursion_from_All HasWord b.code v) (no_products b.code m) (λ t h. among_body w.types w.bodies i b t is h) (asked_is_there w b.code (λ is_one h. among_bodies is_one w.bodies i b is h))) tree
